-- What a transcript tells.
use Rattle.std.specs.Prelude.{ℕ, List, [], ◌∷◌}
use Rattle.vast_literal.specs.NormalExpr.{NormalExpr, Name}
use Rattle.vast_expressions.specs.Events.{NameE, LiteralE, TextE, MacroE, WordE, PartSelectE, MemberOfE, Made}
use Rattle.vast_expressions.specs.Events as expression
use Rattle.vast_expressions.specs.Internal.Values.{Value, Tree, grown}
use Rattle.vast_rows.specs.Events.{Event, Makes, Reads, Names}
use Rattle.vast_rows.specs.Phrases.{IsExpression, IsLoop, IsPath}
use Rattle.vast_read.specs.Internal.Transcripts.{Entry, Does, Tells, Says, Written, IsOf}
use Rattle.vast_read.specs.Internal.Values.{made_or}
use Rattle.vast_read.specs.declared.transcript.note.Note.{Note}
use Rattle.vast_read.specs.declared.transcript.note.Note.TheVariants as note
use Rattle.vast_read.specs.declared.transcript.note.Role.TheVariants as role

-- The entries that are written so.
abbrev pub entries_by : List Note → (texts : List (List ℕ)) → List Entry
entries_by [] ws = []
entries_by (note.Makes a ∷ ns) ws = Does a ∷ entries_by ns ws
entries_by (note.Tells t ∷ ns) ws = Tells t ∷ entries_by ns ws
entries_by (note.Says r ∷ ns) (w ∷ ws) = Says r w ∷ entries_by ns ws
entries_by (note.Says r ∷ ns) [] = []

-- Expressions that were made, the last on top, are told before what follows them.
abbrev pub before : List Value → List Event → List Event
before [] es = es
before (Tree x ∷ vs) es = before vs (Reads (IsExpression x) ∷ es)
before (_ ∷ vs) es = before vs es

-- What is made by one more event of an expression.
abbrev pub made_by : expression.Event → List Value → List Value
made_by e vs = made_or (grown e vs) vs

-- What entries tell: expressions are made event by event, as far as one stands next.
abbrev pub told_by : List Entry → (made : List Value) → List Event
told_by [] vs = before vs []
told_by (Does a ∷ es) vs = before vs (Makes a ∷ told_by es [])
told_by (Tells t ∷ es) vs = told_by es (made_by (Made t) vs)
told_by (Says role.Name w ∷ es) vs = told_by es (made_by (NameE w) vs)
told_by (Says role.Literal w ∷ es) vs = told_by es (made_by (LiteralE w) vs)
told_by (Says role.Text w ∷ es) vs = told_by es (made_by (TextE w) vs)
told_by (Says role.MacroAlone w ∷ es) vs = told_by es (made_by (MacroE w) vs)
told_by (Says role.Word w ∷ es) vs = told_by es (made_by (WordE w) vs)
told_by (Says role.Width w ∷ es) vs = told_by es (made_by (PartSelectE w) vs)
told_by (Says role.Member w ∷ es) vs = told_by es (made_by (MemberOfE w) vs)
told_by (Says role.Named w ∷ es) vs = before vs (Names w ∷ told_by es [])
told_by (Says role.Path w ∷ es) vs = before vs (Reads (IsPath w) ∷ told_by es [])
told_by (Says role.Variable i ∷ es) (Tree e ∷ (Tree x ∷ vs)) = before vs (Reads (IsLoop i x e) ∷ told_by es [])
told_by (Says role.Variable i ∷ es) vs = []

abbrev pub first_expression : List Event → NormalExpr
first_expression (Reads (IsExpression x) ∷ es) = x
first_expression _ = Name []

-- What is told by what is written, and the expression that it is.
unfoldable pub told_in : Written → List Event
told_in w = told_by (entries_by w.notes w.texts) []

unfoldable pub tree_of : Written → NormalExpr
unfolding told_in
tree_of w = first_expression (told_in w)

-- It is how one expression is written.
abbrev pub IsWhole : Written → Type 0
IsWhole w = IsOf (tree_of w) w
