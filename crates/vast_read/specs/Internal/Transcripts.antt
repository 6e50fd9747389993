-- What is told of a text, entry by entry; and how that is written, as notes and texts.
use Rattle.std.specs.Prelude.{◌≡◌, ◌≢◌, ℕ, List, [], ◌∷◌, ◌++◌, Option, Some, None, option_map, map}
use Rattle.std.specs.List.{flat_map}
use Rattle.std.specs.Borrow.{Bor}
use Rattle.vast_literal.specs.NormalExpr.{NormalExpr}
use Rattle.vast_expressions.specs.Events as expression
use Rattle.vast_expressions.specs.declared.event.Told.{Told}
use Rattle.vast_expressions.specs.Events.{NameE, LiteralE, TextE, MacroE, WordE, PartSelectE, MemberOfE, Made}
use Rattle.vast_rows.specs.Events.{Event, Makes, Reads, Names}
use Rattle.vast_rows.specs.Phrases.{IsExpression, IsLoop, IsPath}
use Rattle.vast_rows.specs.declared.action.Action.{Action}
use Rattle.vast_read.specs.declared.transcript.Transcript.{Transcript}
use Rattle.vast_read.specs.declared.transcript.piece.Piece.{Piece}
use Rattle.vast_read.specs.declared.transcript.piece.Followed.{Followed}
use Rattle.vast_read.specs.declared.transcript.note.Note.{Note}
use Rattle.vast_read.specs.declared.transcript.note.Note.TheVariants as note
use Rattle.vast_read.specs.declared.transcript.note.Role.{Role}
use Rattle.vast_read.specs.declared.transcript.note.Role.TheVariants as role

-- Something is made of what is told after it; an expression is made of what was told before it; a text, and what it is.
pub data Entry : Type 0 where
  Does : Action → Entry
  Tells : Told → Entry
  Says : Role → (text : List ℕ) → Entry

-- The entries of an expression are those of its events.
abbrev pub entry_of : expression.Event → Entry
entry_of (NameE w) = Says role.Name w
entry_of (LiteralE w) = Says role.Literal w
entry_of (TextE w) = Says role.Text w
entry_of (MacroE w) = Says role.MacroAlone w
entry_of (WordE w) = Says role.Word w
entry_of (PartSelectE w) = Says role.Width w
entry_of (MemberOfE w) = Says role.Member w
entry_of (Made t) = Tells t

abbrev pub entries_of : NormalExpr → List Entry
entries_of x = map entry_of (expression.trace x [])

-- The entries of what is told of a file: a loop's variable stands after its start and its end.
abbrev pub entries_in : Event → List Entry
entries_in (Makes a) = Does a ∷ []
entries_in (Reads (IsExpression x)) = entries_of x
entries_in (Reads (IsLoop i x e)) = entries_of x ++ (entries_of e ++ (Says role.Variable i ∷ []))
entries_in (Reads (IsPath p)) = Says role.Path p ∷ []
entries_in (Names w) = Says role.Named w ∷ []

abbrev pub entries : List Event → List Entry
entries es = flat_map entries_in es

-- Notes, and the texts of those that have one.
pub record Written : Type 0 where
  pub notes : List Note
  pub texts : List (List ℕ)

abbrev pub nothing_written : Written
nothing_written = record { notes = []; texts = [] }

-- One after the other.
abbrev pub joined : Written → Written → Written
joined v w = record { notes = v.notes ++ w.notes; texts = v.texts ++ w.texts }

abbrev pub note_of : Entry → Note
note_of (Does a) = note.Makes a
note_of (Tells t) = note.Tells t
note_of (Says r w) = note.Says r

abbrev pub texts_of : Entry → List (List ℕ)
texts_of (Says r w) = w ∷ []
texts_of _ = []

-- How entries are written.
abbrev pub written : List Entry → Written
written es = record { notes = map note_of es; texts = flat_map texts_of es }

-- What texts of the code spell, and what a transcript of the code holds.
abbrev pub spelled : List (Bor (List ℕ)) → List (List ℕ)
spelled ws = map (λ w. w.now) ws

abbrev pub written_in : Transcript → Written
written_in t = record { notes = t.notes.items; texts = spelled t.texts.items }

-- The entries were added to a transcript.
abbrev pub Adds : Transcript → List Entry → Transcript → Type 0
Adds old es new = written_in new ≡ joined (written_in old) (written es)

-- What a piece of a transcript holds, and what is left of another's.
abbrev pub piece_view : Piece → Written
piece_view p = record { notes = p.notes.now; texts = spelled p.texts.now }

abbrev pub left_in : Followed → Option Written
left_in f = option_map piece_view f.left

-- What is left after this was told; nothing is, once something else was.
abbrev pub Follows : Option Written → (told : Written) → Option Written → Type 0
Follows None v o = o ≡ None
Follows (Some u) v (Some w) = u ≡ joined v w
Follows (Some u) v None = (w : Written) → u ≢ joined v w

-- This is how an expression is written.
abbrev pub IsOf : NormalExpr → Written → Type 0
IsOf x w = w ≡ written (entries_of x)

-- A note with its text, then others, then a note without one.
abbrev pub between : (first : Note) (text : List ℕ) → Written → (last : Note) → Written
between n w v m = joined (record { notes = n ∷ []; texts = w ∷ [] }) (joined v (record { notes = m ∷ []; texts = [] }))
