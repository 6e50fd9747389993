-- What is said of rows and of what they tell.
use Rattle.std.specs.Prelude.{◌≡◌, ◌↔◌, ℕ, List, [], ◌∷◌, true, Some}
use Rattle.vast_literal.specs.FileGrammar.{IsFile}
use Rattle.vast_literal.specs.NormalFile.{NormalFile}
use Rattle.vast_literal.specs.Tokens.{Token}
use Rattle.vast_rows.specs.declared.grammar.Item.TheVariants.{Rule}
use Rattle.vast_rows.specs.declared.rule.Rule.TheVariants.{File}
use Rattle.vast_rows.specs.Built.{Seen, SeenFile, built}
use Rattle.vast_rows.specs.Events.{Event}
use Rattle.vast_rows.specs.Facts.{Fact}
use Rattle.vast_rows.specs.Kinds.{has}
use Rattle.vast_rows.specs.Numbers.{rule_number}
use Rattle.vast_rows.specs.Page.{page}
use Rattle.vast_rows.specs.Rows.{Row}
use Rattle.vast_rows.specs.Trace.{trace}
use Rattle.vast_rows.specs.Telling.{Spells}

-- The rule spells the tokens, and this is told of them.
abbrev pub Tells : List Row → (rule : ℕ) → List Token → List Event → Type 0
Tells rows rule ts es = Spells rows (Rule rule ∷ []) ts es []

-- The rule spells the tokens, and what is told of them was heard.
pub record IsRead {K : Type 0} (after : K → List Event → K → Type 0) (rows : List Row) (rule : ℕ) (ts : List Token) (first now : K) : Type 0 where
  pub events : List Event
  pub told : Tells rows rule ts events
  pub heard : after first events now

-- It doesn't spell them.
abbrev pub IsUnspelled : List Row → (rule : ℕ) → List Token → Type 0
IsUnspelled rows rule ts = (es : List Event) → Tells rows rule ts es → ⊥

-- A rule after which nothing may stand tells one thing of the tokens at most.
abbrev pub TellsOnce : (ℕ → Fact) → List Row → Type 0
TellsOnce facts rows = (rule : ℕ) (ts : List Token) (es fs : List Event) → has (facts rule).follow 0 ≡ true → Tells rows rule ts es → Tells rows rule ts fs → es ≡ fs

-- The page spells as a file exactly what the grammar of files does, and tells of it the file's trace.
abbrev pub RowsAreTheGrammar : Type 0
RowsAreTheGrammar = (ts : List Token) (es : List Event) → Tells page (rule_number File) ts es ↔ ((t : NormalFile) × IsFile ts t × (es ≡ trace t []))

-- Files of one trace are one.
abbrev pub TraceIsOne : Type 0
TraceIsOne = (t u : NormalFile) → trace t [] ≡ trace u [] → t ≡ u

-- The trace of a file builds it, before what other events build.
abbrev pub TraceBuilds : Type 0
TraceBuilds = (t : NormalFile) (es : List Event) (vs : List Seen) → built es ≡ Some vs → built (trace t es) ≡ Some (SeenFile t ∷ vs)
