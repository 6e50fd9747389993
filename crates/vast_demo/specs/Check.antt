-- What `check` reads, finds and writes.
use Rattle.std.specs.Prelude.{◌≡◌, ◌↔◌, ℕ, Bool, true, false, IsTrue, List, codes, Option, IsUtf8}
use Rattle.std.specs.Io.KnownBytes.{Appends}
use Rattle.vast_shell.specs.Input.{GivesAll, GivesSome}
use Rattle.vast_shell.specs.Output.{AppendsFront, AppendsPart}
use Rattle.vast_literal.specs.NormalFile.{NormalFile}
use Rattle.vast_literal.specs.FileGrammar.{DerivesFile}

-- the grammar derives the text
abbrev pub IsDerivedText : List ℕ → Type 0
IsDerivedText text = (t : NormalFile) × DerivesFile text t

-- the bytes are the UTF-8 of a text that the grammar derives
abbrev pub IsDerived : List ℕ → Type 0
IsDerived bytes = IsUtf8 bytes × IsDerivedText bytes

-- the answer is true of all that the reader gives
abbrev pub IsAnswer : Option (List ℕ) → Option (List ℕ) → Bool → Type 0
IsAnswer before after answer = (bytes : List ℕ) × GivesAll before after bytes × (IsTrue answer ↔ IsDerived bytes)

-- the line that is written
abbrev pub answer_line : (derived : Bool) → List ℕ
answer_line true = codes "derived\n"
answer_line false = codes "not derived\n"

-- How a check ends: what it read from an input, what it wrote to an output and told beside it, and its status.
pub data CheckEnds (before after old new untold told : Option (List ℕ)) : (status : ℕ) → Type 0 where
  derived : IsAnswer before after true → Appends old new (answer_line true) → told ≡ untold → CheckEnds before after old new untold told 0
  not_derived : IsAnswer before after false → Appends old new (answer_line false) → told ≡ untold → CheckEnds before after old new untold told 1
  -- A write of the answer failed.
  unwritten : (answer : Bool) → IsAnswer before after answer → AppendsPart old new (answer_line answer) → AppendsFront untold told (codes "write fault\n") → CheckEnds before after old new untold told 1
  -- A read failed, or there were too many bytes or reads.
  unread : GivesSome before after → new ≡ old → AppendsFront untold told (codes "read fault\n") → CheckEnds before after old new untold told 1
  -- Memory was refused.
  refused : GivesSome before after → new ≡ old → AppendsFront untold told (codes "out of memory\n") → CheckEnds before after old new untold told 1
