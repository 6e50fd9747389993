-- Beside `specs/PlainLists.antt`: what private contracts and proofs say, and no public one.
use Rattle.std.specs.Prelude.{◌≡◌, ℕ, Bool, true, false, List, IsTrue, string_bytes}
use Rattle.vast_core.specs.FileTree.{tree}
use Rattle.vast_literal.specs.PlainFile.{is_plain_file}
use Rattle.vast_list.specs.declared.answering.ListRun.{ListRun}
use Rattle.vast_list.specs.declared.plainness.Plainness.{Plainness}
use Rattle.vast_list.specs.declared.plainness.Plainness.TheVariants.{Plain, NotPlain}
use Rattle.vast_calls.specs.Lines.{line_word}
use Rattle.vast_list.specs.Output.{is_made}

-- Nothing of the list was at fault, and its file is plain, or it is not.
abbrev pub IsMadePlain : (is_plain : Bool) → ListRun → Type 0
IsMadePlain is_plain answering = IsTrue (is_made answering.told.verdict) × (is_plain_file (tree answering.session.file) ≡ is_plain)

-- It is told that the file is plain.
abbrev pub IsToldPlain : ListRun → Plainness → Type 0
IsToldPlain answering Plain = IsMadePlain true answering
IsToldPlain answering (NotPlain number call) = ⊥

-- It is told that the file is not plain after this line.
abbrev pub IsToldNotPlain : ListRun → (line : List ℕ) → Plainness → Type 0
IsToldNotPlain answering line Plain = ⊥
IsToldNotPlain answering line (NotPlain number call) = (string_bytes call ≡ line_word line) × IsMadePlain false answering
