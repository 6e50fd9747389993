use Rattle.std.proofs.Common.{◌≡◌, drop}
use Rattle.vast_calls.specs.Lines.{is_passed}
use Rattle.vast_calls.proofs.line.is_empty.Given as goal

abbrev pub invariant-loop-byte : goal.invariant-loop-byte
invariant-loop-byte l = is_passed (drop l.byte-index l.text) ≡ is_passed l.text
