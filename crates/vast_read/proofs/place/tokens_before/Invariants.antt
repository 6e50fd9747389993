use Rattle.std.proofs.Common.{◌≡◌, ◌-◌, ◌≤◌, length}
use Rattle.vast_literal.specs.Scan.{Gap}
use Rattle.vast_read.specs.Lexed.{lex}
use Rattle.vast_read.proofs.place.tokens_before.Given as goal

abbrev pub invariant-loop-rest : goal.invariant-loop-rest
invariant-loop-rest l = (length l.ahead ≡ length (lex Gap l.text) - (length l.fn.left - length l.rest)) × (length l.rest ≤ length l.fn.left)

abbrev pub decreases-loop-rest : goal.decreases-loop-rest
decreases-loop-rest l = length l.rest
