use Rattle.std.proofs.Common.{arith}
use Rattle.vast_session.proofs.EndedLines.{ended_first, none_ended}
use Rattle.vast_session.proofs.lines.ended_line.Goals as goal

pub returns-then-end-bytes-clause-some : goal.returns-then-end-bytes-clause-some
returns-then-end-bytes-clause-some c = ended_first c.args.bytes.now c.line_end-end.result c.line_end-end.ensures c.if-end-bytes.true

pub returns-else-end-bytes-clause-none : goal.returns-else-end-bytes-clause-none
returns-else-end-bytes-clause-none c = λ _. none_ended c.args.bytes.now c.line_end-end.result c.line_end-end.ensures (omega (arith, c.if-end-bytes.false))
