use Rattle.std.proofs.Common.{sym, ap, arith}
use Rattle.std.proofs.lemmas.List.Sums.{position_or_len_is}
use Rattle.vast_calls.specs.Lines.{is_line_feed}
use Rattle.vast_session.proofs.lines.line_end.Goals as goal

pub returns : goal.returns
returns c = sym (position_or_len_is is_line_feed c.args.bytes.now c.loop-end.end 0 c.loop-end.invariant.1 c.loop-end.invariant.0 (λ inside. absurd (omega (arith, inside, c.loop-end-test.false))))

pub returns-then-bytes-end-eq10 : goal.returns-then-bytes-end-eq10
returns-then-bytes-end-eq10 c = sym (position_or_len_is is_line_feed c.args.bytes.now c.loop-end.end 0 c.loop-end.invariant.1 c.loop-end.invariant.0 (λ _. ap is_line_feed c.if-bytes-end-eq10.true))
