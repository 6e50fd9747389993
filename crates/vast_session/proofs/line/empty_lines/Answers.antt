use Rattle.std.proofs.Common.{◌+◌, ℕ, ap}
use Rattle.std.proofs.lemmas.List.{get_or_default}
use Rattle.vast_session.proofs.Dialects.{passed-more}
use Rattle.vast_session.proofs.line.empty_lines.Goals as goal

pub loop-line-preserved : goal.loop-line-preserved
loop-line-preserved c =
    let inside = c.loop-line-test.true in
    record {
      counted = ap (λ (n : ℕ). n + 1) c.loop-line.invariant.counted;
      passed = passed-more c.args.lines.now c.loop-line.line-index _ inside (get_or_default c.args.lines.now c.loop-line.line-index _ _ inside) c.loop-line.invariant.passed (c.is_empty_line.ensures.0 c.if-not-is_empty_line.false).1;
    }
