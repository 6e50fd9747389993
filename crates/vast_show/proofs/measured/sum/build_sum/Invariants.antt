use Rattle.vast_core.specs.Bench.{OwnsExpr}
use Rattle.vast_show.proofs.measured.sum.build_sum.Given as goal

-- Both terms of the next sum are the file's.
abbrev pub invariant-loop : goal.invariant-loop
invariant-loop l = OwnsExpr l.file l.sum × OwnsExpr l.file l.term
