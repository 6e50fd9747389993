use Rattle.std.proofs.Common.{ap}
use Rattle.vast_rows.specs.Facts.{Fact}
use Rattle.vast_rows.proofs.Taken.{known, unknown_viewed}
use Rattle.vast_rows.proofs.front.may_be_empty.Goals as goal

pub returns-in-Some : goal.returns-in-Some
returns-in-Some c = let l = c.in-Some.ensures.lookup in rw c.in-Rule.is (ap (λ (v : Fact). v.empty) (known c.args.table.now.facts.now c.in-Rule.rule c.in-Some.fact.now l.3.0 l.1))

pub returns-in-None : goal.returns-in-None
returns-in-None c = let l = c.in-None.ensures.lookup in rw c.in-Rule.is (ap (λ (v : Fact). v.empty) (unknown_viewed c.args.table.now.facts.now c.in-Rule.rule l.3))
