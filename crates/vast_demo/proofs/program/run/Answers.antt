use Rattle.std.proofs.Common.{rules}
use Rattle.vast_demo.proofs.Naming.{no_design}
use Rattle.vast_demo.proofs.program.run.Goals as goal

pub returns-then-eq-clause-printed : goal.returns-then-eq-clause-printed
returns-then-eq-clause-printed g c = let e = no_design c.args.words.now (search (rules, c.if-eq.true)) in rw e tt
