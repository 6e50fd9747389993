use Rattle.vast_designs.proofs.RegistersSteps.{values-made}
use Rattle.vast_designs.proofs.clocked.make_values.Goals as goal

pub returns : goal.returns
returns c =
    values-made c.args.file.now c.make_literal.new.self c.make_literal-2.new.self
    c.in_ok-first.first c.in_ok-second.second
    c.requires c.in_ok-first.ensures.built c.in_ok-second.ensures.built
