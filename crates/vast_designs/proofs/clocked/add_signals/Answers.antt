use Rattle.vast_designs.proofs.RegistersSteps.{signals-made}
use Rattle.vast_designs.proofs.clocked.add_signals.Goals as goal

pub returns : goal.returns
returns c =
    signals-made c.args.file.now c.add_module.new.self c.make_scalar_type.new.self c.add_input.new.self c.add_input-2.new.self c.add_input-3.new.self
    c.in_ok-owner.owner c.in_ok-bit.bit c.in_ok-clock.clock c.in_ok-reset.reset c.in_ok-enable.enable
    c.requires c.in_ok-owner.ensures.built c.in_ok-bit.ensures.built c.in_ok-clock.ensures.built c.in_ok-reset.ensures.built c.in_ok-enable.ensures.built
