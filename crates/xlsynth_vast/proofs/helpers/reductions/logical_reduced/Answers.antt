use Rattle.xlsynth_vast.proofs.Reduced.{joined_inverted, none_logical, bit_of_none}
use Rattle.xlsynth_vast.proofs.helpers.reductions.logical_reduced.Goals as goal

pub returns-in_ok-make_logical_not-in-Some : goal.returns-in_ok-make_logical_not-in-Some
returns-in_ok-make_logical_not-in-Some g c =
    rw c.if-invert.true (joined_inverted _ _ _ g.operator c.args.of_none _ c.in-Some.whole _ (rw c.in-Some.is at c.in_ok-whole.ensures) c.in_ok-make_logical_not-in-Some.ensures.built)

pub returns-in_ok-make_bit-in-None : goal.returns-in_ok-make_bit-in-None
returns-in_ok-make_bit-in-None g c =
    none_logical _ _ _ g.operator c.args.of_none c.args.invert _ _ _ (bit_of_none g.operator c.args.of_none c.args.invert) (rw c.in-None.is at c.in_ok-whole.ensures) c.in_ok-make_bit-in-None.ensures
