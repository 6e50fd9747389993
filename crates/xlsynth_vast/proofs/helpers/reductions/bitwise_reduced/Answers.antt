use Rattle.xlsynth_vast.proofs.Reduced.{none_bitwise}
use Rattle.xlsynth_vast.proofs.helpers.reductions.bitwise_reduced.Goals as goal

pub returns-in_ok-make_unsized_zero_literal-in-None : goal.returns-in_ok-make_unsized_zero_literal-in-None
returns-in_ok-make_unsized_zero_literal-in-None c =
    none_bitwise _ _ _ _ _ (rw c.in-None.is at c.in_ok-whole.ensures) c.in_ok-make_unsized_zero_literal-in-None.ensures.built
