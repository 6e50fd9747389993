use Rattle.std.proofs.Common.{refl, ◌∙◌}
use Rattle.vast_show.specs.Shown.{none_shown, one_more}
use Rattle.vast_show.proofs.program.run.Goals as goal

pub loop-word-init : goal.loop-word-init
loop-word-init g c = (none_shown, refl)

pub loop-word-preserved : goal.loop-word-preserved
loop-word-preserved g c =
    let shown = c.if-show-ne0.false in
    (one_more _ _ _ c.loop-word.invariant.0 (c.show.ensures.shown shown), c.show.ensures.silent shown ∙ c.loop-word.invariant.1)
