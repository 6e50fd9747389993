use Rattle.std.proofs.Common.{sym}
use Rattle.vast_core.specs.View.{bench}
use Rattle.vast_print.proofs.ContainerLaws.{casez-among}
use Rattle.vast_print.proofs.function.is_one_casez.Goals as goal

pub returns-then-statements-ne1 : goal.returns-then-statements-ne1
returns-then-statements-ne1 c = rw c.block-statements.ensures.tree (sym (casez-among (bench c.args.ast.now) c.block-statements.result.now c.if-statements-ne1.true))
