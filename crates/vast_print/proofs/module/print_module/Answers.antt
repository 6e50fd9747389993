use Rattle.vast_print.specs.Layout.{item_page}
use Rattle.vast_print.proofs.module.print_module.Goals as goal

pub returns : goal.returns
unfolding item_page
returns c = rw c.module-module.ensures.there c.print_parts.ensures
