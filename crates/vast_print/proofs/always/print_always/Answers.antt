use Rattle.std.proofs.Common.{arith}
use Rattle.vast_print.proofs.ContainerLaws.{always}
use Rattle.vast_print.proofs.always.print_always.Goals as goal

pub returns : goal.returns
returns c = rw c.always_block-node.ensures.there (grind (arith, always))

pub returns-in_err-print_opening : goal.returns-in_err-print_opening
returns-in_err-print_opening c = rw c.always_block-node.ensures.there (grind (arith, always))
