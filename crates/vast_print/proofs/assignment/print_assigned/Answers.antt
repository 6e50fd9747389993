use Rattle.vast_print.proofs.ContainerLaws.{inline-assigned}
use Rattle.vast_print.proofs.assignment.print_assigned.Goals as goal

pub returns : goal.returns
returns c = rw (c.assignment-assignment.ensures.there, inline-assigned, ← c.assignment_operator.ensures) c.print_sides.ensures
