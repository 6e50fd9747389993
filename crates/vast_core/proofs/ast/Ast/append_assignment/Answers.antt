-- proofs/ast/Ast/append_assignment/Answers.antt
use Rattle.std.proofs.Common.{refl, ◌∙◌}
use Rattle.vast_core.specs.View.{bench}
use Rattle.vast_core.proofs.InsertionPoints.{assignment-enters, assignment-grown}
use Rattle.vast_core.proofs.ast.Ast.append_assignment.Goals as goal

pub grow-requires : goal.grow-requires
grow-requires c =
    rw (c.of_assignment-place.ensures, c.next_assignment.ensures, c.is_nonblocking-nonblocking.ensures)
    (assignment-enters (bench c.args.self.now) c.args.point c.args.form c.args.lhs c.args.rhs c.requires.point c.requires.form c.requires.lhs c.requires.rhs)

pub returns : goal.returns
returns c = (
  rw c.next_assignment.ensures refl,
  (rw (c.of_assignment-place.ensures, c.next_assignment.ensures, c.is_nonblocking-nonblocking.ensures) at c.in_ok-grow.ensures.1) ∙ (assignment-grown (bench c.args.self.now) c.args.point c.args.form c.args.lhs c.args.rhs),
)
