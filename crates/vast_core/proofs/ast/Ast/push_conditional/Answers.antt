-- proofs/ast/Ast/push_conditional/Answers.antt
use Rattle.std.proofs.Common.{refl, ◌∙◌}
use Rattle.vast_core.specs.View.{bench}
use Rattle.vast_core.proofs.InsertionPoints.{conditional-enters, conditional-grown}
use Rattle.vast_core.proofs.ast.Ast.push_conditional.Goals as goal

pub grow-requires : goal.grow-requires
grow-requires c =
    rw (c.of_conditional-place.ensures, c.next_nest.ensures.id, c.new_conditional-node.ensures)
    (conditional-enters (bench c.args.self.now) c.args.point c.args.condition c.requires.point c.requires.condition)

pub returns : goal.returns
returns c = (
  rw c.next_nest.ensures.id refl,
  (rw (c.of_conditional-place.ensures, c.next_nest.ensures.id, c.new_conditional-node.ensures) at c.in_ok-grow.ensures.1) ∙ (conditional-grown (bench c.args.self.now) c.args.point c.args.condition),
)
