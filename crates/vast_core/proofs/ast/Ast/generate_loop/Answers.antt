-- proofs/ast/Ast/generate_loop/Answers.antt
use Rattle.vast_core.specs.Sound.{LoopMemberSound}
use Rattle.vast_core.specs.View.{bench}
use Rattle.vast_core.proofs.Lists.{All-own}
use Rattle.vast_core.proofs.ast.Ast.generate_loop.Goals as goal

pub returns-clause-members : goal.returns-clause-members
returns-clause-members c =
    let h = rw c.in-Some-Loop.field-0-is at c.in-Some-Loop.ensures.owned in
    rw c.deref.ensures (All-own (LoopMemberSound (bench c.args.self.now) c.args.l.id.index) c.in-Some-Loop.node.value.members.items h.members)
