-- proofs/ast/Ast/block/Answers.antt
use Rattle.vast_core.specs.Sound.{StatementSound}
use Rattle.vast_core.specs.View.{bench}
use Rattle.vast_core.proofs.Lists.{All-own}
use Rattle.vast_core.proofs.ast.Ast.block.Goals as goal

pub returns-clause-sound : goal.returns-clause-sound
returns-clause-sound c =
    let h = rw c.in-Some-Block.field-0-is at c.in-Some-Block.ensures.owned in
    rw c.deref.ensures.value (All-own (StatementSound (bench c.args.self.now) c.args.b.id.index) c.in-Some-Block.statements.items h)
