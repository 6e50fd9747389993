-- proofs/ast/Ast/file_is_sound/Answers.antt
use Rattle.vast_core.proofs.Unattached.{file-sound}
use Rattle.vast_core.proofs.ast.Ast.file_is_sound.Goals as goal

pub returns : goal.returns
returns c = file-sound c.args.self.now _ c.self.view_is c.self.invariant
