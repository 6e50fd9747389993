use Rattle.std.proofs.Common.{refl}
use Rattle.vast_core.specs.View.{bench}
use Rattle.vast_core.proofs.ast.Ast.file_type.Goals as goal

pub returns : goal.returns
unfolding bench
returns c = rw (← c.self.view_is) refl
