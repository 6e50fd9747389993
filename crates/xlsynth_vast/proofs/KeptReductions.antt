-- What a file keeps where expressions are joined.
use Rattle.std.proofs.Common.{List, ℕ, Result, Ok, Err, sym, subst}
use Rattle.vast_literal.specs.declared.error.VastFault.{VastFault}
use Rattle.vast_literal.specs.declared.error.VastFault.TheVariants.{Refused, Memory}
use Rattle.vast_literal.specs.Tree.{ExprTree}
use Rattle.vast_core.specs.declared.handle.Expr.{Expr}
use Rattle.vast_core.specs.Bench.{Bench}
use Rattle.xlsynth_vast.specs.Reductions.{MakesTree}
use Rattle.xlsynth_vast.specs.Keeps.{Keeps}
use Rattle.xlsynth_vast.proofs.Kept.{keeps-same}
use Rattle.xlsynth_vast.proofs.KeptRegisters.{keeps-unused}
use Rattle.xlsynth_vast.proofs.UnseenNodes.{nodes-unused}

pub made-keeps : (old new : Bench) (r : Result Expr VastFault) (rule : Result ExprTree (List ℕ)) → MakesTree old new r rule → Keeps old new
made-keeps old new (Ok e) rule h = keeps-unused old new (nodes-unused old new h.1)
made-keeps old new (Err (Refused e)) rule h = subst (λ b. Keeps old b) (sym h.1) (keeps-same old)
made-keeps old new (Err (Memory e)) rule h = keeps-unused old new (nodes-unused old new h)
