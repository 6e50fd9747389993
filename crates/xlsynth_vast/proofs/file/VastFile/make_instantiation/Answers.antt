use Rattle.std.proofs.Common.{Some, Bor}
use Rattle.std.specs.Prelude.{IfSome}
use Rattle.vast_core.specs.declared.handle.Expr.{Expr}
use Rattle.vast_core.specs.Bench.{OwnsExpr}
use Rattle.vast_core.specs.View.{bench}
use Rattle.xlsynth_vast.proofs.Kept.{kept_by}
use Rattle.xlsynth_vast.proofs.KeptWords.{instance-kept}
use Rattle.xlsynth_vast.proofs.Connected.{connected-sound, connected-valued, each-given, each-copied}
use Rattle.xlsynth_vast.proofs.file.VastFile.make_instantiation.Goals as goal

pub push_instantiation-requires-clause-parameters : goal.push_instantiation-requires-clause-parameters
push_instantiation-requires-clause-parameters c =
    connected-sound (bench c.self.inside.ast) _ _ _ c.in_ok-parameters.ensures (each-given (λ (e : Bor Expr). Some e.now) (λ o. IfSome o (OwnsExpr (bench c.self.inside.ast))) c.args.parameter_expressions.now (rw (← c.self.view_is) at c.requires.parameter_expressions))

pub push_instantiation-requires-clause-values : goal.push_instantiation-requires-clause-values
push_instantiation-requires-clause-values c = connected-valued (λ (e : Bor Expr). e.now) _ c.args.parameter_expressions.now _ c.in_ok-parameters.ensures

pub push_instantiation-requires-clause-connections : goal.push_instantiation-requires-clause-connections
push_instantiation-requires-clause-connections c =
    connected-sound (bench c.self.inside.ast) _ _ _ c.in_ok-connections.ensures (each-copied (bench c.self.inside.ast) c.args.connection_expressions.now (rw (← c.self.view_is) at c.requires.connection_expressions))

pub returns-clause-kept : goal.returns-clause-kept
returns-clause-kept c = kept_by _ _ _ _ _ _ c.push_instantiation.ensures c.self.view_is (instance-kept _ _)
