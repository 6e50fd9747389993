use Rattle.vast_core.proofs.Terms.{trees-well_formed}
use Rattle.vast_core.proofs.ast.Ast.trees_are_well_formed.Goals as goal

pub returns : goal.returns
returns c = trees-well_formed _ _ c.self.view_is c.self.invariant
