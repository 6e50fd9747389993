use Rattle.std.proofs.Common.{◌≡◌, true}
use Rattle.vast_core.specs.Nodes.{is_name}
use Rattle.vast_core.specs.Bench.{tree_of}
use Rattle.vast_core.specs.View.{bench}
use Rattle.xlsynth_vast.proofs.Inspected.{tree-named, no_other_node}
use Rattle.xlsynth_vast.proofs.file.VastFile.logic_ref_name.Goals as goal

pub unreachable-requires : goal.unreachable-requires
unreachable-requires c =
    let named : is_name (tree_of (bench c.self.inside.ast) c.to_expr.result) ≡ true =
    rw c.to_expr.ensures (tree-named (bench c.self.inside.ast) (record { id = c.args.logic_ref.id }) (rw (← c.self.view_is) at c.requires.of_kind)) in
    no_other_node _ _ (rw c.expr.ensures.tree at named) c.in_default.not-Name
