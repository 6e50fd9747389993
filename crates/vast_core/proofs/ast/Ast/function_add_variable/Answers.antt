-- proofs/ast/Ast/function_add_variable/Answers.antt
use Rattle.std.proofs.Common.{◌≡◌, rules}
use Rattle.vast_core.specs.View.{bench}
use Rattle.vast_core.proofs.EntersRecords.{variable-enters-as}
use Rattle.vast_core.proofs.ast.Ast.function_add_variable.Goals as goal

pub grow-requires : goal.grow-requires
grow-requires c =
    let own : c.in_ok-own_name.own_name ≡ c.args.name.now = search rules in
    (variable-enters-as (bench c.args.self.now) c.args.owner c.args.local c.args.kind c.args.name.now c.in_ok-own_name.own_name c.in_ok-node_name.node_name c.args.data_type own c.requires.owner c.requires.kind c.requires.data_type c.requires.free)
