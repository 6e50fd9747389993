-- proofs/ast/Ast/push_parameter_port/Answers.antt
use Rattle.vast_core.specs.View.{bench}
use Rattle.vast_core.proofs.EntersRecords.{header-enters}
use Rattle.vast_core.proofs.ast.Ast.push_parameter_port.Goals as goal

pub grow-requires : goal.grow-requires
grow-requires c =
    (header-enters (bench c.args.self.now) c.args.owner ((record { name = c.in_ok-port_name.port_name; data_type = c.args.data_type; value = c.args.value })) c.in_ok-node_name.node_name c.args.data_type c.requires.owner c.requires.data_type c.requires.value c.requires.data_type)
