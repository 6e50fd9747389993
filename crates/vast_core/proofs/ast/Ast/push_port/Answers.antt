-- proofs/ast/Ast/push_port/Answers.antt
use Rattle.std.proofs.Common.{◌≡◌, rules, refl}
use Rattle.vast_core.specs.View.{bench}
use Rattle.vast_core.proofs.EntersRecords.{port-enters-as}
use Rattle.vast_core.proofs.ast.Ast.push_port.Goals as goal

pub grow-requires : goal.grow-requires
grow-requires c =
    let own : c.in_ok-port_name.port_name ≡ c.args.name.now = search rules in
    (port-enters-as (bench c.args.self.now) c.args.owner (record { id = c.next_port.result }) (record { id = c.next_term.result }) c.args.direction c.args.kind c.args.name.now c.in_ok-port_name.port_name c.args.name.now c.in_ok-node_name.node_name c.args.data_type
    (rw c.next_port.ensures refl) (rw c.next_term.ensures refl) own refl c.requires.owner c.requires.data_type c.requires.free)
