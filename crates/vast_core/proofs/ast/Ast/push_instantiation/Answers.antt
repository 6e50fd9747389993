-- proofs/ast/Ast/push_instantiation/Answers.antt
use Rattle.std.proofs.Common.{string_bytes}
use Rattle.vast_core.specs.Sound.{ConnectionSound}
use Rattle.vast_core.specs.WrittenKinds.{HasValue}
use Rattle.vast_core.specs.View.{bench}
use Rattle.vast_core.proofs.Lists.{Each-own}
use Rattle.vast_core.proofs.EntersRecords.{instance-stands}
use Rattle.vast_core.proofs.ast.Ast.push_instantiation.Goals as goal

pub grow-requires : goal.grow-requires
grow-requires c =
    (instance-stands (bench c.args.self.now) (record { module_name = string_bytes c.in_ok-module_name.module_name; instance_name = string_bytes c.in_ok-instance_name.instance_name; parameters = c.args.parameters.items; connections = c.args.connections.items })
    (record {
      parameters = Each-own (ConnectionSound (bench c.args.self.now)) c.args.parameters.items c.requires.parameters;
      connections = Each-own (ConnectionSound (bench c.args.self.now)) c.args.connections.items c.requires.connections;
    })
    (Each-own HasValue c.args.parameters.items c.requires.values))
