use Rattle.std.proofs.Common.{◌≡◌, drop, map}
use Rattle.vast_literal.specs.PlainFile.{are_plain_ports}
use Rattle.vast_core.specs.FileTree.{port_tree}
use Rattle.vast_core.specs.View.{bench}
use Rattle.vast_plain.proofs.module.are_plain_ports.Given as goal

abbrev pub invariant-loop-port : goal.invariant-loop-port
invariant-loop-port l = are_plain_ports (map (port_tree (bench l.ast)) l.ports) ≡ are_plain_ports (map (port_tree (bench l.ast)) (drop l.port-index l.ports))
