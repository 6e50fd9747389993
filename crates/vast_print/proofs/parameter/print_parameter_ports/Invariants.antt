use Rattle.std.proofs.Common.{drop, map}
use Rattle.vast_core.specs.FileTree.{parameter_port_tree}
use Rattle.vast_core.specs.View.{bench}
use Rattle.vast_print.specs.Layout.{parameter_ports_page}
use Rattle.vast_print.proofs.Left.{LinesLeft}
use Rattle.vast_print.proofs.parameter.print_parameter_ports.Given as goal

abbrev pub invariant-loop-i : goal.invariant-loop-i
invariant-loop-i l = LinesLeft l.fn.out l.out (parameter_ports_page (bench l.ast).file_type (map (parameter_port_tree (bench l.ast)) l.parameters)) (parameter_ports_page (bench l.ast).file_type (map (parameter_port_tree (bench l.ast)) (drop l.i l.parameters)))
