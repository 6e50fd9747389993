use Rattle.std.proofs.Common.{drop, map}
use Rattle.vast_core.specs.FileTree.{port_tree}
use Rattle.vast_core.specs.View.{bench}
use Rattle.vast_print.specs.Layout.{ports_page}
use Rattle.vast_print.proofs.Left.{LinesLeft}
use Rattle.vast_print.proofs.module.print_ports.Given as goal

abbrev pub invariant-loop-i : goal.invariant-loop-i
invariant-loop-i l = LinesLeft l.fn.out l.out (ports_page (bench l.ast).file_type (map (port_tree (bench l.ast)) l.ports)) (ports_page (bench l.ast).file_type (map (port_tree (bench l.ast)) (drop l.i l.ports)))
