use Rattle.std.proofs.Common.{drop, map}
use Rattle.vast_core.specs.FileTree.{variable_tree}
use Rattle.vast_core.specs.View.{bench}
use Rattle.vast_print.specs.Members.{inputs_text}
use Rattle.vast_print.proofs.SeparatedLaws.{rest_inputs}
use Rattle.vast_print.proofs.Left.{TextLeft}
use Rattle.vast_print.proofs.function.print_inputs.Given as goal

abbrev pub invariant-loop-i : goal.invariant-loop-i
invariant-loop-i l = TextLeft l.fn.out l.out (inputs_text (bench l.ast).file_type (map (variable_tree (bench l.ast)) l.inputs)) (rest_inputs l.i (bench l.ast).file_type (map (variable_tree (bench l.ast)) (drop l.i l.inputs)))
