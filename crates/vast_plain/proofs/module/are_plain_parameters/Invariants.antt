use Rattle.std.proofs.Common.{◌≡◌, drop, map}
use Rattle.vast_literal.specs.PlainFile.{are_plain_parameters}
use Rattle.vast_core.specs.FileTree.{parameter_port_tree}
use Rattle.vast_core.specs.View.{bench}
use Rattle.vast_plain.proofs.module.are_plain_parameters.Given as goal

abbrev pub invariant-loop-parameter : goal.invariant-loop-parameter
invariant-loop-parameter l =
    are_plain_parameters (map (parameter_port_tree (bench l.ast)) l.parameters)
    ≡ are_plain_parameters (map (parameter_port_tree (bench l.ast)) (drop l.parameter-index l.parameters))
