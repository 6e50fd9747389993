use Rattle.std.proofs.Common.{◌≡◌, drop, map}
use Rattle.vast_literal.specs.PlainFile.{is_plain_declared}
use Rattle.vast_core.specs.FileTree.{variable_tree}
use Rattle.vast_core.specs.View.{bench}
use Rattle.vast_plain.proofs.parts.are_plain_variables.Given as goal
use Rattle.vast_literal.specs.LiteralToken.{every}

abbrev pub invariant-loop-variable : goal.invariant-loop-variable
invariant-loop-variable l =
    every is_plain_declared (map (variable_tree (bench l.ast)) l.variables)
    ≡ every is_plain_declared (map (variable_tree (bench l.ast)) (drop l.variable-index l.variables))
