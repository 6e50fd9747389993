use Rattle.std.proofs.Common.{◌≡◌, drop, map}
use Rattle.vast_literal.specs.PlainFile.{is_plain_declared}
use Rattle.vast_core.specs.FileTree.{field_tree}
use Rattle.vast_core.specs.View.{bench}
use Rattle.vast_plain.proofs.typedefs.are_plain_fields.Given as goal
use Rattle.vast_literal.specs.LiteralToken.{every}

abbrev pub invariant-loop-field : goal.invariant-loop-field
invariant-loop-field l =
    every is_plain_declared (map (field_tree (bench l.ast)) l.fields)
    ≡ every is_plain_declared (map (field_tree (bench l.ast)) (drop l.field-index l.fields))
