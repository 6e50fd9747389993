use Rattle.std.proofs.Common.{drop, map}
use Rattle.vast_core.specs.FileTree.{field_tree}
use Rattle.vast_core.specs.View.{bench}
use Rattle.vast_print.specs.Members.{locals_page}
use Rattle.vast_print.proofs.Left.{LinesLeft}
use Rattle.vast_print.proofs.typedefs.print_fields.Given as goal

abbrev pub invariant-loop-field : goal.invariant-loop-field
invariant-loop-field l = LinesLeft l.fn.out l.out (locals_page (bench l.ast).file_type (map (field_tree (bench l.ast)) l.fields)) (locals_page (bench l.ast).file_type (map (field_tree (bench l.ast)) (drop l.field-index l.fields)))
