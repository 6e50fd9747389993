use Rattle.std.proofs.Common.{drop}
use Rattle.vast_core.specs.FileTree.{members_tree}
use Rattle.vast_core.specs.View.{bench}
use Rattle.vast_print.specs.Members.{members_page}
use Rattle.vast_print.proofs.Left.{LinesLeft}
use Rattle.vast_print.proofs.member.print_members.Given as goal

abbrev pub invariant-loop-member : goal.invariant-loop-member
invariant-loop-member l = LinesLeft l.fn.out l.out (members_page (bench l.ast).file_type (members_tree (bench l.ast) l.members)) (members_page (bench l.ast).file_type (members_tree (bench l.ast) (drop l.member-index l.members)))
