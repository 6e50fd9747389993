use Rattle.std.proofs.Common.{◌≡◌, ◌+◌, drop, codes}
use Rattle.vast_core.specs.FileTree.{families, loop_member, members_tree}
use Rattle.vast_core.specs.View.{bench}
use Rattle.vast_print.specs.Output.{Unstopped, word, next, indented}
use Rattle.vast_print.specs.Members.{member_page, members_page}
use Rattle.vast_core.proofs.Heights.{height, member_height}
use Rattle.vast_print.proofs.+members.Given as goal

abbrev pub decreases-member::print_member : goal.decreases-member::print_member
decreases-member::print_member l = member_height l.member.now

abbrev pub decreases-generate_loop::print_loop : goal.decreases-generate_loop::print_loop
decreases-generate_loop::print_loop l = height l.l.id.index

abbrev pub invariant-generate_loop::print_loop-loop-member : goal.invariant-generate_loop::print_loop-loop-member
invariant-generate_loop::print_loop-loop-member l =
    record {
      same : indented l.fn.out.margin (Unstopped l.fn.out.draft) (member_page (bench l.ast).file_type (loop_member (families (bench l.ast) l.fn.l.id.index))) ≡ word (next l.fn.out.margin (indented (l.fn.out.margin + 1) (Unstopped l.out.draft) (members_page (bench l.ast).file_type (members_tree (bench l.ast) (drop l.member-index l.member-items))))) (codes "end");
      margin : l.out.margin ≡ l.fn.out.margin + 1;
    }
