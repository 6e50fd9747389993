use Rattle.std.proofs.Common.{◌≡◌, drop}
use Rattle.vast_literal.specs.PlainFile.{is_plain_member, are_plain_members}
use Rattle.vast_core.specs.FileTree.{families, loop_member, members_tree}
use Rattle.vast_core.specs.View.{bench}
use Rattle.vast_core.proofs.Heights.{height, member_height}
use Rattle.vast_plain.proofs.member.+members.Given as goal

abbrev pub decreases-is_plain_member : goal.decreases-is_plain_member
decreases-is_plain_member l = member_height l.member.now

abbrev pub decreases-is_plain_loop : goal.decreases-is_plain_loop
decreases-is_plain_loop l = height l.l.id.index

abbrev pub invariant-is_plain_loop-loop-member : goal.invariant-is_plain_loop-loop-member
invariant-is_plain_loop-loop-member l =
    is_plain_member (loop_member (families (bench l.ast) l.fn.l.id.index))
    ≡ are_plain_members (members_tree (bench l.ast) (drop l.member-index l.member-items))
