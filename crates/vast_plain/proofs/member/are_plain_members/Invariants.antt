use Rattle.std.proofs.Common.{◌≡◌, drop}
use Rattle.vast_literal.specs.PlainFile.{are_plain_members}
use Rattle.vast_core.specs.FileTree.{members_tree}
use Rattle.vast_core.specs.View.{bench}
use Rattle.vast_plain.proofs.member.are_plain_members.Given as goal

abbrev pub invariant-loop-member : goal.invariant-loop-member
invariant-loop-member l =
    are_plain_members (members_tree (bench l.ast) l.members)
    ≡ are_plain_members (members_tree (bench l.ast) (drop l.member-index l.members))
