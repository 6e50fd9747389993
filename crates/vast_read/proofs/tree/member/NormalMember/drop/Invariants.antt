use Rattle.vast_read.specs.Internal.MemberRelease.{member_left}
use Rattle.vast_read.proofs.tree.member.NormalMember.drop.Given as goal

abbrev pub decreases-loop-next : goal.decreases-loop-next
decreases-loop-next l = member_left l.self l.waiting
