use Rattle.vast_read.specs.Internal.MemberRelease.{member_rounds}
use Rattle.vast_read.proofs.Release.{item_taken}
use Rattle.vast_read.proofs.tree.member.taken.Goals as goal

pub returns : goal.returns
returns c = item_taken member_rounds c.args.members c.split_last.result c.split_last.ensures
