use Rattle.std.proofs.Common.{ap}
use Rattle.vast_read.specs.Internal.Transcribed.{tree_of}
use Rattle.vast_read.specs.Internal.Transcripts.{written_in}
use Rattle.vast_read.specs.Internal.Values.{denoted}
use Rattle.vast_read.proofs.LoopEnds.{bound_read}
use Rattle.vast_read.proofs.Transcripts.{condition_heard}
use Rattle.vast_read.proofs.build.events.EventsBuild.bound.Goals as goal

pub end-requires : goal.end-requires
end-requires c = let h = condition_heard (λ a. written_in a.told) (λ a. denoted a.growing.values) _ _ _ _ _ c.in_ok-read_told.ensures c.if-branch.true c.new.ensures (ap denoted c.new-2.ensures) in (h.0, h.2, h.3)

pub returns-then-branch : goal.returns-then-branch
returns-then-branch c = let h = condition_heard (λ a. written_in a.told) (λ a. denoted a.growing.values) _ _ _ _ _ c.in_ok-read_told.ensures c.if-branch.true c.new.ensures (ap denoted c.new-2.ensures) in
    bound_read (λ s. tree_of (written_in s.told)) c.args.name.now _ _ _ h.0 c.end.result h.1 h.2 c.end.ensures
