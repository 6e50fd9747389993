use Rattle.vast_read.specs.Internal.Transcripts.{written_in}
use Rattle.vast_read.proofs.Transcripts.{spoken_read, spoken_whole}
use Rattle.vast_read.proofs.build.events.EventsBuild.read.Goals as goal

pub invariant_of-result : goal.invariant_of-result
invariant_of-result c = record { whole = spoken_whole (λ a. written_in a) _ _ _ _ _ _ c.in_ok-read_told.ensures c.if-branch.true c.new-told.ensures }

pub returns-then-branch : goal.returns-then-branch
returns-then-branch c = spoken_read (λ a. written_in a) _ _ _ _ _ _ c.in_ok-read_told.ensures c.if-branch.true c.new-told.ensures
