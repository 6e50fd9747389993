use Rattle.std.proofs.Common.{◌∙◌}
use Rattle.vast_read.specs.Internal.Transcripts.{written_in, piece_view}
use Rattle.vast_read.proofs.LoopEnds.{added}
use Rattle.vast_read.proofs.Transcripts.{end_found, end_missing, tree_spoken, whole_of}
use Rattle.vast_read.proofs.build.events.end_of.Goals as goal

pub returns-in_default : goal.returns-in_default
returns-in_default c = λ i e h. end_missing i e (written_in c.args.condition) (piece_view c.whole.result) c.inner.result h c.whole.ensures c.inner.ensures c.in_default.is

pub invariant_of-result : goal.invariant_of-result
invariant_of-result c =
    let found = end_found c.requires.0 c.requires.1 (written_in c.args.condition) (piece_view c.whole.result) c.inner.result c.requires.2 c.whole.ensures c.inner.ensures c.in-Some.inner c.in-Some.is in
    record { whole = whole_of c.requires.1 (written_in c.add.new.self) (added _ _ _ c.new-told.ensures c.in_ok-add.ensures ∙ found) }

pub returns : goal.returns
returns c = λ i e h.
    let found = end_found i e (written_in c.args.condition) (piece_view c.whole.result) c.inner.result h c.whole.ensures c.inner.ensures c.in-Some.inner c.in-Some.is in
    tree_spoken e (written_in c.add.new.self) (added _ _ _ c.new-told.ensures c.in_ok-add.ensures ∙ found)
