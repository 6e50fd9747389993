use Rattle.std.proofs.Common.{sym, ap, ◌∙◌}
use Rattle.vast_read.specs.Internal.Bounds.{bound_of}
use Rattle.vast_read.specs.Internal.Transcribed.{tree_of}
use Rattle.vast_read.specs.Internal.Transcripts.{written_in}
use Rattle.vast_read.specs.Internal.Values.{denoted}
use Rattle.vast_read.specs.View.{view}
use Rattle.vast_read.proofs.LoopEnds.{condition_of, ended}
use Rattle.vast_read.proofs.build.events.Condition.end.Goals as goal

pub end_of-requires : goal.end_of-requires
end_of-requires c =
    let b = ap (bound_of c.args.name.now) (c.in-Some.ensures ∙ sym (ap view c.into_inner.ensures)) ∙ c.in-Some-bound.ensures in
    (c.args.name.now, view c.in-Some-bound._end.value, condition_of c.args.name.now (written_in c.args.self.told) (denoted c.args.self.growing.values) (view c.in-Some-bound._end.value) c.requires.0 c.requires.1 c.requires.2 b)

pub returns : goal.returns
returns c =
    let b = ap (bound_of c.args.name.now) (c.in-Some.ensures ∙ sym (ap view c.into_inner.ensures)) ∙ c.in-Some-bound.ensures in
    let h = condition_of c.args.name.now (written_in c.args.self.told) (denoted c.args.self.growing.values) (view c.in-Some-bound._end.value) c.requires.0 c.requires.1 c.requires.2 b in
    ended c.args.name.now (written_in c.args.self.told) (denoted c.args.self.growing.values) (view c.in-Some-bound._end.value) (λ s. tree_of (written_in s.told)) c.end_of.result h b c.end_of.ensures
