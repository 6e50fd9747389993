use Rattle.std.proofs.Common.{refl}
use Rattle.vast_replay.proofs.Inputs.{last_more, one_more}
use Rattle.vast_replay.proofs.input.InputLines.take_bytes.Goals as goal

pub loop-piece-preserved : goal.loop-piece-preserved
loop-piece-preserved c =
    one_more c.args.self.now c.loop-piece.self c.take_piece.new.self c.args.bytes.now c.loop-piece.rest.now c.in-Some.piece.now c.in-Some.behind.now c.loop-piece.invariant c.in-Some.ensures.some
    c.in_ok-take_piece.ensures

pub returns : goal.returns
returns c =
    last_more c.extend_from_slice.result c.args.self.now c.loop-piece.self _ c.args.bytes.now c.loop-piece.rest.now c.loop-piece.invariant (c.in_default.ensures.none refl) refl
    c.extend_from_slice.ensures.items
