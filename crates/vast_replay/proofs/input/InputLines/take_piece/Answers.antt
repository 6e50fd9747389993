use Rattle.std.proofs.Common.{◌≡◌, [], sym}
use Rattle.vast_replay.proofs.Inputs.{ends_left, ends_piece, none_left}
use Rattle.vast_replay.proofs.input.InputLines.take_piece.Goals as goal

pub returns-then-is_empty : goal.returns-then-is_empty
returns-then-is_empty c =
    let left : c.args.self.now.left.items ≡ [] = none_left c.args.self.now.left (sym c.if-is_empty.ensures) in
    ends_piece c.take_line.result c.args.self.now c.take_line.new.self c.args.piece.now left c.take_line.ensures.taken c.take_line.ensures.left

pub returns : goal.returns
returns c =
    ends_left c.take_left.result c.args.self.now c.take_left.new.self c.args.piece.now c.extend_from_slice.new.self.items c.in_ok-extend_from_slice.ensures.items c.take_left.ensures.taken
    c.take_left.ensures.left
