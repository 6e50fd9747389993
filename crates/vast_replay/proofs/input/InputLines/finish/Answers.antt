use Rattle.std.proofs.Common.{◌≡◌, ◌<◌, [], length, sym, ◌∙◌, rules}
use Rattle.vast_replay.proofs.Inputs.{none_left, text_of_left, text_of_taken}
use Rattle.vast_replay.proofs.input.InputLines.finish.Goals as goal
use Rattle.vast_replay.proofs.input.InputLines.finish.Goals.{then-not-is_empty+in_ok-take_left, else-not-is_empty}

pub returns-clause-text : goal.returns-clause-text
returns-clause-text c = elim c.if-not-is_empty.branch [
  | then-not-is_empty+in_ok-take_left w ↦
      let some : 0 < length c.args.self.left.items = search rules in
      text_of_left c.finish.result c.args.self w.take_left.new.self c.if-not-is_empty.self w.self-is some w.in_ok-take_left.ensures.taken c.finish.ensures.text
  | else-not-is_empty w ↦
      let left : c.args.self.left.items ≡ [] = none_left c.args.self.left (sym c.is_empty.ensures ∙ w.if-not-is_empty.false) in
      text_of_taken c.finish.result c.args.self c.if-not-is_empty.self w.self-is left c.finish.ensures.text
]
