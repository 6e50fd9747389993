use Rattle.std.proofs.Common.{ℕ, List, ◌++◌, take}
use Rattle.vast_calls.specs.Lines.{line_texts}
use Rattle.vast_list.specs.Untitled.{HasAnswered}
use Rattle.vast_list.proofs.plainness.plainness_behind.Given as goal

abbrev pub invariant-loop-number : goal.invariant-loop-number
invariant-loop-number l = (before : List (List ℕ)) → HasAnswered before l.fn.answering → HasAnswered (before ++ line_texts (take l.number-index l.lines)) l.answering
