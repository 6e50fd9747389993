use Rattle.std.proofs.Common.{take}
use Rattle.vast_list.specs.Internal.JsonLine.{AreAnswers}
use Rattle.vast_calls.specs.Lines.{line_texts}
use Rattle.vast_list.proofs.json_line.answered.Given as goal

abbrev pub invariant-loop-number : goal.invariant-loop-number
invariant-loop-number l = AreAnswers l.fn.dialect (line_texts (take l.number-index l.lines)) l.answers
