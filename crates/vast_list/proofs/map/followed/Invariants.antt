use Rattle.std.proofs.Common.{take}
use Rattle.vast_list.proofs.Outputs.{IsAnswering}
use Rattle.vast_calls.specs.Lines.{line_texts}
use Rattle.vast_list.specs.declared.tries.Tries.TheVariants.{Once}
use Rattle.vast_list.proofs.map.followed.Given as goal

abbrev pub invariant-loop-number : goal.invariant-loop-number
invariant-loop-number l = IsAnswering Once l.fn.dialect (line_texts (take l.number-index l.lines)) l.answering
