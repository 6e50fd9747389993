use Rattle.vast_list.specs.Internal.Output.{Prints}
use Rattle.vast_list.proofs.answering.ListRun.print_words.Given as goal

abbrev pub invariant-loop-words : goal.invariant-loop-words
invariant-loop-words l = Prints l.initial.self l.self
