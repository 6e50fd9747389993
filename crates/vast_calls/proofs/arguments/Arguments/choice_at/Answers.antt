use Rattle.vast_calls.proofs.PackedWords.{reads_choice}
use Rattle.vast_calls.proofs.arguments.Arguments.choice_at.Goals as goal

pub returns-in-Some : goal.returns-in-Some
returns-in-Some c =
    let lookup = c.in-Some.ensures.lookup in
    reads_choice c.args.self.now c.number.new.self c.args.choice c.words-words.result.now c.in_ok-number.number c.in-Some.word.now c.in_ok-number.ensures c.words-words.ensures lookup.3.0 lookup.1
