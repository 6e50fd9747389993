use Rattle.std.proofs.Common.{◌≡◌, false, rules}
use Rattle.vast_calls.specs.Lines.{dialect_word, without_return}
use Rattle.vast_list.proofs.UntitledLists.{answered_first}
use Rattle.vast_list.proofs.untitled.first_stage.Goals as goal

pub returns-in-Ok : goal.returns-in-Ok
returns-in-Ok c = λ full.
    let word : without_return c.args.line.now ≡ dialect_word c.in-Ok.dialect = search rules in
    answered_first c.args.line.now c.in-Ok.dialect c.new.result word c.new.ensures.trial c.new.ensures.going (c.new.ensures.built false)
