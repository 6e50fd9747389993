use Rattle.std.proofs.Common.{IfSome, rules}
use Rattle.std.proofs.lemmas.Option.{IfSome_then}
use Rattle.std.proofs.lemmas.Result.{IfOk-weaker}
use Rattle.vast_calls.specs.Lines.{BeginsWithDialect, line_texts}
use Rattle.vast_list.specs.Output.{IsOutput}
use Rattle.vast_list.specs.Internal.Output.{IsAnswered, IsFinished}
use Rattle.vast_list.specs.declared.output.ListOutput.{ListOutput}
use Rattle.vast_list.proofs.Outputs.{is_output}
use Rattle.vast_list.proofs.output.titled_output.Goals as goal

pub returns-in_ok-answering-in-Ok-clause-text : goal.returns-in_ok-answering-in-Ok-clause-text
returns-in_ok-answering-in-Ok-clause-text c =
    let title = c.args.title in
    let lines = line_texts c.args.list.now.lines.items in
    let behind = line_texts c.in-Ok.lines.now in
    let answering = c.in_ok-answering-in-Ok.answering in
    let begun : BeginsWithDialect lines c.in-Ok.dialect behind = search rules in
    let answered : IsAnswered c.args.tries c.in-Ok.dialect behind answering = search rules in
    IfOk-weaker c.finished.result
    (λ (made : ListOutput). IfSome made.output (λ output. IsFinished title answering made.verdict output.items))
    (λ (made : ListOutput). IfSome made.output (λ output. IsOutput c.args.tries title lines made.verdict output.items))
    (λ made finished. IfSome_then made.output finished (λ output is. is_output c.args.tries title lines behind c.in-Ok.dialect answering made.verdict output.items begun answered is))
    c.finished.ensures.text
