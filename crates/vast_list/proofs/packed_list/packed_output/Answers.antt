use Rattle.std.proofs.Common.{IfSome}
use Rattle.std.proofs.lemmas.Option.{IfSome_then}
use Rattle.std.proofs.lemmas.Result.{IfOk-weaker}
use Rattle.vast_core.specs.FileTree.{tree}
use Rattle.vast_list.specs.PackedLists.{IsPackedText}
use Rattle.vast_session.specs.Session.{IsTextOf}
use Rattle.vast_list.specs.declared.output.ListOutput.{ListOutput}
use Rattle.vast_list.proofs.Outputs.{packed_text}
use Rattle.vast_list.proofs.packed_list.packed_output.Goals as goal

pub returns-in-Ok-clause-text : goal.returns-in-Ok-clause-text
returns-in-Ok-clause-text c =
    let new = c.new-session.ensures in
    let input = c.args.input.now in
    let left = c.forget_answers.new.self in
    IfOk-weaker c.printed.result
    (λ (made : ListOutput). IfSome made.output (λ output. IsTextOf (tree left.file) output.items))
    (λ (made : ListOutput). IfSome made.output (λ output. IsPackedText input output.items))
    (λ made printed. IfSome_then made.output printed
    (λ output is. packed_text input c.in-Some.calls.now c.in-Some.dialect c.new-session.result c.packed_calls.new.self left output.items c.in-Some.ensures (new.file, new.answers, new.names, new.skipped)
    c.in-Ok.ensures c.forget_answers.ensures.file is))
    c.printed.ensures.text
