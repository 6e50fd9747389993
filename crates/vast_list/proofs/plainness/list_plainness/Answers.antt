use Rattle.std.proofs.Common.{rules}
use Rattle.vast_calls.specs.Lines.{BeginsWithDialect, line_texts}
use Rattle.vast_list.proofs.plainness.list_plainness.Goals as goal

pub returns-in-Ok : goal.returns-in-Ok
returns-in-Ok c =
    let lines = line_texts c.args.list.now.lines.items in
    let begun : BeginsWithDialect lines c.in-Ok.dialect (line_texts c.in-Ok.lines.now) = search rules in
    c.plainness_of.ensures lines begun
