use Rattle.std.proofs.Common.{[], refl}
use Rattle.std.specs.Prelude.{false}
use Rattle.vast_list.specs.Built.{HasBuilt}
use Rattle.vast_calls.specs.Lines.{line_texts}
use Rattle.vast_list.proofs.Built.{no-lines}
use Rattle.vast_list.proofs.PlainLists.{told_of_list}
use Rattle.vast_list.proofs.plainness.plainness_of.Goals as goal

pub returns : goal.returns
returns c = λ list begun.
    let dialect = c.args.dialect in
    let built : HasBuilt false dialect [] c.new.result = no-lines false dialect c.new.result c.new.ensures.file c.new.ensures.answers c.new.ensures.names c.new.ensures.skipped in
    told_of_list list (line_texts c.args.lines.now) dialect _ c.plainness_behind-found.result c.plainness_behind-found.ensures begun refl refl built
