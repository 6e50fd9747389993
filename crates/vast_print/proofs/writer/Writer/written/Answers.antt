use Rattle.std.proofs.Common.{◌≡◌, false, eqb, sym, ◌∙◌}
use Rattle.std.specs.List.{list_any}
use Rattle.vast_print.specs.Output.{Unstopped}
use Rattle.vast_print.proofs.Lines.{no-break}
use Rattle.vast_print.proofs.OutputLaws.{inline-word}
use Rattle.vast_print.proofs.writer.Writer.written.Goals as goal

pub returns-else-contains : goal.returns-else-contains
returns-else-contains c =
    let none : list_any (λ y. eqb y 10) c.args.text.now ≡ false = rw c.as_bytes.ensures.value at (sym c.contains.ensures.value ∙ c.if-contains.false) in
    rw (inline-word c.args.self.now.margin (Unstopped c.args.self.now.draft) c.args.text.now (no-break c.args.text.now none)) c.word.ensures
