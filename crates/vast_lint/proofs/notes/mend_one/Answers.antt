use Rattle.std.proofs.Common.{sym, ap, ◌∙◌, arith}
use Rattle.vast_core.proofs.Lists.{changed-map}
use Rattle.vast_lint.specs.declared.facts.Kept.{Kept}
use Rattle.vast_lint.specs.Notes.{mended}
use Rattle.vast_lint.proofs.Noted.{changed-past}
use Rattle.vast_lint.proofs.notes.mend_one.Goals as goal

pub returns-then-number-answers : goal.returns-then-number-answers
returns-then-number-answers c =
    let found = c.index-answers-number in
    changed-map (λ k. k.note) mended c.args.answers.now c.args.number found.result _ (omega arith) found.is
    (c.mended.ensures ∙ ap (λ (k : Kept). mended k.note) (sym found.is))

pub returns-else-number-answers : goal.returns-else-number-answers
returns-else-number-answers c = changed-past (λ k. k.note) mended c.args.answers.now c.args.number (omega arith)
