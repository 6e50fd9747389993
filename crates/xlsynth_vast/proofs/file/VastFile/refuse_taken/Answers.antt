use Rattle.std.proofs.Common.{◌∙◌, ap, sym, Err}
use Rattle.vast_core.specs.Records.{module_record}
use Rattle.xlsynth_vast.proofs.Taken.{allowed_there, refused_there, only_memory, not_both}
use Rattle.xlsynth_vast.proofs.file.VastFile.refuse_taken.Goals as goal

pub returns-then-name_is_free-clause-answer : goal.returns-then-name_is_free-clause-answer
returns-then-name_is_free-clause-answer c =
    allowed_there c.args.kind.now c.args.name.now c.args.self.now c.args.owner (module_record c.module-module.result.now) (rw c.self.view_is at c.module-module.ensures.there) (c.name_is_free.ensures.0 c.if-name_is_free.true)

pub returns-in_err-text-clause-answer : goal.returns-in_err-text-clause-answer
returns-in_err-text-clause-answer c =
    only_memory _ _ _ _ (refused_there c.args.kind.now c.args.name.now c.args.self.now c.args.owner (module_record c.module-module.result.now) (rw c.self.view_is at c.module-module.ensures.there) (λ free. not_both _ (c.name_is_free.ensures.1 free) c.if-name_is_free.false)) c.from_residual.ensures.1

pub returns-clause-answer : goal.returns-clause-answer
returns-clause-answer c =
    refused_there c.args.kind.now c.args.name.now c.args.self.now c.args.owner (module_record c.module-module.result.now) (rw c.self.view_is at c.module-module.ensures.there) (λ free. not_both _ (c.name_is_free.ensures.1 free) c.if-name_is_free.false) ∙ ap Err (sym c.in_ok-text.ensures)
