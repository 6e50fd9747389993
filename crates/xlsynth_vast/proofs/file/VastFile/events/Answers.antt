use Rattle.std.proofs.Common.{◌∙◌, string_bytes}
use Rattle.xlsynth_vast.proofs.WrongEvents.{events-allowed, events-refused}
use Rattle.xlsynth_vast.proofs.file.VastFile.events.Goals as goal

pub returns-in-Some-clause-refused : goal.returns-in-Some-clause-refused
returns-in-Some-clause-refused c =
    events-refused c.args.word.now (string_bytes c.in_ok-text.text) c.args.self.now _ c.deref.result.now c.in-Some.index (c.deref.ensures.value ∙ c.in_ok-events.ensures.items) c.in_ok-text.ensures
    (rw c.self.view_is at c.in-Some.ensures.some)

pub returns-clause-allowed : goal.returns-clause-allowed
returns-clause-allowed c =
    events-allowed c.args.word.now c.args.self.now _ c.deref.result.now (c.deref.ensures.value ∙ c.in_ok-events.ensures.items) (rw c.self.view_is at c.in_default.ensures.none)
