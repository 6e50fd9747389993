use Rattle.std.proofs.Common.{Some, Bool, ap, ◌∙◌}
use Rattle.vast_read.proofs.FilesCompared.{old_fileless, new_fileless, same_found, different_found}
use Rattle.vast_read.proofs.same.compared.Goals as goal

pub returns-in_default : goal.returns-in_default
returns-in_default c = old_fileless c.args.old.now c.in_ok-told.field-0 c.in_ok-told.ensures c.in_default.is

pub returns-in-None : goal.returns-in-None
returns-in-None c = new_fileless c.args.new.now c.in-Some.told c.in_ok-tells.field-0 c.in_ok-tells.ensures c.in-None.is

pub returns-in-Some-true : goal.returns-in-Some-true
returns-in-Some-true c = same_found c.args.old.now c.args.new.now c.in_ok-told.field-0 c.in-Some.told c.in_ok-tells.field-0 c.in_ok-told.ensures c.in-Some.is c.in_ok-tells.ensures (c.in-Some-true.is ∙ ap (λ (b : Bool). Some b) c.in-Some-true.field-0-test)

pub returns : goal.returns
returns c = different_found c.args.old.now c.args.new.now c.in_ok-told.field-0 c.in-Some.told c.in_ok-tells.field-0 c.in_ok-told.ensures c.in-Some.is c.in_ok-tells.ensures (c.in-Some-false.is ∙ ap (λ (b : Bool). Some b) c.in-Some-false.field-0-test)
