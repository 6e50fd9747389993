use Rattle.std.proofs.Common.{refl}
use Rattle.vast_list.proofs.UntitledLists.{taken_astray, taken_before, taken_behind}
use Rattle.vast_list.proofs.untitled.UntitledList.take.Goals as goal

pub returns-in-Behind : goal.returns-in-Behind
returns-in-Behind c = taken_behind c.args.self.now _ c.args.line.now c.in-Behind.answering c.take.new.self c.take.result c.in-Behind.is refl c.take.ensures

pub returns-else-not-is_empty_line : goal.returns-else-not-is_empty_line
returns-else-not-is_empty_line c =
    taken_before c.args.self.now _ c.args.line.now c.in-Before.is c.in-Before.is (c.is_empty_line.ensures.0 c.if-not-is_empty_line.false).1

pub returns-in-Astray : goal.returns-in-Astray
returns-in-Astray c = taken_astray c.args.self.now _ c.args.line.now c.in-Astray.field-0 c.in-Astray.is c.in-Astray.is
