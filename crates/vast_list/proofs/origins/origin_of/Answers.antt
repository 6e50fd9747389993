use Rattle.std.proofs.Common.{inr, arith}
use Rattle.vast_list.proofs.TextLines.{only_origin, origin_or}
use Rattle.vast_list.proofs.origins.origin_of.Goals as goal

pub returns-then-goes_on : goal.returns-then-goes_on
returns-then-goes_on c = inr (only_origin c.args.kept.now c.only-item.result 0 (omega arith) c.only-item.is)

pub returns-in_default : goal.returns-in_default
returns-in_default c = origin_or c.args.call c.args.kept.now c.moved_from.result c.unwrap_or.result c.moved_from.ensures c.unwrap_or.ensures
