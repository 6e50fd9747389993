use Rattle.vast_rows.proofs.reach.reach_phrase.Goals as goal

pub returns-in-Expression : goal.returns-in-Expression
returns-in-Expression g c = rw c.in-Expression.is c.reach_expression.ensures

pub returns-in-Target : goal.returns-in-Target
returns-in-Target g c = rw c.in-Target.is c.reach_target.ensures

pub returns-in-LoopHead : goal.returns-in-LoopHead
returns-in-LoopHead g c = rw c.in-LoopHead.is c.reach_loop_head.ensures

pub returns-in-Path : goal.returns-in-Path
returns-in-Path g c = rw c.in-Path.is c.reach_path.ensures
