use Rattle.vast_calls.proofs.CallRows.{numbered_in}
use Rattle.vast_calls.proofs.table.numbered.Place.numbered.Goals as goal

pub returns-in-0 : goal.returns-in-0
returns-in-0 c = numbered_in c.args.number 0 c.in-0.is

pub returns-in-1 : goal.returns-in-1
returns-in-1 c = numbered_in c.args.number 1 c.in-1.is

pub returns-in-2 : goal.returns-in-2
returns-in-2 c = numbered_in c.args.number 2 c.in-2.is

pub returns-in-3 : goal.returns-in-3
returns-in-3 c = numbered_in c.args.number 3 c.in-3.is

pub returns-in-4 : goal.returns-in-4
returns-in-4 c = numbered_in c.args.number 4 c.in-4.is

pub returns-in-5 : goal.returns-in-5
returns-in-5 c = numbered_in c.args.number 5 c.in-5.is

pub returns-in-6 : goal.returns-in-6
returns-in-6 c = numbered_in c.args.number 6 c.in-6.is

pub returns-in-7 : goal.returns-in-7
returns-in-7 c = numbered_in c.args.number 7 c.in-7.is

pub returns-in-8 : goal.returns-in-8
returns-in-8 c = numbered_in c.args.number 8 c.in-8.is
