use Rattle.std.proofs.Common.{Some, refl}
use Rattle.vast_calls.proofs.Entered.{other_entered, place_inserted}
use Rattle.vast_calls.proofs.names.Names.insert.Goals as goal

pub returns-in-Some-clause-ok : goal.returns-in-Some-clause-ok
returns-in-Some-clause-ok c =
    place_inserted c.insert.result c.args.self.now _ c.args.name.now c.args.meant c.in-Some.place c.in-Some.ensures c.insert.ensures.ok refl

pub returns-in_ok-insert-in-None-clause-ok : goal.returns-in_ok-insert-in-None-clause-ok
returns-in_ok-insert-in-None-clause-ok c =
    other_entered c.args.self.now _ c.args.name.now (Some c.args.meant) c.remove.ensures c.in_ok-insert-in-None.ensures.ok
