use Rattle.vast_core.proofs.ast.Ast.grow.Goals as goal

pub admit-requires-clause-sound : goal.admit-requires-clause-sound
admit-requires-clause-sound c = rw c.make_room.ensures.unchanged c.requires
