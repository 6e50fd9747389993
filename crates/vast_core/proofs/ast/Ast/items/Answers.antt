use Rattle.vast_core.proofs.Readers.{items-of, items-sound}
use Rattle.vast_core.proofs.ast.Ast.items.Goals as goal

pub returns-clause-items : goal.returns-clause-items
returns-clause-items c = rw c.deref.ensures.value (items-of c.args.self.now _ c.self.view_is)

pub returns-clause-owned : goal.returns-clause-owned
returns-clause-owned c = rw c.deref.ensures.value (items-sound c.args.self.now _ c.self.view_is c.self.invariant)
