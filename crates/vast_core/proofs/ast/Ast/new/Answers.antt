use Rattle.std.proofs.Common.{refl, zero-le}
use Rattle.vast_core.specs.View.{bench}
use Rattle.vast_core.proofs.ast.Ast.new.Goals as goal

pub invariant_of-result : goal.invariant_of-result
unfolding bench
invariant_of-result c =
    rw (c.new.ensures.items, c.new-2.ensures.items, c.new-3.ensures.items, c.new-4.ensures.items, c.new-5.ensures.items, c.new-6.ensures.items, c.new-7.ensures.items, c.new-8.ensures.items, c.new-9.ensures.items, c.new-10.ensures.items, c.new-11.ensures.items)
    (record { terms = tt; file = record { records = record { ports = tt; assignments = tt; modules = tt; definitions = tt; artifacts = tt; instances = tt; items = tt; nests = tt; functions = tt; always_blocks = tt }; detached = tt; names = tt; parents = record { once = λ p. zero-le }; kinds = record { declarations = tt; locals = tt; values = tt } } })

pub returns : goal.returns
unfolding bench
returns c =
    rw (c.new.ensures.items, c.new-2.ensures.items, c.new-3.ensures.items, c.new-4.ensures.items, c.new-5.ensures.items, c.new-6.ensures.items, c.new-7.ensures.items, c.new-8.ensures.items, c.new-9.ensures.items, c.new-10.ensures.items, c.new-11.ensures.items) refl
