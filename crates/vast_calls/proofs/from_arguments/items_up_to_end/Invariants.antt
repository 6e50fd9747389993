use Rattle.std.specs.List.{flat_map}
use Rattle.vast_calls.specs.Internal.Written.{Reads}
use Rattle.vast_calls.proofs.from_arguments.items_up_to_end.Given as goal

-- The items so far were read.
abbrev pub invariant-loop : goal.invariant-loop
invariant-loop g l = Reads l.fn.arguments l.arguments (flat_map g.T.FromArguments.pieces l.items.items)
