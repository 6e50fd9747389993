-- One expression that comes with an entry.
use Rattle.std.specs.Prelude.{[], ◌∷◌}
use Rattle.vast_core.specs.declared.node.ExprNode.{ExprNode}
use Rattle.vast_core.specs.Internal.Containers.{Fresh, no_fresh}

-- This expression comes, and no other node.
abbrev pub fresh_term : ExprNode → Fresh
fresh_term node = record no_fresh { terms = node ∷ [] }
