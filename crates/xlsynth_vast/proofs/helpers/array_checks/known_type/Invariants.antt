use Rattle.std.proofs.Common.{◌≡◌, ◌+◌, ◌≤◌, drop}
use Rattle.std.specs.Prelude.{option_map}
use Rattle.vast_core.specs.Handles.{rank}
use Rattle.vast_core.specs.Bench.{OwnsExpr, tree_of}
use Rattle.vast_core.specs.View.{bench}
use Rattle.xlsynth_vast.specs.ArrayReduction.{known_dimensions}
use Rattle.xlsynth_vast.proofs.helpers.array_checks.known_type.Given as goal

-- What is known of the expression is what is known of the one that is left, without a dimension for each index.
abbrev pub invariant-loop-subject : goal.invariant-loop-subject
invariant-loop-subject l =
    record {
      owned : OwnsExpr (bench l.ast) l.named;
      below : l.indexes + rank l.named ≤ rank l.fn.e;
      same : known_dimensions (tree_of (bench l.ast) l.fn.e) ≡ option_map (drop l.indexes) (known_dimensions (tree_of (bench l.ast) l.named));
    }

abbrev pub decreases-loop-subject : goal.decreases-loop-subject
decreases-loop-subject l = rank l.named
