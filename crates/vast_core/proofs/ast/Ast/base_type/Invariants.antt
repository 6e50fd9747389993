use Rattle.std.proofs.Common.{◌≡◌}
use Rattle.vast_core.specs.Handles.{type_rank}
use Rattle.vast_literal.specs.Shape.{base_of}
use Rattle.vast_core.specs.Bench.{OwnsType, type_of}
use Rattle.vast_core.specs.View.{bench}
use Rattle.vast_core.proofs.ast.Ast.base_type.Given as goal

-- The type has the base that the first one has.
abbrev pub invariant-loop-element : goal.invariant-loop-element
invariant-loop-element l =
    record {
      owned : OwnsType (bench l.self) l.base;
      within : base_of (type_of (bench l.self) l.base) ≡ base_of (type_of (bench l.self) l.fn.data_type);
    }

abbrev pub decreases-loop-element : goal.decreases-loop-element
decreases-loop-element l = type_rank l.base
