-- Beside `specs/BitCount.antt`: what private contracts and proofs say, and no public one.
use Rattle.std.specs.Prelude.{◌≡◌, ◌≤ℤ◌, ◌<◌, pos, IsTrue, List, [], ◌++◌, All}
use Rattle.vast_literal.specs.Tree.{TypeTree, NoExpr, Exprs}
use Rattle.vast_core.specs.Handles.{VastDataType, type_rank}
use Rattle.vast_core.specs.Types.{is_castable}
use Rattle.vast_literal.specs.Shape.{base_of}
use Rattle.vast_core.specs.Nodes.{Dimension, sizes_in}
use Rattle.vast_core.specs.Bench.{Bench, OwnsType, OwnsDimension, type_of}
use Rattle.vast_core.specs.BitCount.{size_values, dimensions_of, unknown_size, or_later, unknown_dimension}

-- The sizes that dimensions name.
abbrev pub sizes_of : Bench → List Dimension → Exprs
sizes_of b ds = sizes_in b.nodes ds

-- The type is an array with these dimensions of the element type.
pub record IsArrayOf (b : Bench) (data_type element : VastDataType) (dimensions : List Dimension) : Type 0 where
  pub owned : OwnsType b element
  pub sizes : All (OwnsDimension b) dimensions
  pub older : type_rank element < type_rank data_type
  pub base : base_of (type_of b element) ≡ base_of (type_of b data_type)
  pub all : dimensions_of (type_of b data_type) ≡ size_values (sizes_of b dimensions) ++ dimensions_of (type_of b element)
  pub unknown : unknown_dimension (type_of b data_type) ≡ or_later (unknown_size (sizes_of b dimensions)) (unknown_dimension (type_of b element))
  pub each : All (λ d. pos 1 ≤ℤ d) (size_values (sizes_of b dimensions))
  pub rest : All (λ d. pos 1 ≤ℤ d) (dimensions_of (type_of b element))

pub record IsNoArray (t : TypeTree) : Type 0 where
  pub base : base_of t ≡ t
  pub all : dimensions_of t ≡ []
  pub unknown : unknown_dimension t ≡ NoExpr
  pub castable : IsTrue (is_castable t)
