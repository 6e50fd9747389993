-- What parts of expressions stand for, and the tree that was told.
use Rattle.std.specs.Prelude.{List, [], ◌∷◌, Option, Some, None, map}
use Rattle.vast_literal.specs.NormalExpr.{NormalExpr, Name}
use Rattle.vast_expressions.specs.Internal.Values as values
use Rattle.vast_expressions.specs.Internal.Values.{grown}
use Rattle.vast_expressions.specs.Internal.Views.{event_view}
use Rattle.vast_read.specs.View.{view, listed}
use Rattle.vast_read.specs.declared.build.value.Value.{Value}
use Rattle.vast_read.specs.declared.build.value.Value.TheVariants as value
use Rattle.vast_read.specs.declared.build.unbuilt.Shadow.{Shadow, fold-Shadow}
use Rattle.vast_read.specs.declared.build.unbuilt.Shadow.TheOpen.{Shadow-F}

abbrev pub value_view : Value → values.Value
value_view (value.Tree x) = values.Tree (view x.value)
value_view (value.Trees xs) = values.Trees (listed xs)
value_view (value.Bytes w) = values.Bytes w.now

abbrev pub denoted : List Value → List values.Value
denoted vs = map value_view vs

-- What was made, or what was there.
abbrev pub made_or : Option (List values.Value) → List values.Value → List values.Value
made_or None vs = vs
made_or (Some ws) vs = ws

-- What is made of what was told, where nothing is made.
abbrev pub told_step : Shadow-F (List values.Value) → List values.Value
told_step Shadow-F.Nothing = []
told_step (Shadow-F.Tree x) = values.Tree (view x.value) ∷ []
told_step (Shadow-F.More vs e) = made_or (grown (event_view e) vs.value) vs.value

abbrev pub told : Shadow → List values.Value
told = fold-Shadow (List values.Value) told_step

abbrev pub first_tree : List values.Value → NormalExpr
first_tree (values.Tree t ∷ vs) = t
first_tree _ = Name []
