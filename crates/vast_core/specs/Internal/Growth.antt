-- Beside `specs/Growth.antt`: what private contracts and proofs say, and no public one.
use Rattle.std.specs.Prelude.{List}
use Rattle.vast_core.specs.Nodes.{ExprNode, built}
use Rattle.vast_core.specs.Bench.{Bench}

-- Expressions and types more, each made of older ones.
abbrev pub with_terms : List ExprNode → Bench → Bench
with_terms ts b = record b { nodes = built b.nodes ts }
