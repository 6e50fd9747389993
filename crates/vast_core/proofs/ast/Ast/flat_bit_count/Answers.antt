use Rattle.std.proofs.Common.{rules, ◌≡◌, ◌*ℤ◌, ℤ, ap, ◌∙◌, to_z, of_z, w64}
use Rattle.vast_literal.specs.Tree.{NoExpr}
use Rattle.vast_core.specs.Bench.{type_of}
use Rattle.vast_core.specs.Internal.BitCount.{sizes_of}
use Rattle.vast_core.specs.BitCount.{product, size_values, dimensions_of, unknown_dimension}
use Rattle.vast_core.specs.View.{bench}
use Rattle.vast_core.proofs.Arrays.{array-step, array-over, counted, exceeded}
use Rattle.vast_core.proofs.ast.Ast.flat_bit_count.Goals as goal

pub returns-in_default-multiplied-clause-refused : goal.returns-in_default-multiplied-clause-refused
returns-in_default-multiplied-clause-refused c =
    let b = bench c.args.self.now in
    let t = type_of b c.args.data_type in
    let bits : to_z w64 (of_z w64 c.in_ok-bits.bits) ≡ c.in_ok-bits.bits = search rules in
    let known : unknown_dimension t ≡ NoExpr = search rules in
    let a = c.in-Some-array.ensures.some in
    exceeded t c.in_ok-bits.bits _ known c.in_ok-bits.ensures.counted (ap (λ (n : ℤ). product (dimensions_of t) *ℤ n) bits)
    (array-over (size_values (sizes_of b c.in-Some-array.dimensions.now)) (dimensions_of (type_of b c.in-Some-array.element)) (dimensions_of (type_of b c.loop-array.array)) _ _ a.all a.each a.rest
    c.loop-array.invariant.some c.loop-array.invariant.same c.in_default-multiplied.ensures.none)

pub loop-array-preserved : goal.loop-array-preserved
loop-array-preserved c =
    let b = bench c.args.self.now in
    let total : to_z w64 (of_z w64 c.in-Some-multiplied.total) ≡ c.in-Some-multiplied.total = search rules in
    let a = c.in-Some-array.ensures.some in
    rw total (record {
      owned = a.owned;
      some = c.in-Some-multiplied.ensures.positive;
      same = array-step (size_values (sizes_of b c.in-Some-array.dimensions.now)) (dimensions_of (type_of b c.in-Some-array.element)) (dimensions_of (type_of b c.loop-array.array)) _ _ _ a.all a.each a.rest
          c.loop-array.invariant.some c.loop-array.invariant.same c.in-Some-multiplied.ensures.some;
    })

pub returns-clause-counted : goal.returns-clause-counted
returns-clause-counted c =
    let b = bench c.args.self.now in
    let t = type_of b c.args.data_type in
    let bits : to_z w64 (of_z w64 c.in_ok-bits.bits) ≡ c.in_ok-bits.bits = search rules in
    let known : unknown_dimension t ≡ NoExpr = search rules in
    counted t (dimensions_of (type_of b c.loop-array.array)) c.in_ok-bits.bits _ known c.in_ok-bits.ensures.counted c.loop-array.invariant.some c.in_default-array.ensures.none.all
    (c.loop-array.invariant.same ∙ ap (λ (n : ℤ). product (dimensions_of t) *ℤ n) bits)
