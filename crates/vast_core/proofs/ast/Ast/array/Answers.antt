use Rattle.std.proofs.Common.{◌≡◌, All}
use Rattle.vast_literal.specs.Tree.{PackedTree, UnpackedTree}
use Rattle.vast_core.specs.Bench.{OwnsType, OwnsDimension, type_of}
use Rattle.vast_core.specs.Internal.BitCount.{sizes_of}
use Rattle.vast_core.specs.View.{bench}
use Rattle.vast_core.proofs.Arrays.{packed-array, unpacked-array}
use Rattle.vast_core.proofs.ast.Ast.array.Goals as goal

pub returns-in-Packed-clause-some : goal.returns-in-Packed-clause-some
returns-in-Packed-clause-some c =
    let b = bench c.args.self.now in
    let tree : type_of b c.args.data_type ≡ PackedTree (type_of b c.in-Packed.element) (sizes_of b c.deref.result.now) =
    rw c.deref.ensures.value (rw c.in-Packed.is at c.data_type.ensures.tree) in
    let owned : OwnsType b c.in-Packed.element × All (OwnsDimension b) c.deref.result.now = rw c.deref.ensures.value (rw c.in-Packed.is at c.data_type.ensures.owned) in
    let older = rw c.in-Packed.is at c.data_type.ensures.older in
    packed-array b c.args.data_type c.in-Packed.element c.deref.result.now tree owned older.0 c.data_type.ensures.well_formed

pub returns-in-Unpacked-clause-some : goal.returns-in-Unpacked-clause-some
returns-in-Unpacked-clause-some c =
    let b = bench c.args.self.now in
    let tree : type_of b c.args.data_type ≡ UnpackedTree (type_of b c.in-Unpacked.element) (sizes_of b c.deref-in-Unpacked.result.now) =
    rw c.deref-in-Unpacked.ensures.value (rw c.in-Unpacked.is at c.data_type.ensures.tree) in
    let owned : OwnsType b c.in-Unpacked.element × All (OwnsDimension b) c.deref-in-Unpacked.result.now = rw c.deref-in-Unpacked.ensures.value (rw c.in-Unpacked.is at c.data_type.ensures.owned) in
    let older = rw c.in-Unpacked.is at c.data_type.ensures.older in
    unpacked-array b c.args.data_type c.in-Unpacked.element c.deref-in-Unpacked.result.now tree owned older.0 c.data_type.ensures.well_formed
