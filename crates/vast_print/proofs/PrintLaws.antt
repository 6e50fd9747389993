-- Laws of writing types as the arena holds them: bases and dimensions, array by array.
use Rattle.std.proofs.Common.{◌≡◌, ◌<◌, ℕ, ℤ, Bool, true, false, List, [], ◌∷◌, length, refl, ◌∙◌, ap, codes, arith, Option}
use Rattle.vast_literal.specs.Tree.{ExprTree, Exprs, TypeTree, ScalarTree, VectorTree, IntegerTree, IntTree, ExternalTree, PackageTree, PackedTree, UnpackedTree}
use Rattle.vast_literal.specs.Shape.{joined, base_of, packed_dimensions}
use Rattle.vast_core.specs.declared.node.Dimension.{Dimension}
use Rattle.vast_core.specs.Bench.{Bench}
use Rattle.vast_core.specs.Internal.BitCount.{sizes_of}
use Rattle.vast_print.specs.Printed.{plain_text, spaced}
use Rattle.vast_print.specs.Page.{written}
use Rattle.vast_print.specs.Output.{Output, word, inline}
use Rattle.vast_print.specs.Declaration.{packed_text, based_text, type_text, signed_word, unsigned_word, highest_index_text}
use Rattle.vast_print.specs.Internal.Words.{has_dimension, signed_opening, unsigned_opening}
use Rattle.vast_print.specs.Text.{package_text}
use Rattle.vast_print.proofs.OutputLaws.{inline-word, inline-then, inline-stopped}
use Rattle.vast_print.proofs.Lines.{word-word, word-stopped}
use Rattle.vast_print.proofs.NumberLaws.{has_text, inline-number}
use Rattle.vast_print.proofs.DeclarationLaws.{inline-with-dimensions, spaced-then, spaced-package, package_then, inline-signed-word, inline-unsigned-word, inline-spaced, inline-spaced-none, inline-spaced-packed, inline-spaced-unpacked, inline-highest-value, inline-highest-index}
use Rattle.vast_print.proofs.TypeLaws.{inline-no-packed, inline-packed-joined, inline-no-unpacked, inline-unpacked-joined, inline-verilog-range, inline-system-range, inline-packed, inline-unpacked, inline-count}
use Rattle.vast_print.proofs.Left.{left}

-- packed dimensions are there or not

pub has-packed-some : (b : Bench) (ds : List Dimension) (es : Exprs) → 0 < length ds → has_dimension (joined (sizes_of b ds) es) ≡ true
has-packed-some b [] es h = absurd (omega arith)
has-packed-some b (d ∷ ds) es h = refl

pub has-packed-none : (b : Bench) (ds : List Dimension) (es : Exprs) → length ds ≡ 0 → has_dimension (joined (sizes_of b ds) es) ≡ has_dimension es
has-packed-none b [] es h = refl
has-packed-none b (d ∷ ds) es h = absurd (omega arith)

pub has-some : (w : List ℕ) → 0 < length w → has_text w ≡ true
has-some [] h = absurd (omega arith)
has-some (c ∷ w) h = refl

pub has-none : (w : List ℕ) → length w ≡ 0 → has_text w ≡ false
has-none [] h = refl
has-none (c ∷ w) h = absurd (omega arith)

-- a type by what it is made of

pub type-based : (d : ℕ) (k : Output) (t : TypeTree) → inline d k (written (spaced (type_text t))) ≡ inline d k (written (spaced (based_text (base_of t) (packed_dimensions t))))
unfolding type_text
type-based d k t = refl

pub inline-scalar-base : (d : ℕ) (k : Output) (signed : Bool) (ds : Exprs) →
    inline d k (written (spaced (based_text (ScalarTree signed) ds))) ≡ inline d (word k (signed_opening signed)) (written (spaced (packed_text ds)))
unfolding based_text
inline-scalar-base d k signed ds = inline-with-dimensions d k (plain_text (signed_word signed)) ds ∙ ap (λ j. inline d j (written (spaced (packed_text ds)))) (inline-signed-word d k signed)

pub inline-integer-base : (d : ℕ) (k : Output) (signed : Bool) (ds : Exprs) →
    inline d k (written (spaced (based_text (IntegerTree signed) ds))) ≡ inline d (word k (unsigned_opening signed)) (written (spaced (packed_text ds)))
unfolding based_text
inline-integer-base d k signed ds = inline-with-dimensions d k (plain_text (unsigned_word signed)) ds ∙ ap (λ j. inline d j (written (spaced (packed_text ds)))) (inline-unsigned-word d k signed)

pub inline-int-base : (d : ℕ) (k : Output) (signed : Bool) (ds : Exprs) →
    inline d k (written (spaced (based_text (IntTree signed) ds))) ≡ inline d (word k (unsigned_opening signed)) (written (spaced (packed_text ds)))
unfolding based_text
inline-int-base d k signed ds = inline-with-dimensions d k (plain_text (unsigned_word signed)) ds ∙ ap (λ j. inline d j (written (spaced (packed_text ds)))) (inline-unsigned-word d k signed)

pub inline-external-base : (d : ℕ) (k : Output) (name : List ℕ) (ds : Exprs) →
    inline d k (written (spaced (based_text (ExternalTree name) ds))) ≡ inline d (inline d k (written (spaced (plain_text name)))) (written (spaced (packed_text ds)))
unfolding based_text
inline-external-base d k name ds = inline-with-dimensions d k (plain_text name) ds

pub inline-package-base : (d : ℕ) (k : Output) (scope name : List ℕ) (ds : Exprs) →
    inline d k (written (spaced (based_text (PackageTree scope name) ds)))
    ≡ inline d (word (inline d (word (inline d k (written (plain_text scope))) (codes "::")) (written (plain_text name))) (codes " ")) (written (spaced (packed_text ds)))
unfolding based_text
inline-package-base d k scope name ds =
    inline-with-dimensions d k (package_text scope name) ds
    ∙ ap (λ j. inline d j (written (spaced (packed_text ds)))) (ap (λ x. inline d k (written x)) (spaced-package scope name) ∙ simp (package_then, inline-then, inline-word))

pub inline-vector-base : (d : ℕ) (k : Output) (w : ExprTree) (v : Option ℤ) (signed : Bool) (ds : Exprs) →
    inline d k (written (spaced (based_text (VectorTree w v signed) ds)))
    ≡ word (inline d (word (inline d (word k (signed_opening signed)) (written (packed_text ds))) (codes "[")) (written (highest_index_text w v))) (codes ":0] ")
unfolding based_text
inline-vector-base d k w v signed ds = simp (spaced-then, inline-then, inline-signed-word, inline-word, word-word)

-- a base is no array

pub inline-packed-base : (d : ℕ) (k : Output) (t : TypeTree) (own ds : Exprs) → inline d k (written (spaced (based_text (PackedTree t own) ds))) ≡ inline d k (written (spaced (packed_text ds)))
unfolding based_text
inline-packed-base d k t own ds = refl

pub inline-unpacked-base : (d : ℕ) (k : Output) (t : TypeTree) (own ds : Exprs) → inline d k (written (spaced (based_text (UnpackedTree t own) ds))) ≡ inline d k (written (spaced (packed_text ds)))
unfolding based_text
inline-unpacked-base d k t own ds = refl

pub ruleset packed = (inline-no-packed, inline-packed-joined, has-packed-some, has-packed-none, inline-stopped)

pub ruleset unpacked = (inline-no-unpacked, inline-unpacked-joined, inline-stopped)

pub ruleset ranges = (inline-no-packed, inline-packed, inline-no-unpacked, inline-unpacked, left, word-stopped, inline-stopped)

pub ruleset range_parts = (inline-verilog-range, inline-system-range, word-stopped)

pub ruleset spaces = (inline-spaced, inline-spaced-none, inline-spaced-packed, inline-spaced-unpacked, has-some, has-none, word-stopped)

pub ruleset highest_indices = (inline-highest-value, inline-highest-index, inline-number, word-stopped)

pub ruleset sizes = (inline-count)

pub ruleset types = (type-based, inline-scalar-base, inline-integer-base, inline-int-base, inline-external-base, inline-package-base, inline-vector-base, inline-packed-base, inline-unpacked-base, word-stopped, inline-stopped)
