-- Laws of the dimensions of arrays.
use Rattle.std.proofs.Common.{◌≡◌, ℕ, ℤ, sym, ◌∙◌, ap, codes, Option}
use Rattle.std.specs.Fmt.{signed_decimal}
use Rattle.vast_literal.specs.Tree.{ExprTree, LiteralTree, Exprs, NoExprs, MoreExprs}
use Rattle.vast_literal.specs.Shape.{literal_value, joined}
use Rattle.vast_literal.specs.declared.kind.VastFileType.{VastFileType as Dialect}
use Rattle.vast_literal.specs.declared.kind.VastFileType.TheVariants.{Verilog as VerilogDialect, SystemVerilog as SystemVerilogDialect}
use Rattle.vast_print.specs.Printed.{Printed, ◌⊕◌}
use Rattle.vast_print.specs.Page.{written}
use Rattle.vast_print.specs.Output.{Output, word, inline}
use Rattle.vast_print.specs.Text.{expr_text}
use Rattle.vast_print.specs.Declaration.{packed_range, packed_text, unpacked_range, unpacked_text, highest_index_text}
use Rattle.vast_print.proofs.OutputLaws.{inline-then, inline-empty, inline-word}
use Rattle.vast_print.proofs.NumberLaws.{inline-number}

-- a text, and texts after it
inline-after : (d : ℕ) (k : Output) (p q r : Printed) (after : (j : Output) → inline d j (written q) ≡ inline d (inline d j (written p)) (written r)) (s : Printed) →
    inline d k (written (s ⊕ q)) ≡ inline d (inline d k (written (s ⊕ p))) (written r)
inline-after d k p q r after s = inline-then d k s q ∙ (after (inline d k (written s)) ∙ ap (λ j. inline d j (written r)) (sym (inline-then d k s p)))

-- dimensions of arrays within each other

pub inline-no-packed : (d : ℕ) (k : Output) → inline d k (written (packed_text NoExprs)) ≡ k
unfolding packed_text
inline-no-packed d k = inline-empty d k

pub inline-packed-joined : (d : ℕ) (k : Output) (xs ys : Exprs) → inline d k (written (packed_text (joined xs ys))) ≡ inline d (inline d k (written (packed_text xs))) (written (packed_text ys))
unfolding packed_text
inline-packed-joined d k NoExprs ys = ap (λ j. inline d j (written (packed_text ys))) (sym (inline-empty d k))
inline-packed-joined d k (MoreExprs x xs) ys = inline-after d k (packed_text xs) (packed_text (joined xs ys)) (packed_text ys) (λ j. inline-packed-joined d j xs ys) (packed_range x)

pub inline-no-unpacked : (d : ℕ) (k : Output) (dialect : Dialect) → inline d k (written (unpacked_text dialect NoExprs)) ≡ k
unfolding unpacked_text
inline-no-unpacked d k dialect = inline-empty d k

pub inline-unpacked-joined : (d : ℕ) (k : Output) (dialect : Dialect) (xs ys : Exprs) →
    inline d k (written (unpacked_text dialect (joined xs ys))) ≡ inline d (inline d k (written (unpacked_text dialect xs))) (written (unpacked_text dialect ys))
unfolding unpacked_text
inline-unpacked-joined d k dialect NoExprs ys = ap (λ j. inline d j (written (unpacked_text dialect ys))) (sym (inline-empty d k))
inline-unpacked-joined d k dialect (MoreExprs x xs) ys =
    inline-after d k (unpacked_text dialect xs) (unpacked_text dialect (joined xs ys)) (unpacked_text dialect ys) (λ j. inline-unpacked-joined d j dialect xs ys) (unpacked_range dialect x)

-- the dimensions of an array

pub inline-packed : (d : ℕ) (k : Output) (x : ExprTree) (xs : Exprs) →
    inline d k (written (packed_text (MoreExprs x xs))) ≡ inline d (word (inline d (word k (codes "[")) (written (highest_index_text x (literal_value x)))) (codes ":0]")) (written (packed_text xs))
unfolding packed_text
inline-packed d k x xs = simp (inline-then, inline-word)

pub inline-unpacked : (d : ℕ) (k : Output) (dialect : Dialect) (x : ExprTree) (xs : Exprs) →
    inline d k (written (unpacked_text dialect (MoreExprs x xs))) ≡ inline d (inline d k (written (unpacked_range dialect x))) (written (unpacked_text dialect xs))
unfolding unpacked_text
inline-unpacked d k dialect x xs = inline-then d k (unpacked_range dialect x) (unpacked_text dialect xs)

pub inline-verilog-range : (d : ℕ) (k : Output) (x : ExprTree) →
    inline d k (written (unpacked_range VerilogDialect x)) ≡ word (inline d (word k (codes "[0:")) (written (highest_index_text x (literal_value x)))) (codes "]")
inline-verilog-range d k x = simp (inline-then, inline-word)

pub inline-system-range : (d : ℕ) (k : Output) (x : ExprTree) →
    inline d k (written (unpacked_range SystemVerilogDialect x)) ≡ word (inline d (word k (codes "[")) (written (expr_text x))) (codes "]")
inline-system-range d k x = simp (inline-then, inline-word)

pub inline-count : (d : ℕ) (k : Output) (z : ℤ) (v : Option ℤ) → inline d k (written (expr_text (LiteralTree (signed_decimal z) v))) ≡ word k (signed_decimal z)
unfolding expr_text
inline-count d k z v = inline-number d k z
