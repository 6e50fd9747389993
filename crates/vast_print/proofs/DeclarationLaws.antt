-- Laws of writing declarations.
use Rattle.std.proofs.Common.{◌≡◌, ℕ, ℤ, pos, Bool, true, false, List, [], ◌∷◌, ◌++◌, Some, None, refl, sym, ◌∙◌, ap, codes}
use Rattle.std.specs.Prelude.{◌-ℤ◌}
use Rattle.std.specs.Fmt.{signed_decimal}
use Rattle.vast_literal.specs.Tree.{ExprTree, Exprs, NoExprs, MoreExprs, TypeTree, PortTree, Untyped, Typed}
use Rattle.vast_literal.specs.declared.kind.VastFileType.{VastFileType as Dialect}
use Rattle.vast_literal.specs.declared.kind.DataKind.{DataKind as Kind}
use Rattle.vast_literal.specs.declared.kind.DataKind.TheVariants.{Reg as RegKind}
use Rattle.vast_literal.specs.declared.kind.ModulePortDirection.{ModulePortDirection as PortDirection}
use Rattle.vast_literal.specs.declared.kind.ModulePortDirection.TheVariants.{Input as InputDirection, Output as OutputDirection, InOut as InOutDirection}
use Rattle.vast_literal.specs.Shape.{base_kind, base_of, unpacked_dimensions, highest_index_wraps}
use Rattle.vast_print.specs.Printed.{Printed, plain_text, ◌⊕◌, gapped, spaced, wrapped}
use Rattle.vast_print.specs.Page.{written, written_lines, beside_lines}
use Rattle.vast_print.specs.Output.{Output, word, inline, inline_lines, indented_lines, stop}
use Rattle.vast_print.specs.Text.{expr_text, package_text}
use Rattle.vast_print.specs.Declaration.{packed_text, unpacked_text, highest_index_text, signed_word, unsigned_word, with_dimensions, type_text, name_text, kind_word, declaration_text, port_declaration_text}
use Rattle.vast_print.specs.Layout.{port_text, parameter_port_text, direction_word}
use Rattle.vast_print.specs.Internal.Words.{has_dimension, kind_opening, signed_opening, unsigned_opening}
use Rattle.vast_print.proofs.NumberLaws.{has_text}
use Rattle.vast_print.proofs.OutputLaws.{inline-then, inline-empty, inline-word}

-- the kind word, the type and the name

pub inline-kind : (d : ℕ) (k : Output) (kind : Kind) → inline d k (written (spaced (plain_text (kind_word kind)))) ≡ word k (kind_opening kind)
unfolding inline written spaced plain_text ◌⊕◌ written_lines beside_lines inline_lines indented_lines stop
inline-kind d k RegKind = refl
inline-kind d k _ = refl

pub inline-declaration : (d : ℕ) (k : Output) (dialect : Dialect) (kind : Kind) (t : TypeTree) (name : List ℕ) →
    inline d k (written (declaration_text dialect kind t name))
    ≡ inline d (inline d (inline d (word k (kind_opening kind)) (written (spaced (type_text t)))) (written (plain_text name))) (written (unpacked_text dialect (unpacked_dimensions t)))
unfolding declaration_text name_text
inline-declaration d k dialect kind t name = simp (inline-then, inline-kind)

inline-direction : (d : ℕ) (k : Output) (p : PortDirection) → inline d k (written (plain_text (direction_word p))) ≡ word k (direction_word p)
inline-direction d k InputDirection = inline-word d k (codes "input ") refl
inline-direction d k OutputDirection = inline-word d k (codes "output ") refl
inline-direction d k InOutDirection = inline-word d k (codes "inout ") refl

pub inline-port : (d : ℕ) (k : Output) (dialect : Dialect) (p : PortTree) →
    inline d k (written (port_text dialect p)) ≡ inline d (word k (direction_word p.direction)) (written (port_declaration_text dialect p.declaration))
unfolding port_text
inline-port d k dialect p =
    inline-then d k (plain_text (direction_word p.direction)) (port_declaration_text dialect p.declaration)
    ∙ ap (λ j. inline d j (written (port_declaration_text dialect p.declaration))) (inline-direction d k p.direction)

pub inline-untyped-parameter : (d : ℕ) (k : Output) (dialect : Dialect) (name : List ℕ) (value : ExprTree) →
    inline d k (written (parameter_port_text dialect (record { name = name; type = Untyped; value = value })))
    ≡ inline d (word (inline d (word k (codes "parameter ")) (written (plain_text name))) (codes " = ")) (written (expr_text value))
unfolding parameter_port_text
inline-untyped-parameter d k dialect name value = simp (inline-then, inline-word)

pub inline-typed-parameter : (d : ℕ) (k : Output) (dialect : Dialect) (name : List ℕ) (t : TypeTree) (value : ExprTree) →
    inline d k (written (parameter_port_text dialect (record { name = name; type = Typed t; value = value })))
    ≡ inline d (word (inline d (word k (codes "parameter ")) (written (declaration_text dialect (base_kind (base_of t)) t name))) (codes " = ")) (written (expr_text value))
unfolding parameter_port_text
inline-typed-parameter d k dialect name t value = simp (inline-then, inline-word)

-- types, each part with the space after it, by what they are made of

spaced-empty : spaced (plain_text []) ≡ plain_text []
unfolding spaced plain_text
spaced-empty = refl

spaced-plain : (c : ℕ) (w : List ℕ) → spaced (plain_text (c ∷ w)) ≡ plain_text (c ∷ w) ⊕ plain_text (codes " ")
unfolding spaced plain_text
spaced-plain c w = refl

-- a text that ends in something is followed by a space
pub spaced-then : (p : Printed) (c : ℕ) (w : List ℕ) → spaced (p ⊕ plain_text (c ∷ w)) ≡ p ⊕ plain_text (c ∷ w) ⊕ plain_text (codes " ")
unfolding spaced plain_text ◌⊕◌
spaced-then p c w = go p.text
  where
    go : (t : List ℕ) → gapped (t ++ (c ∷ w)) (p ⊕ plain_text (c ∷ w)) ≡ p ⊕ plain_text (c ∷ w) ⊕ plain_text (codes " ")
    go [] = refl
    go (x ∷ t) = refl

pub package_then : (scope name : List ℕ) → package_text scope name ≡ plain_text scope ⊕ plain_text (codes "::") ⊕ plain_text name
unfolding package_text
package_then scope name = refl

pub spaced-package : (scope name : List ℕ) → spaced (package_text scope name) ≡ package_text scope name ⊕ plain_text (codes " ")
unfolding spaced package_text plain_text ◌⊕◌
spaced-package [] name = refl
spaced-package (c ∷ scope) name = refl

pub inline-signed-word : (d : ℕ) (k : Output) (signed : Bool) → inline d k (written (spaced (plain_text (signed_word signed)))) ≡ word k (signed_opening signed)
unfolding inline written spaced plain_text ◌⊕◌ written_lines beside_lines inline_lines indented_lines stop
inline-signed-word d k true = refl
inline-signed-word d k false = refl

pub inline-unsigned-word : (d : ℕ) (k : Output) (signed : Bool) → inline d k (written (spaced (plain_text (unsigned_word signed)))) ≡ word k (unsigned_opening signed)
unfolding inline written spaced plain_text ◌⊕◌ written_lines beside_lines inline_lines indented_lines stop
inline-unsigned-word d k true = refl
inline-unsigned-word d k false = refl

-- packed dimensions begin with a bracket, so a space follows them
spaced-none : spaced (packed_text NoExprs) ≡ plain_text []
unfolding spaced packed_text plain_text
spaced-none = refl

spaced-packed : (x : ExprTree) (xs : Exprs) → spaced (packed_text (MoreExprs x xs)) ≡ packed_text (MoreExprs x xs) ⊕ plain_text (codes " ")
unfolding spaced packed_text plain_text ◌⊕◌
spaced-packed x xs = refl

packed-spaced-then : (p : Printed) (x : ExprTree) (xs : Exprs) → spaced (p ⊕ packed_text (MoreExprs x xs)) ≡ p ⊕ packed_text (MoreExprs x xs) ⊕ plain_text (codes " ")
unfolding spaced packed_text plain_text ◌⊕◌
packed-spaced-then p x xs = go p.text
  where
    go : (t : List ℕ) → gapped (t ++ (packed_text (MoreExprs x xs)).text) (p ⊕ packed_text (MoreExprs x xs)) ≡ p ⊕ packed_text (MoreExprs x xs) ⊕ plain_text (codes " ")
    go [] = refl
    go (c ∷ t) = refl

-- a base type, and its packed dimensions after it
pub inline-with-dimensions : (d : ℕ) (k : Output) (p : Printed) (ds : Exprs) →
    inline d k (written (spaced (with_dimensions p ds))) ≡ inline d (inline d k (written (spaced p))) (written (spaced (packed_text ds)))
unfolding with_dimensions
inline-with-dimensions d k p NoExprs = sym (ap (λ x. inline d (inline d k (written (spaced p))) (written x)) spaced-none ∙ inline-empty d (inline d k (written (spaced p))))
inline-with-dimensions d k p (MoreExprs x xs) =
    let ds : Printed = packed_text (MoreExprs x xs) in
    let a : inline d k (written (spaced p ⊕ ds ⊕ plain_text (codes " "))) ≡ inline d (inline d (inline d k (written (spaced p))) (written ds)) (written (plain_text (codes " "))) = simp inline-then in
    let b : inline d (inline d k (written (spaced p))) (written (ds ⊕ plain_text (codes " "))) ≡ inline d (inline d (inline d k (written (spaced p))) (written ds)) (written (plain_text (codes " "))) = simp inline-then in
    ap (λ x. inline d k (written x)) (packed-spaced-then (spaced p) x xs)
    ∙ (a ∙ sym (ap (λ x. inline d (inline d k (written (spaced p))) (written x)) (spaced-packed x xs) ∙ b))

pub inline-spaced-packed : (d : ℕ) (k : Output) (ds : Exprs) → has_dimension ds ≡ true → inline d k (written (spaced (packed_text ds))) ≡ word (inline d k (written (packed_text ds))) (codes " ")
inline-spaced-packed d k NoExprs h = absurd (cc h)
inline-spaced-packed d k (MoreExprs x xs) h = ap (λ x. inline d k (written x)) (spaced-packed x xs) ∙ simp (inline-then, inline-word)

pub inline-spaced-unpacked : (d : ℕ) (k : Output) (ds : Exprs) → has_dimension ds ≡ false → inline d k (written (spaced (packed_text ds))) ≡ k
inline-spaced-unpacked d k NoExprs h = ap (λ x. inline d k (written x)) spaced-none ∙ inline-empty d k
inline-spaced-unpacked d k (MoreExprs x xs) h = absurd (cc h)

-- a part with the space after it, where it isn't empty
pub inline-spaced : (d : ℕ) (k : Output) (w : List ℕ) → has_text w ≡ true → inline d k (written (spaced (plain_text w))) ≡ word (inline d k (written (plain_text w))) (codes " ")
inline-spaced d k [] h = absurd (cc (h))
inline-spaced d k (c ∷ w) h = ap (λ x. inline d k (written x)) (spaced-plain c w) ∙ simp (inline-then, inline-word)

pub inline-spaced-none : (d : ℕ) (k : Output) (w : List ℕ) → has_text w ≡ false → inline d k (written (spaced (plain_text w))) ≡ k
inline-spaced-none d k [] h = ap (λ x. inline d k (written x)) spaced-empty ∙ inline-empty d k
inline-spaced-none d k (c ∷ w) h = absurd (cc (h))

-- highest_indices of vectors

pub inline-highest-value : (d : ℕ) (k : Output) (w : ExprTree) (v : ℤ) → inline d k (written (highest_index_text w (Some v))) ≡ inline d k (written (plain_text (signed_decimal (v -ℤ pos 1))))
unfolding highest_index_text
inline-highest-value d k w v = refl

pub inline-highest-index : (d : ℕ) (k : Output) (w : ExprTree) → inline d k (written (highest_index_text w None)) ≡ word (inline d k (written (wrapped (highest_index_wraps w) (expr_text w)))) (codes " - 1")
unfolding highest_index_text
inline-highest-index d k w = simp (inline-then, inline-word)
