-- The text of a declaration has the tokens that the grammar reads.
use Rattle.std.proofs.Common.{◌≡◌, ℕ, ℤ, pos, ◌-ℤ◌, List, [], ◌∷◌, ◌++◌, Bool, true, false, Option, Some, None, refl, sym, subst, ap, ◌∙◌, append_assoc, append-nil, codes}
use Rattle.std.proofs.lemmas.Option.{same_Some}
use Rattle.std.specs.Fmt.{signed_decimal}
use Rattle.vast_literal.specs.Tokens.{Token, key_text, Word, Mark, Number}
use Rattle.vast_literal.specs.declared.token.Sign.TheVariants.{Minus}
use Rattle.vast_literal.specs.declared.token.Mark.TheVariants.{CloseBracket, Colon}
use Rattle.vast_literal.specs.declared.token.Key.TheVariants.{Wire as WireKey, Reg as RegKey, Logic as LogicKey, Integer as IntegerKey, Int as IntKey, Genvar as GenvarKey, Signed as SignedKey, Unsigned as UnsignedKey}
use Rattle.vast_literal.specs.Tree.{ExprTree, Exprs, NoExprs, MoreExprs, TypeTree, ScalarTree, VectorTree, IntegerTree, IntTree, ExternalTree, PackageTree, PackedTree, UnpackedTree, MissingType}
use Rattle.vast_literal.specs.declared.kind.VastFileType.{VastFileType as Dialect}
use Rattle.vast_literal.specs.declared.kind.VastFileType.TheVariants.{Verilog as VerilogDialect, SystemVerilog as SystemVerilogDialect}
use Rattle.vast_literal.specs.declared.kind.DataKind.{DataKind as Kind}
use Rattle.vast_literal.specs.declared.kind.DataKind.TheVariants.{Reg as RegKind, Wire as WireKind, Logic as LogicKind, Integer as IntegerKind, Int as IntKind, User as UserKind, UntypedEnum as UntypedEnumKind, Genvar as GenvarKind}
use Rattle.vast_literal.specs.Scan.{scan, cons_token}
use Rattle.vast_literal.specs.NormalExpr.{scalar_sign, integer_sign}
use Rattle.vast_literal.specs.Plain.{is_plain_name, is_plain, is_plain_type, are_plain}
use Rattle.vast_literal.specs.PlainFile.{is_plain_declaration}
use Rattle.vast_literal.specs.WellFormed.{is_well_formed, is_well_formed_type, are_well_formed}
use Rattle.vast_literal.specs.NormalTree.{kind_key, sign_of}
use Rattle.vast_literal.proofs.FileTokens.{maybe_tokens, type_name_tokens, number_tokens, zero_tokens, range_tokens, highest_index_tokens, vector_tokens, packed_tokens, unpacked_dimension_tokens, unpacked_tokens, declaration_tokens}
use Rattle.vast_literal.proofs.DeclarationSpelled.{base_plain, base_formed, packed_plain, packed_formed, unpacked_plain, unpacked_formed}
use Rattle.vast_literal.proofs.TokenReads.{stops, opens, Free, Divides, Reads}
use Rattle.vast_literal.proofs.ScanLaws.{scan_colon, and_right}
use Rattle.vast_print.proofs.FaultLaws.{halves, first_none}
use Rattle.vast_literal.proofs.Pieces.{add_tokens-nil, free_reads, reads_end, divides_free, enclosed, open_bracket, close_bracket, operator_divides, opens-append}
use Rattle.vast_literal.proofs.LiteralLaws.{literal_reads}
use Rattle.vast_literal.proofs.NumberLaws.{signed_text}
use Rattle.vast_literal.proofs.Words.{key_reads, name_reads, number_reads, double_colon}
use Rattle.vast_literal.specs.Shape.{literal_value, base_of, packed_dimensions, unpacked_dimensions, highest_index_wraps}
use Rattle.vast_print.specs.Printed.{Printed, plain_text, ◌⊕◌, gapped, spaced}
use Rattle.vast_print.specs.Text.{package_text, expr_text}
use Rattle.vast_print.specs.Declaration.{packed_text, unpacked_range, unpacked_text, highest_index_text, signed_word, unsigned_word, with_dimensions, based_text, type_text, name_text, kind_word, declaration_text}
use Rattle.vast_print.proofs.ExprOpens.{literal_opens, wrapped_opens, front, opens_text}
use Rattle.vast_print.proofs.ExprReads.{expr_reads}
use Rattle.vast_print.proofs.TextReads.{Prints, Rest, nothing_reads, rest_none, printed_assoc, leftward, regrouped, stands, after, after_free, enclosing, parted, goes_on, bracketed}
use Rattle.vast_print.proofs.PageReads.{space_divides}

-- what brings no bytes brings no tokens
empty_tokens : (ts : List Token) → Reads [] ts → ts ≡ []
unfolding scan
empty_tokens ts f = sym (same_Some [] ts (f.at [] refl ∙ add_tokens-nil ts))

-- a part with the space after it
gapped_free : (a : List ℕ) (p : Printed) (ts : List Token) → p.text ≡ a → Reads p.text ts → Free (gapped a p).text ts
unfolding ◌⊕◌ plain_text
gapped_free [] p ts e f = let h = empty_tokens ts (subst (λ (w : List ℕ). Reads w ts) e f) in rw (e, h) (record { at = λ rest. refl })
gapped_free (c ∷ w) p ts e f = rw append-nil at (reads_end f space_divides)

gapped_fine : (a : List ℕ) (p : Printed) → (gapped a p).fault ≡ None → p.fault ≡ None
unfolding ◌⊕◌
gapped_fine [] p f = f
gapped_fine (c ∷ w) p f = (first_none p.fault _ f).0

spaced_free : {p : Printed} {ts : List Token} → Prints Reads p ts → Prints Free (spaced p) ts
unfolding spaced
spaced_free {p = p} {ts = ts} f = record { told = λ e. gapped_free p.text p ts refl (f.told (gapped_fine p.text p e)) }

-- a group of dimensions before others, perhaps none
dimension_more : {p q : Printed} {ts us : List Token} → Prints Divides p ts → Prints Rest q us → Prints Rest (p ⊕ q) (ts ++ us)
unfolding ◌⊕◌
dimension_more {q = q} f g = record {
  told = λ e. let (x, y) = first_none _ _ e in let d = f.told x in record { reads = free_reads d.free (g.told y).reads; ends = λ rest h. rw append_assoc (d.stop (q.text ++ rest)) };
}

-- a text between two words
within : {p : Printed} {o c : List ℕ} {os ts cs : List Token} → Divides o os → Prints Reads p ts → Divides c cs → Prints Divides (plain_text o ⊕ p ⊕ plain_text c) (os ++ (ts ++ cs))
unfolding ◌⊕◌ plain_text
within {p = p} f g k = record { told = λ e. rw append_assoc (enclosed f (g.told ((first_none p.fault None e).0)) k) }

zero_close : Divides (58 ∷ 48 ∷ 93 ∷ []) (Mark Colon ∷ Number (codes "0") ∷ Mark CloseBracket ∷ [])
unfolding scan
zero_close = record { free = record { at = λ rest. refl }; stop = λ rest. refl }

number_told : (z : ℤ) → Reads (signed_decimal z) (number_tokens z)
number_told z = literal_reads (signed_decimal z) (signed_text z)

colon_free : (a : List ℕ) {ts : List Token} → opens false a ≡ true → Free a ts → Free (58 ∷ a) (Mark Colon ∷ ts)
unfolding scan
colon_free a k f = record { at = λ rest. scan_colon (a ++ rest) (opens-append false a rest k) ∙ ap (cons_token (Mark Colon)) (f.at rest) }

zero_reads : Reads (48 ∷ []) zero_tokens
zero_reads = number_reads (48 ∷ []) refl

free_after : {a b : List ℕ} {ts us : List Token} → Reads a ts → Free b us → ((rest : List ℕ) → stops (b ++ rest) ≡ true) → Free (a ++ b) (ts ++ us)
free_after f g s = reads_end f (record { free = g; stop = s })

number_opens : (z : ℤ) → opens false (signed_decimal z) ≡ true
number_opens z = literal_opens false (signed_decimal z) (signed_text z) (λ e. absurd (cc e))

verilog_range : (a : List ℕ) {ts : List Token} → opens false a ≡ true → Reads a ts → Divides (91 ∷ 48 ∷ 58 ∷ (a ++ (93 ∷ []))) (range_tokens zero_tokens ts)
verilog_range a k f = divides_free open_bracket (free_after zero_reads (colon_free (a ++ (93 ∷ [])) (opens-append false a (93 ∷ []) k) (reads_end f close_bracket)) (λ rest. refl))

-- the highest index of a vector, and of a dimension

highest_index_reads : (w : ExprTree) (v : Option ℤ) → is_plain w ≡ true → is_well_formed w ≡ true → Prints Reads (highest_index_text w v) (highest_index_tokens w v)
unfolding highest_index_text highest_index_tokens
highest_index_reads w (Some v) p h = stands _ (number_told (v -ℤ pos 1))
highest_index_reads w None p h = goes_on (bracketed (highest_index_wraps w) (expr_reads w p h))
    (stands _ (record { reads = free_reads (operator_divides Minus).free (number_reads (49 ∷ []) refl); ends = λ rest h. refl }))

highest_index_opens : (w : ExprTree) (v : Option ℤ) → is_plain w ≡ true → is_well_formed w ≡ true → opens false (highest_index_text w v).text ≡ true
unfolding highest_index_text plain_text
highest_index_opens w (Some v) p h = number_opens (v -ℤ pos 1)
highest_index_opens w None p h = front false _ _ (wrapped_opens false (highest_index_wraps w) (expr_text w) (λ _. opens_text false w p h (λ t. absurd (cc t))))

-- dimensions

packed_told : (ds : Exprs) → are_plain ds ≡ true → are_well_formed ds ≡ true → Prints Rest (packed_text ds) (packed_tokens ds)
unfolding packed_text packed_tokens
packed_told NoExprs p w = rest_none
packed_told (MoreExprs d ds) p w = dimension_more (within open_bracket (highest_index_reads d (literal_value d) (search halves) (search halves)) zero_close) (packed_told ds (search halves) (search halves))

unpacked_dimension_told : (dialect : Dialect) (d : ExprTree) → is_plain d ≡ true → is_well_formed d ≡ true → Prints Divides (unpacked_range dialect d) (unpacked_dimension_tokens dialect d)
unfolding unpacked_dimension_tokens ◌⊕◌ plain_text
unpacked_dimension_told SystemVerilogDialect d p w = within open_bracket (expr_reads d p w) close_bracket
unpacked_dimension_told VerilogDialect d p w = record {
  told = λ e. verilog_range (highest_index_text d (literal_value d)).text (highest_index_opens d (literal_value d) p w) ((highest_index_reads d (literal_value d) p w).told ((first_none (highest_index_text d (literal_value d)).fault None e).0));
}

unpacked_told : (dialect : Dialect) (ds : Exprs) → are_plain ds ≡ true → are_well_formed ds ≡ true → Prints Rest (unpacked_text dialect ds) (unpacked_tokens dialect ds)
unfolding unpacked_text unpacked_tokens
unpacked_told dialect NoExprs p w = rest_none
unpacked_told dialect (MoreExprs d ds) p w = dimension_more (unpacked_dimension_told dialect d (search halves) (search halves)) (unpacked_told dialect ds (search halves) (search halves))

-- types

signed_told : (signed : Bool) → Reads (signed_word signed) (maybe_tokens (scalar_sign signed))
unfolding scalar_sign key_text
signed_told true = key_reads SignedKey
signed_told false = nothing_reads

unsigned_told : (signed : Bool) → Reads (unsigned_word signed) (maybe_tokens (integer_sign signed))
unfolding integer_sign key_text
unsigned_told true = nothing_reads
unsigned_told false = key_reads UnsignedKey

rest_reads : {p : Printed} {ts : List Token} → Prints Rest p ts → Prints Reads p ts
rest_reads f = record { told = λ e. (f.told e).reads }

with_dimensions_told : {p : Printed} (ds : Exprs) {ts : List Token} → Prints Reads p ts → Prints Rest (packed_text ds) (packed_tokens ds) → Prints Reads (with_dimensions p ds) (ts ++ packed_tokens ds)
unfolding with_dimensions packed_tokens
with_dimensions_told NoExprs f g = rw append-nil f
with_dimensions_told (MoreExprs d ds) f g = after (spaced_free f) (rest_reads g)

-- a type that is no array
is_base : TypeTree → Bool
is_base (PackedTree t ds) = false
is_base (UnpackedTree t ds) = false
is_base _ = true

base_is : (t : TypeTree) → is_base (base_of t) ≡ true
unfolding is_base
base_is (PackedTree t ds) = base_is t
base_is (UnpackedTree t ds) = base_is t
base_is _ = refl

based_told : (base : TypeTree) (ds : Exprs) → is_base base ≡ true → is_plain_type base ≡ true → is_well_formed_type base ≡ true → Prints Rest (packed_text ds) (packed_tokens ds) →
    Prints Reads (based_text base ds) (type_name_tokens base ++ (maybe_tokens (sign_of base) ++ (packed_tokens ds ++ vector_tokens base)))
unfolding based_text package_text type_name_tokens sign_of vector_tokens is_base
based_told (ScalarTree signed) ds e p w g = rw (append-nil (packed_tokens ds)) (with_dimensions_told ds (stands _ (signed_told signed)) g)
based_told (VectorTree h v signed) ds e p w g = simp printed_assoc (after (spaced_free (stands _ (signed_told signed))) (enclosing (rest_reads g) open_bracket (highest_index_reads h v p w) zero_close))
based_told (IntegerTree signed) ds e p w g = rw (append-nil (packed_tokens ds)) (with_dimensions_told ds (stands _ (unsigned_told signed)) g)
based_told (IntTree signed) ds e p w g = rw (append-nil (packed_tokens ds)) (with_dimensions_told ds (stands _ (unsigned_told signed)) g)
based_told (ExternalTree n) ds e p w g = rw (append-nil (packed_tokens ds)) (with_dimensions_told ds (stands _ (name_reads n p)) g)
based_told (PackageTree s n) ds e p w g =
    rw (append-nil (packed_tokens ds)) (with_dimensions_told ds (leftward _ _ _ (parted (stands _ (name_reads s (search halves))) double_colon (stands _ (name_reads n (search halves))))) g)
based_told (PackedTree t own) ds e p w g = absurd (cc e)
based_told (UnpackedTree t own) ds e p w g = absurd (cc e)
based_told MissingType ds e p w g = absurd (cc w)

-- declarations

type_told : (t : TypeTree) → is_plain_type t ≡ true → is_well_formed_type t ≡ true →
    Prints Reads (type_text t) (type_name_tokens (base_of t) ++ (maybe_tokens (sign_of (base_of t)) ++ (packed_tokens (packed_dimensions t) ++ vector_tokens (base_of t))))
unfolding type_text
type_told t p w = based_told (base_of t) (packed_dimensions t) (base_is t) (base_plain t p) (base_formed t w) (packed_told (packed_dimensions t) (packed_plain t p) (packed_formed t w))

kind_told : (kind : Kind) → Reads (kind_word kind) (maybe_tokens (kind_key kind))
unfolding kind_key key_text
kind_told RegKind = key_reads RegKey
kind_told WireKind = key_reads WireKey
kind_told LogicKind = key_reads LogicKey
kind_told IntegerKind = key_reads IntegerKey
kind_told IntKind = key_reads IntKey
kind_told GenvarKind = key_reads GenvarKey
kind_told UserKind = nothing_reads
kind_told UntypedEnumKind = nothing_reads

-- what stands before a declared name, and the name
pub base_free : (kind : Kind) (t : TypeTree) → is_plain_type t ≡ true → is_well_formed_type t ≡ true → Prints Free (spaced (plain_text (kind_word kind)) ⊕ spaced (type_text t))
    (maybe_tokens (kind_key kind) ++ (type_name_tokens (base_of t) ++ (maybe_tokens (sign_of (base_of t)) ++ (packed_tokens (packed_dimensions t) ++ vector_tokens (base_of t)))))
base_free kind t p w = after_free (spaced_free (stands _ (kind_told kind))) (spaced_free (type_told t p w))

pub named_reads : (dialect : Dialect) (t : TypeTree) (n : List ℕ) → is_plain_declaration t n ≡ true → is_well_formed_type t ≡ true → Prints Reads (name_text dialect t n) (Word n ∷ unpacked_tokens dialect (unpacked_dimensions t))
unfolding name_text
named_reads dialect t n p w = goes_on (stands _ (name_reads n (search halves))) (unpacked_told dialect (unpacked_dimensions t) (unpacked_plain t (and_right (is_plain_name n) (is_plain_type t) p)) (unpacked_formed t w))

-- The text of a declaration reads as its tokens.
pub declaration_reads : (dialect : Dialect) (kind : Kind) (t : TypeTree) (n : List ℕ) → is_plain_declaration t n ≡ true → is_well_formed_type t ≡ true → Prints Reads (declaration_text dialect kind t n) (declaration_tokens dialect kind t n)
unfolding declaration_text declaration_tokens
declaration_reads dialect kind t n p w =
    regrouped (after (base_free kind t (search halves) w) (named_reads dialect t n p w)) (simp append_assoc)
