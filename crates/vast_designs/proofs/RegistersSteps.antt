-- The file of the registers: each call in turn, from the file before it, its answer and the file after it.
use Rattle.std.proofs.Common.{◌≡◌, ℕ, pos, false, List, ◌∷◌, [], All, Some, IsOkAnd, refl, codes}
use Rattle.std.proofs.lemmas.List.Elements.{All-cons, All-nil}
use Rattle.vast_literal.specs.declared.literal.LiteralFormat.TheVariants.{Hex}
use Rattle.vast_literal.specs.Digits.{is_numeral, digits_in, number_in, lowest_digits, digit_count, separator}
use Rattle.vast_literal.specs.Literal.{literal_of, typed_parts, split_at, without_sign, has_minus, radix_and_digits, is_decimal, width_of, fits_in, modulo_width, magnitude_of, fitted, value_of}
use Rattle.vast_literal.specs.LiteralText.{format_text}
use Rattle.vast_literal.specs.Tree.{LiteralTree, ScalarTree}
use Rattle.std.specs.Fmt.{digits}
use Rattle.vast_core.specs.declared.handle.Expr.{Expr}
use Rattle.vast_core.specs.declared.handle.VastModule.{VastModule}
use Rattle.vast_core.specs.declared.handle.VastDataType.{VastDataType}
use Rattle.vast_core.specs.declared.handle.LogicRef.{LogicRef}
use Rattle.vast_literal.specs.declared.kind.VastFileType.TheVariants.{SystemVerilog}
use Rattle.vast_literal.specs.declared.kind.ModulePortDirection.TheVariants.{Input}
use Rattle.vast_literal.specs.declared.kind.DataKind.TheVariants.{Wire, Logic}
use Rattle.vast_core.specs.Bench.{Bench, start, OwnsModule, OwnsExpr, OwnsType}
use Rattle.vast_core.specs.Growth.{with_module, with_port, with_declaration, with_expr, with_type, next_module, next_logic_ref, next_expr, next_type}
use Rattle.xlsynth_vast.specs.declared.helpers.registers.RegisterDefinition.{RegisterDefinition}
use Rattle.xlsynth_vast.specs.Equations.{next_bit_vector, with_bit_vector}
use Rattle.xlsynth_vast.specs.Declarations.{names_in, unless_taken}
use Rattle.xlsynth_vast.specs.Literals.{literal_in}
use Rattle.xlsynth_vast.specs.Registers.{OwnsRegister}
use Rattle.vast_designs.specs.Internal.RegistersFile.{the_module, bit, clock, reset, enable, the_signals, byte, first, first_next, second, second_next, the_state, first_value, second_value, the_values, enabled, plain, signals_made, state_made, values_made}
use Rattle.vast_designs.proofs.DesignTexts.{allowed}

-- The file after each call within a part.

unfoldable pub b1 : Bench
b1 = with_module (codes "regs_rst_en") (start SystemVerilog 1)

unfoldable pub b2 : Bench
b2 = with_type (ScalarTree false) b1

unfoldable pub b3 : Bench
b3 = with_port the_module Input Wire (codes "clk") bit b2

unfoldable pub b4 : Bench
b4 = with_port the_module Input Wire (codes "rst") bit b3

unfoldable pub b6 : Bench
b6 = with_bit_vector (pos 8) false signals_made

unfoldable pub b7 : Bench
b7 = with_declaration the_module Logic (codes "r") byte b6

unfoldable pub b8 : Bench
b8 = with_declaration the_module Logic (codes "r_next") byte b7

unfoldable pub b9 : Bench
b9 = with_declaration the_module Logic (codes "r2") byte b8

unfoldable pub b11 : Bench
b11 = with_expr (LiteralTree (codes "8'haa") (Some (pos 170))) state_made

step1 : (b c : Bench) (m : VastModule) → b ≡ start SystemVerilog 1 → (m ≡ next_module b) × (c ≡ with_module (codes "regs_rst_en") b) → (m ≡ the_module) × (c ≡ b1)
unfolding b1
step1 b c m e h = rw (h.1, h.0, e) (refl, refl)

step2 : (b c : Bench) (t : VastDataType) → b ≡ b1 → (t ≡ next_type b) × (c ≡ with_type (ScalarTree false) b) → (t ≡ bit) × (c ≡ b2)
unfolding b1 b2
step2 b c t e h = rw (h.1, h.0, e) (refl, refl)

step3 : (b c : Bench) (m : VastModule) (t : VastDataType) (r : LogicRef) → b ≡ b2 → m ≡ the_module → t ≡ bit → (r ≡ next_logic_ref b) × (c ≡ with_port m Input Wire (codes "clk") t b) → (r ≡ clock) × (c ≡ b3)
unfolding b1 b2 b3
step3 b c m t r e em et h = rw (h.1, h.0, e, em, et) (refl, refl)

step4 : (b c : Bench) (m : VastModule) (t : VastDataType) (r : LogicRef) → b ≡ b3 → m ≡ the_module → t ≡ bit → (r ≡ next_logic_ref b) × (c ≡ with_port m Input Wire (codes "rst") t b) → (r ≡ reset) × (c ≡ b4)
unfolding b1 b2 b3 b4
step4 b c m t r e em et h = rw (h.1, h.0, e, em, et) (refl, refl)

step5 : (b c : Bench) (m : VastModule) (t : VastDataType) (r : LogicRef) → b ≡ b4 → m ≡ the_module → t ≡ bit → (r ≡ next_logic_ref b) × (c ≡ with_port m Input Wire (codes "en") t b) → (r ≡ enable) × (c ≡ signals_made)
unfolding b1 b2 b3 b4 signals_made
step5 b c m t r e em et h = rw (h.1, h.0, e, em, et) (refl, refl)

pub step6 : (b c : Bench) (t : VastDataType) → b ≡ signals_made → (t ≡ next_bit_vector (pos 8) b) × (c ≡ with_bit_vector (pos 8) false b) → (t ≡ byte) × (c ≡ b6)
unfolding signals_made b6
step6 b c t e h = rw (h.1, h.0, e) (refl, refl)

-- What a call of `add_logic` leaves whose name is free.
abbrev Declares : (b c : Bench) (m : VastModule) (name : List ℕ) (t : VastDataType) (r : LogicRef) → Type 0
Declares b c m name t r = IsOkAnd (unless_taken (codes "logic") name (names_in b m)) (λ _. (r ≡ next_logic_ref b) × (c ≡ with_declaration m Logic name t b))

pub step7 : (b c : Bench) (m : VastModule) (t : VastDataType) (r : LogicRef) → b ≡ b6 → m ≡ the_module → t ≡ byte → Declares b c m (codes "r") t r → (r ≡ first) × (c ≡ b7)
unfolding signals_made b6 b7
step7 b c m t r e em et h =
    let made = allowed (unless_taken (codes "logic") (codes "r") (names_in b m)) h in
    rw (made.1, made.0, e, em, et) (refl, refl)

pub step8 : (b c : Bench) (m : VastModule) (t : VastDataType) (r : LogicRef) → b ≡ b7 → m ≡ the_module → t ≡ byte → Declares b c m (codes "r_next") t r → (r ≡ first_next) × (c ≡ b8)
unfolding signals_made b6 b7 b8
step8 b c m t r e em et h =
    let made = allowed (unless_taken (codes "logic") (codes "r_next") (names_in b m)) h in
    rw (made.1, made.0, e, em, et) (refl, refl)

pub step9 : (b c : Bench) (m : VastModule) (t : VastDataType) (r : LogicRef) → b ≡ b8 → m ≡ the_module → t ≡ byte → Declares b c m (codes "r2") t r → (r ≡ second) × (c ≡ b9)
unfolding signals_made b6 b7 b8 b9
step9 b c m t r e em et h =
    let made = allowed (unless_taken (codes "logic") (codes "r2") (names_in b m)) h in
    rw (made.1, made.0, e, em, et) (refl, refl)

pub step10 : (b c : Bench) (m : VastModule) (t : VastDataType) (r : LogicRef) → b ≡ b9 → m ≡ the_module → t ≡ byte → Declares b c m (codes "r2_next") t r → (r ≡ second_next) × (c ≡ state_made)
unfolding signals_made b6 b7 b8 b9 state_made
step10 b c m t r e em et h =
    let made = allowed (unless_taken (codes "logic") (codes "r2_next") (names_in b m)) h in
    rw (made.1, made.0, e, em, et) (refl, refl)

step11 : (b c : Bench) (x : Expr) → b ≡ state_made → IsOkAnd (literal_in Hex (codes "bits[8]:0xaa")) (λ tree. (x ≡ next_expr b) × (c ≡ with_expr tree b)) → (x ≡ first_value) × (c ≡ b11)
unfolding signals_made state_made b11 is_numeral digits_in number_in lowest_digits digit_count separator literal_of typed_parts split_at without_sign has_minus radix_and_digits is_decimal width_of fits_in modulo_width magnitude_of fitted value_of format_text digits
step11 b c x e h = rw (h.1, h.0, e) (refl, refl)

step12 : (b c : Bench) (x : Expr) → b ≡ b11 → IsOkAnd (literal_in Hex (codes "bits[8]:0x55")) (λ tree. (x ≡ next_expr b) × (c ≡ with_expr tree b)) → (x ≡ second_value) × (c ≡ values_made)
unfolding signals_made state_made b11 values_made is_numeral digits_in number_in lowest_digits digit_count separator literal_of typed_parts split_at without_sign has_minus radix_and_digits is_decimal width_of fits_in modulo_width magnitude_of fitted value_of format_text digits
step12 b c x e h = rw (h.1, h.0, e) (refl, refl)

-- The handles that the calls take are the file's.

pub owns-owner-in-first : (c : Bench) (x : VastModule) → c ≡ b6 → x ≡ the_module → OwnsModule c x
unfolding signals_made b6
owns-owner-in-first c x e ex = rw (e, ex) (record { of_file = refl; of_kind = refl })

pub owns-byte-in-first : (c : Bench) (x : VastDataType) → c ≡ b6 → x ≡ byte → OwnsType c x
unfolding signals_made b6
owns-byte-in-first c x e ex = rw (e, ex) (record { of_file = refl; of_kind = refl })

pub owns-owner-in-first-next : (c : Bench) (x : VastModule) → c ≡ b7 → x ≡ the_module → OwnsModule c x
unfolding signals_made b6 b7
owns-owner-in-first-next c x e ex = rw (e, ex) (record { of_file = refl; of_kind = refl })

pub owns-byte-in-first-next : (c : Bench) (x : VastDataType) → c ≡ b7 → x ≡ byte → OwnsType c x
unfolding signals_made b6 b7
owns-byte-in-first-next c x e ex = rw (e, ex) (record { of_file = refl; of_kind = refl })

pub owns-owner-in-second : (c : Bench) (x : VastModule) → c ≡ b8 → x ≡ the_module → OwnsModule c x
unfolding signals_made b6 b7 b8
owns-owner-in-second c x e ex = rw (e, ex) (record { of_file = refl; of_kind = refl })

pub owns-byte-in-second : (c : Bench) (x : VastDataType) → c ≡ b8 → x ≡ byte → OwnsType c x
unfolding signals_made b6 b7 b8
owns-byte-in-second c x e ex = rw (e, ex) (record { of_file = refl; of_kind = refl })

pub owns-owner-in-second-next : (c : Bench) (x : VastModule) → c ≡ b9 → x ≡ the_module → OwnsModule c x
unfolding signals_made b6 b7 b8 b9
owns-owner-in-second-next c x e ex = rw (e, ex) (record { of_file = refl; of_kind = refl })

pub owns-byte-in-second-next : (c : Bench) (x : VastDataType) → c ≡ b9 → x ≡ byte → OwnsType c x
unfolding signals_made b6 b7 b8 b9
owns-byte-in-second-next c x e ex = rw (e, ex) (record { of_file = refl; of_kind = refl })

pub owns-owner : (c : Bench) (x : VastModule) → c ≡ values_made → x ≡ the_module → OwnsModule c x
unfolding signals_made state_made values_made
owns-owner c x e ex = rw (e, ex) (record { of_file = refl; of_kind = refl })

pub owns-clock : (c : Bench) (x : Expr) → c ≡ values_made → x ≡ record { id = clock.id } → OwnsExpr c x
unfolding signals_made state_made values_made
owns-clock c x e ex = rw (e, ex) (record { of_file = refl; of_kind = refl })

pub owns-reset : (c : Bench) (x : Expr) → c ≡ values_made → x ≡ record { id = reset.id } → OwnsExpr c x
unfolding signals_made state_made values_made
owns-reset c x e ex = rw (e, ex) (record { of_file = refl; of_kind = refl })

owns-enabled : OwnsRegister values_made (enabled the_signals the_state the_values)
unfolding signals_made state_made values_made
owns-enabled = (record { of_file = refl; of_kind = refl }, record { of_file = refl; of_kind = refl }, record { of_file = refl; of_kind = refl }, record { of_file = refl; of_kind = refl })

owns-plain : OwnsRegister values_made (plain the_state the_values)
unfolding signals_made state_made values_made
owns-plain = (record { of_file = refl; of_kind = refl }, record { of_file = refl; of_kind = refl }, record { of_file = refl; of_kind = refl }, tt)

pub owns-both : (c : Bench) (r q : RegisterDefinition) → c ≡ values_made → r ≡ enabled the_signals the_state the_values → q ≡ plain the_state the_values → All (OwnsRegister c) (r ∷ q ∷ [])
owns-both c r q e er eq =
    let owns-r : OwnsRegister c r = rw (e, er) owns-enabled in
    let owns-q : OwnsRegister c q = rw (e, eq) owns-plain in
    All-cons (OwnsRegister c) r (q ∷ []) owns-r (All-cons (OwnsRegister c) q [] owns-q (All-nil (OwnsRegister c)))

-- The steps of each part together.

pub signals-made :
    (c0 c1 c2 c3 c4 c5 : Bench) (m : VastModule) (t : VastDataType) (k s e : LogicRef) →
    c0 ≡ start SystemVerilog 1 →
    (m ≡ next_module c0) × (c1 ≡ with_module (codes "regs_rst_en") c0) →
    (t ≡ next_type c1) × (c2 ≡ with_type (ScalarTree false) c1) →
    (k ≡ next_logic_ref c2) × (c3 ≡ with_port m Input Wire (codes "clk") t c2) →
    (s ≡ next_logic_ref c3) × (c4 ≡ with_port m Input Wire (codes "rst") t c3) →
    (e ≡ next_logic_ref c4) × (c5 ≡ with_port m Input Wire (codes "en") t c4) →
    (record { owner = m; clock = k; reset = s; enable = e } ≡ the_signals) × (c5 ≡ signals_made)
signals-made c0 c1 c2 c3 c4 c5 m t k s e h0 h1 h2 h3 h4 h5 =
    let s1 = step1 c0 c1 m h0 h1 in
    let s2 = step2 c1 c2 t s1.1 h2 in
    let s3 = step3 c2 c3 m t k s2.1 s1.0 s2.0 h3 in
    let s4 = step4 c3 c4 m t s s3.1 s1.0 s2.0 h4 in
    let s5 = step5 c4 c5 m t e s4.1 s1.0 s2.0 h5 in
    (rw (s1.0, s3.0, s4.0, s5.0) refl, s5.1)

pub values-made :
    (c0 c1 c2 : Bench) (v w : Expr) →
    c0 ≡ state_made →
    IsOkAnd (literal_in Hex (codes "bits[8]:0xaa")) (λ tree. (v ≡ next_expr c0) × (c1 ≡ with_expr tree c0)) →
    IsOkAnd (literal_in Hex (codes "bits[8]:0x55")) (λ tree. (w ≡ next_expr c1) × (c2 ≡ with_expr tree c1)) →
    (record { first = v; second = w } ≡ the_values) × (c2 ≡ values_made)
values-made c0 c1 c2 v w h0 h1 h2 =
    let s1 = step11 c0 c1 v h0 h1 in
    let s2 = step12 c1 c2 w s1.1 h2 in
    (rw (s1.0, s2.0) refl, s2.1)
