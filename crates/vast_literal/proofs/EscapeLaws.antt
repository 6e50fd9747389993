-- The escapes of a text between quotes, however it writes the codes of control characters: what each character adds.
use Rattle.std.proofs.Common.{◌≡◌, ℕ, ◌<◌, ◌≤◌, List, [], ◌∷◌, ◌++◌, true, false, append_assoc, arith, ⊎_elim, eqb, eqb-true, ltb}
use Rattle.std.proofs.lemmas.Bool.Decides.{nat_tests}
use Rattle.std.specs.Prelude.{◌≢◌, ◌⊎◌}
use Rattle.std.proofs.lemmas.Bool.{le-ltb, lt-ltb, cases_lt, ne_eqb, cond_both}
use Rattle.std.specs.Prelude.{encode_utf8}
use lib.Utf8.{encode}
use Rattle.std.specs.List.{flat_map}
use Rattle.vast_literal.specs.Quoted.{escaped_by}
use Rattle.std.proofs.lemmas.List.Concat.{flat_map-append}
use mathlib.Core.List.{append-nil}
use Rattle.std.specs.Char.{is_ascii_control}
use Rattle.vast_literal.proofs.ScanLaws.{by_test}

pub escaped_quote : (code : ℕ → List ℕ) (c : ℕ) → c ≡ 34 → flat_map (escaped_by code) (encode_utf8 c) ≡ 92 ∷ 34 ∷ []
unfolding escaped_by encode
escaped_quote code c e = rw e

pub escaped_backslash : (code : ℕ → List ℕ) (c : ℕ) → c ≡ 92 → flat_map (escaped_by code) (encode_utf8 c) ≡ 92 ∷ 92 ∷ []
unfolding escaped_by encode
escaped_backslash code c e = rw e

pub escaped_newline : (code : ℕ → List ℕ) (c : ℕ) → c ≡ 10 → flat_map (escaped_by code) (encode_utf8 c) ≡ 92 ∷ 110 ∷ []
unfolding escaped_by encode
escaped_newline code c e = rw e

pub escaped_return : (code : ℕ → List ℕ) (c : ℕ) → c ≡ 13 → flat_map (escaped_by code) (encode_utf8 c) ≡ 92 ∷ 114 ∷ []
unfolding escaped_by encode
escaped_return code c e = rw e

pub escaped_tab : (code : ℕ → List ℕ) (c : ℕ) → c ≡ 9 → flat_map (escaped_by code) (encode_utf8 c) ≡ 92 ∷ 116 ∷ []
unfolding escaped_by encode
escaped_tab code c e = rw e

pub control_range : (c : ℕ) → is_ascii_control c ≡ true → (c < 32) ⊎ (c ≡ 127)
control_range c h = grind (arith, nat_tests)

pub escaped_control : (code : ℕ → List ℕ) (c : ℕ) → is_ascii_control c ≡ true → c ≢ 10 → c ≢ 13 → c ≢ 9 → flat_map (escaped_by code) (encode_utf8 c) ≡ code c
unfolding escaped_by encode
escaped_control code c h n r t = let k = control_range c h in rw (lt-ltb c 128 (omega arith), ne_eqb c 34 (omega arith), ne_eqb c 92 (omega arith), ne_eqb c 10 n, ne_eqb c 13 r, ne_eqb c 9 t, h) (append-nil (code c))

-- a byte of no ASCII character stays as it is
escaped_high : (code : ℕ → List ℕ) (c : ℕ) → 128 ≤ c → escaped_by code c ≡ c ∷ []
unfolding escaped_by
escaped_high code c h = grind (arith, nat_tests)

high_two : (code : ℕ → List ℕ) (a b : ℕ) → 128 ≤ a → 128 ≤ b → flat_map (escaped_by code) (a ∷ b ∷ []) ≡ a ∷ b ∷ []
high_two code a b h k = rw (escaped_high code a h, escaped_high code b k)

high_three : (code : ℕ → List ℕ) (a b c : ℕ) → 128 ≤ a → 128 ≤ b → 128 ≤ c → flat_map (escaped_by code) (a ∷ b ∷ c ∷ []) ≡ a ∷ b ∷ c ∷ []
high_three code a b c h k l = rw (escaped_high code a h, escaped_high code b k, escaped_high code c l)

high_four : (code : ℕ → List ℕ) (a b c d : ℕ) → 128 ≤ a → 128 ≤ b → 128 ≤ c → 128 ≤ d → flat_map (escaped_by code) (a ∷ b ∷ c ∷ d ∷ []) ≡ a ∷ b ∷ c ∷ d ∷ []
high_four code a b c d h k l m = rw (escaped_high code a h, escaped_high code b k, escaped_high code c l, escaped_high code d m)

wide_character : (code : ℕ → List ℕ) (c : ℕ) → 128 ≤ c → flat_map (escaped_by code) (encode_utf8 c) ≡ encode_utf8 c
unfolding encode
wide_character code c h = rw (le-ltb c 128 h) (by_test (ltb c 2048) (λ x. rw x (high_two code _ _ (omega arith) (omega arith)))
    (λ x. by_test (ltb c 65536) (λ y. rw (x, y) (high_three code _ _ _ (omega arith) (omega arith) (omega arith)))
    (λ y. rw (x, y) (high_four code _ _ _ _ (omega arith) (omega arith) (omega arith) (omega arith)))))

plain_ascii : (code : ℕ → List ℕ) (c : ℕ) → c ≢ 34 → c ≢ 92 → c ≢ 10 → c ≢ 13 → c ≢ 9 → is_ascii_control c ≡ false → c < 128 → flat_map (escaped_by code) (encode_utf8 c) ≡ encode_utf8 c
unfolding escaped_by encode
plain_ascii code c q b n r t h k = rw (lt-ltb c 128 k, ne_eqb c 34 q, ne_eqb c 92 b, ne_eqb c 10 n, ne_eqb c 13 r, ne_eqb c 9 t, h)

pub escaped_other : (code : ℕ → List ℕ) (c : ℕ) → c ≢ 34 → c ≢ 92 → c ≢ 10 → c ≢ 13 → c ≢ 9 → is_ascii_control c ≡ false → flat_map (escaped_by code) (encode_utf8 c) ≡ encode_utf8 c
escaped_other code c q b n r t h = ⊎_elim (λ k. plain_ascii code c q b n r t h k) (λ k. wide_character code c k) (cases_lt c 128)

pub ruleset escaping = (escaped_quote, escaped_backslash, escaped_newline, escaped_return, escaped_tab, escaped_control, escaped_other)

-- one more character of what is left goes to the text
pub one_more : (code : ℕ → List ℕ) (text more rest after : List ℕ) (c : ℕ) (all : List ℕ) → text ++ flat_map (escaped_by code) rest ≡ all → rest ≡ encode_utf8 c ++ after → more ≡ text ++ flat_map (escaped_by code) (encode_utf8 c) → more ++ flat_map (escaped_by code) after ≡ all
one_more code text more rest after c all h e k =
    let j = flat_map-append (escaped_by code) (encode_utf8 c) after in
    let g = append_assoc text (flat_map (escaped_by code) (encode_utf8 c)) (flat_map (escaped_by code) after) in
    cc

-- what holds of each form of an escape
pub by_escape : (code : ℕ → List ℕ) (P : List ℕ → Type 0) (c : ℕ) → (c ≡ 34 → P (92 ∷ 34 ∷ [])) → (c ≡ 92 → P (92 ∷ 92 ∷ [])) → (c ≡ 10 → P (92 ∷ 110 ∷ [])) → (c ≡ 13 → P (92 ∷ 114 ∷ [])) → (c ≡ 9 → P (92 ∷ 116 ∷ []))
    → (is_ascii_control c ≡ true → P (code c)) → (eqb c 34 ≡ false → eqb c 92 ≡ false → eqb c 10 ≡ false → is_ascii_control c ≡ false → P (c ∷ [])) → P (escaped_by code c)
unfolding escaped_by
by_escape code P c q b n r t o p =
    cond_both (eqb c 34) _ _ P (λ e. q (eqb-true c 34 e)) (λ no_quote.
    cond_both (eqb c 92) _ _ P (λ e. b (eqb-true c 92 e)) (λ no_backslash.
    cond_both (eqb c 10) _ _ P (λ e. n (eqb-true c 10 e)) (λ no_break.
    cond_both (eqb c 13) _ _ P (λ e. r (eqb-true c 13 e)) (λ _.
    cond_both (eqb c 9) _ _ P (λ e. t (eqb-true c 9 e)) (λ _.
    cond_both (is_ascii_control c) _ _ P o (λ no_control. p no_quote no_backslash no_break no_control))))))
