-- A quoted text is one string token, and undoing its escapes gives the content back.
use Rattle.std.proofs.Common.{◌≡◌, ℕ, ◌+◌, ◌-◌, ◌*◌, ◌/◌, ◌%◌, ◌<◌, List, [], ◌∷◌, ◌++◌, true, false, ◌&&◌, refl, sym, ap, ◌∙◌, append_assoc, arith, eqb, ltb, leb, length, mod-lt, lit<}
use Rattle.std.proofs.lemmas.Bool.Decides.{nat_tests}
use Rattle.std.proofs.lemmas.Bool.{ne_eqb}
use Rattle.std.specs.Prelude.{encode_utf8}
use lib.Utf8.{encode}
use Rattle.std.specs.List.{flat_map}
use Rattle.vast_literal.specs.Quoted.{escaped, octal_escape, quoted, undone, content_of}
use Rattle.vast_literal.proofs.EscapeLaws.{control_range, by_escape}
use Rattle.vast_literal.specs.LiteralToken.{is_string_rest, is_string_text}
use Rattle.vast_literal.specs.Quoted.Escape.{Outside}
use mathlib.Core.List.{append-nil}

-- nothing is left, and the closing quote follows
pub whole : (text rest all content : List ℕ) → text ++ flat_map escaped rest ≡ 34 ∷ flat_map escaped content → length rest ≡ 0 → all ≡ text ++ encode_utf8 34 → all ≡ quoted content
unfolding quoted encode
whole text [] all content h e k = k ∙ ap (λ t. t ++ 34 ∷ []) (sym (append-nil text) ∙ h)
whole text (c ∷ rest) all content h e k = absurd (omega arith)

digit_no_break : (n : ℕ) → eqb (48 + n) 10 ≡ false
digit_no_break n = ne_eqb (48 + n) 10 (λ e. omega arith)

digit_no_quote : (n : ℕ) → eqb (48 + n) 34 ≡ false
digit_no_quote n = ne_eqb (48 + n) 34 (λ e. omega arith)

digit_no_backslash : (n : ℕ) → n < 8 → eqb (48 + n) 92 ≡ false
digit_no_backslash n h = ne_eqb (48 + n) 92 (λ e. omega arith)

octal_digit_closes : (n : ℕ) (t : List ℕ) → n < 8 → is_string_rest false ((48 + n) ∷ t) ≡ is_string_rest false t
octal_digit_closes n t h = rw (digit_no_quote n, digit_no_break n, digit_no_backslash n h)

octal_closes : (c : ℕ) (t : List ℕ) → is_string_rest false (octal_escape c ++ t) ≡ is_string_rest false t
octal_closes c t = rw (digit_no_break (c / 64)) (octal_digit_closes (c / 8 % 8) ((48 + c % 8) ∷ t) (mod-lt _ (lit< tt)) ∙ octal_digit_closes (c % 8) t (mod-lt _ (lit< tt)))

-- an escape, whatever follows it
escaped_closes : (c : ℕ) (t : List ℕ) → is_string_rest false (escaped c ++ t) ≡ is_string_rest false t
escaped_closes c t = by_escape octal_escape (λ e. is_string_rest false (e ++ t) ≡ is_string_rest false t) c (λ _. refl) (λ _. refl) (λ _. refl) (λ _. refl) (λ _. refl) (λ _. octal_closes c t) (λ q b n _. rw (q, b, n))

closes_all : (content : List ℕ) → is_string_rest false (flat_map escaped content ++ 34 ∷ []) ≡ true
closes_all [] = refl
closes_all (c ∷ cs) = rw (append_assoc (escaped c) (flat_map escaped cs) (34 ∷ [])) (escaped_closes c (flat_map escaped cs ++ 34 ∷ []) ∙ closes_all cs)

-- A quoted text is one string token.
pub quoted_token : (content : List ℕ) → is_string_text (quoted content) ≡ true
unfolding quoted
quoted_token content = closes_all content

digit_is_octal : (n : ℕ) → n < 8 → (leb 48 (48 + n) && ltb (48 + n) 56) ≡ true
digit_is_octal n h = grind (arith, nat_tests)

octal_number : (c : ℕ) → 8 * (8 * ((48 + c / 64) - 48) + ((48 + c / 8 % 8) - 48)) + ((48 + c % 8) - 48) ≡ c
octal_number c = omega arith

octal_undone : (c : ℕ) (t : List ℕ) → c < 512 → undone Outside (octal_escape c ++ t) ≡ c ∷ undone Outside t
octal_undone c t h = rw (digit_is_octal (c / 64) (omega arith)) (ap (λ n. n ∷ undone Outside t) (octal_number c))

-- an escape undone, whatever follows it
escaped_undone : (c : ℕ) (t : List ℕ) → undone Outside (escaped c ++ t) ≡ c ∷ undone Outside t
escaped_undone c t =
    let this : (m : ℕ) → c ≡ m → m ∷ undone Outside t ≡ c ∷ undone Outside t = λ m e. ap (λ n. n ∷ undone Outside t) (sym e) in
    by_escape octal_escape (λ e. undone Outside (e ++ t) ≡ c ∷ undone Outside t) c (this 34) (this 92) (this 10) (this 13) (this 9)
    (λ h. octal_undone c t (let k = control_range c h in omega arith)) (λ q b n _. rw (q, b))

undone_all : (content : List ℕ) → undone Outside (flat_map escaped content ++ 34 ∷ []) ≡ content
undone_all [] = refl
undone_all (c ∷ cs) = rw (append_assoc (escaped c) (flat_map escaped cs) (34 ∷ [])) (escaped_undone c (flat_map escaped cs ++ 34 ∷ []) ∙ ap (λ t. c ∷ t) (undone_all cs))

pub quoted_content : (content : List ℕ) → content_of (quoted content) ≡ content
unfolding quoted content_of
quoted_content content = undone_all content
