-- A reader of JSON gets the content of a text back.
use Rattle.std.proofs.Common.{◌≡◌, ℕ, ◌+◌, ◌*◌, ◌/◌, ◌%◌, ◌<◌, List, [], ◌∷◌, ◌++◌, true, false, refl, sym, ap, ◌∙◌, append_assoc, arith, ltb, length, mod-lt, lit<}
use Rattle.std.proofs.lemmas.Bool.Decides.{nat_tests}
use Rattle.std.proofs.lemmas.Bool.{lt-ltb}
use Rattle.std.specs.Prelude.{encode_utf8}
use lib.Utf8.{encode}
use Rattle.std.specs.List.{flat_map}
use Rattle.vast_literal.proofs.EscapeLaws.{control_range, by_escape}
use Rattle.vast_calls.specs.Json.{escaped, code_escape, json_text, read_on, json_read, behind, hex_digit, hex_value, is_hex, Outside, TextThen}
use mathlib.Core.List.{append-nil}
use Rattle.std.specs.Char.{is_ascii_control}

digit_is_hex : (n : ℕ) → n < 16 → is_hex (hex_digit n) ≡ true
digit_is_hex n h = grind (arith, nat_tests)

digit_value : (n : ℕ) → n < 16 → hex_value (hex_digit n) ≡ n
digit_value n h = grind (arith, nat_tests)

code_value : (c : ℕ) → 16 * (16 * (16 * hex_value 48 + hex_value 48) + c / 16) + c % 16 ≡ c
code_value c = omega arith

encoded_low : (c : ℕ) → c < 128 → encode_utf8 c ≡ c ∷ []
unfolding encode
encoded_low c h = rw (lt-ltb c 128 h) refl

code_read : (c : ℕ) (t : List ℕ) → c < 128 → read_on Outside (code_escape c ++ t) ≡ behind (c ∷ []) (read_on Outside t)
code_read c t h =
    rw (digit_is_hex (c / 16) (omega arith), digit_is_hex (c % 16) (mod-lt _ (lit< tt)), digit_value (c / 16) (omega arith), digit_value (c % 16) (mod-lt _ (lit< tt)))
    (ap (λ b. behind b (read_on Outside t)) (ap encode_utf8 (code_value c) ∙ encoded_low c h))

no_control_high : (c : ℕ) → is_ascii_control c ≡ false → ltb c 32 ≡ false
no_control_high c h = grind (arith, nat_tests)

-- an escape is read as its byte, whatever follows it
escaped_read : (c : ℕ) (t : List ℕ) → read_on Outside (escaped c ++ t) ≡ behind (c ∷ []) (read_on Outside t)
escaped_read c t =
    let this : (m : ℕ) → c ≡ m → behind (m ∷ []) (read_on Outside t) ≡ behind (c ∷ []) (read_on Outside t) = λ m e. ap (λ n. behind (n ∷ []) (read_on Outside t)) (sym e) in
    by_escape code_escape (λ e. read_on Outside (e ++ t) ≡ behind (c ∷ []) (read_on Outside t)) c (this 34) (this 92) (this 10) (this 13) (this 9)
    (λ h. code_read c t (let k = control_range c h in omega arith)) (λ q b _ n. rw (q, b, no_control_high c n))

read_all : (content rest : List ℕ) → read_on Outside (flat_map escaped content ++ 34 ∷ rest) ≡ TextThen content rest
read_all [] rest = refl
read_all (c ∷ cs) rest = rw (append_assoc (escaped c) (flat_map escaped cs) (34 ∷ rest)) (escaped_read c (flat_map escaped cs ++ 34 ∷ rest) ∙ ap (behind (c ∷ [])) (read_all cs rest))

pub text_read : (content rest : List ℕ) → json_read (json_text content ++ rest) ≡ TextThen content rest
unfolding json_text json_read
text_read content rest = rw (append_assoc (flat_map escaped content) (34 ∷ []) rest) (read_all content rest)

-- nothing is left, and the closing quote follows
pub whole : (text rest all before content : List ℕ) → text ++ flat_map escaped rest ≡ before ++ 34 ∷ flat_map escaped content → length rest ≡ 0 → all ≡ text ++ encode_utf8 34 → all ≡ before ++ json_text content
unfolding json_text encode
whole text [] all before content h e k = k ∙ ap (λ t. t ++ 34 ∷ []) (sym (append-nil text) ∙ h) ∙ append_assoc before (34 ∷ flat_map escaped content) (34 ∷ [])
whole text (c ∷ rest) all before content h e k = absurd (omega arith)
