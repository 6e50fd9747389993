-- Texts between quotes, part by part.
use Rattle.std.proofs.Common.{◌≡◌, ℕ, ◌+◌, ◌/◌, ◌<◌, ◌≤◌, suc, List, [], ◌∷◌, ◌++◌, Bool, true, false, cond, Some, Result, Ok, Err, take, drop, refl, sym, ap, subst, ◌∙◌, append_assoc, append-nil, lit<, length, arith, inl, inr, ⊎_elim, ltb}
use Rattle.std.proofs.lemmas.Bool.{le-ltb, ne_eqb, cases_lt}
use Rattle.std.proofs.lemmas.List.{take-append-drop}
use Rattle.std.proofs.lemmas.List.Concat.{flat_map-append}
use Rattle.std.proofs.lemmas.List.Elements.{All-append, All-cons, All-nil}
use Rattle.std.proofs.lemmas.Str.Pattern.{NoCharPasses-char}
use Rattle.std.specs.Borrow.{Bor}
use Rattle.std.specs.Char.{IsScalar}
use Rattle.std.specs.List.{flat_map}
use Rattle.std.specs.Prelude.{◌≢◌, IfOk, encode_utf8, slice_index, ◌==◌}
use Rattle.std.specs.Str.{NoCharPasses}
use Rattle.std.specs.Str.Pattern.{FindsChar, FindsTextPrefix, SplitsAroundMatch, StripsPrefix}
use Rattle.std.specs.Str.Parse.{IsNumeral, digits_value, without_leading_plus}
use Rattle.vast_calls.specs.declared.problem.Misfit.{Misfit}
use Rattle.vast_calls.specs.Json.{letter_meaning}
use Rattle.vast_calls.specs.Written.{IsCode, IsContent, IsHigh, IsLow, IsPart, paired}
use Rattle.vast_calls.specs.Internal.Written.{IsCodeFront, IsContentFront, IsMeaning, IsPartFront, IsTextFront}
use Rattle.vast_calls.proofs.Words.{around, behind_text, encoded_low}
use lib.Utf8.{encode, next}

pub content_none : IsContent [] []
content_none = record { parts = []; all = All-nil (λ (part : List ℕ × List ℕ). IsPart part.0 part.1); written = refl; means = refl }

content_part : (w m : List ℕ) → IsPart w m → IsContent w m
content_part w m h = record {
  parts = (w, m) ∷ [];
  all = All-cons (λ (part : List ℕ × List ℕ). IsPart part.0 part.1) (w, m) [] h (All-nil (λ (part : List ℕ × List ℕ). IsPart part.0 part.1));
  written = sym (append-nil w);
  means = sym (append-nil m);
}

pub content_append : (a b c d : List ℕ) → IsContent a b → IsContent c d → IsContent (a ++ c) (b ++ d)
content_append a b c d h k = record {
  parts = h.parts ++ k.parts;
  all = All-append (λ (part : List ℕ × List ℕ). IsPart part.0 part.1) h.parts k.parts h.all k.all;
  written = ap (λ (xs : List ℕ). xs ++ c) h.written ∙ ap (λ (xs : List ℕ). flat_map (λ (part : List ℕ × List ℕ). part.0) h.parts ++ xs) k.written
      ∙ sym (flat_map-append (λ (part : List ℕ × List ℕ). part.0) h.parts k.parts);
  means = ap (λ (xs : List ℕ). xs ++ d) h.means ∙ ap (λ (xs : List ℕ). flat_map (λ (part : List ℕ × List ℕ). part.1) h.parts ++ xs) k.means
      ∙ sym (flat_map-append (λ (part : List ℕ × List ℕ). part.1) h.parts k.parts);
}

content_byte : (byte : ℕ) → byte ≢ 34 → byte ≢ 92 → IsContent (byte ∷ []) (byte ∷ [])
content_byte byte q b = content_part (byte ∷ []) (byte ∷ []) (inl (byte, q, b, refl, refl))

content_bytes : (byte : ℕ) (bytes : List ℕ) → byte ≢ 34 → byte ≢ 92 → IsContent bytes bytes → IsContent (byte ∷ bytes) (byte ∷ bytes)
content_bytes byte bytes q b h = content_append (byte ∷ []) (byte ∷ []) bytes bytes (content_byte byte q b) h

-- Bytes that are neither a quote nor a backslash stand for themselves.
plain_bytes : (bytes : List ℕ) → ((i : ℕ) → i < length bytes → slice_index bytes i ≢ 34) → ((i : ℕ) → i < length bytes → slice_index bytes i ≢ 92) → IsContent bytes bytes
plain_bytes [] q b = content_none
plain_bytes (byte ∷ bytes) q b =
    content_bytes byte bytes (q 0 (omega arith)) (b 0 (omega arith)) (plain_bytes bytes (λ i l. q (suc i) (omega (arith, l))) (λ i l. b (suc i) (omega (arith, l))))

pub plain_text : (bytes : List ℕ) → NoCharPasses (λ d. d == 34) bytes → NoCharPasses (λ d. d == 92) bytes → IsContent bytes bytes
plain_text bytes q b = plain_bytes bytes (λ i l. NoCharPasses-char 34 bytes i q (lit< tt) l) (λ i l. NoCharPasses-char 92 bytes i b (lit< tt) l)

high_byte : (byte : ℕ) (bytes : List ℕ) → 128 ≤ byte → IsContent bytes bytes → IsContent (byte ∷ bytes) (byte ∷ bytes)
high_byte byte bytes h k = content_bytes byte bytes (λ e. absurd (omega (arith, h, e))) (λ e. absurd (omega (arith, h, e))) k

wide_cases : (c : ℕ) (x y : Bool) →
    let bytes = cond x ((192 + c / 64) ∷ next c ∷ []) (cond y ((224 + c / 4096) ∷ next (c / 64) ∷ next c ∷ []) ((240 + c / 262144) ∷ next (c / 4096) ∷ next (c / 64) ∷ next c ∷ [])) in
    IsContent bytes bytes
wide_cases c true y = high_byte _ _ (omega arith) (high_byte _ _ (omega arith) content_none)
wide_cases c false true = high_byte _ _ (omega arith) (high_byte _ _ (omega arith) (high_byte _ _ (omega arith) content_none))
wide_cases c false false = high_byte _ _ (omega arith) (high_byte _ _ (omega arith) (high_byte _ _ (omega arith) (high_byte _ _ (omega arith) content_none)))

wide_char : (c : ℕ) → 128 ≤ c → IsContent (encode_utf8 c) (encode_utf8 c)
unfolding encode
wide_char c h = rw (le-ltb c 128 h) (wide_cases c (ltb c 2048) (ltb c 65536))

low_char : (c : ℕ) → c ≢ 34 → c ≢ 92 → c < 128 → IsContent (encode_utf8 c) (encode_utf8 c)
low_char c q b h = rw (encoded_low c h) (content_byte c q b)

pub plain_char : (c : ℕ) → c ≢ 34 → c ≢ 92 → IsContent (encode_utf8 c) (encode_utf8 c)
plain_char c q b = ⊎_elim (λ k. low_char c q b k) (λ k. wide_char c k) (cases_lt c 128)

-- The text between the quotes so far, of which this is left.
abbrev pub IsSoFar : (all rest text : List ℕ) → Type 0
IsSoFar all rest text = (between : List ℕ) × IsContent between text × (all ≡ between ++ rest)

pub so_far_none : (all : List ℕ) → IsSoFar all all []
so_far_none all = ([], content_none, refl)

-- One part more.

so_far_more : (all rest after text more written meant : List ℕ) → IsSoFar all rest text → rest ≡ written ++ after → IsContent written meant → more ≡ text ++ meant → IsSoFar all after more
so_far_more all rest after text more written meant h r k m = (
  h.0 ++ written,
  subst (λ (xs : List ℕ). IsContent (h.0 ++ written) xs) (sym m) (content_append h.0 text written meant h.1 k),
  h.2 ∙ ap (λ (xs : List ℕ). h.0 ++ xs) r ∙ sym (append_assoc h.0 written after),
)

pub so_far_front :
    (all rest behind after text more : List ℕ) (c d : ℕ) → IsSoFar all rest text → rest ≡ encode_utf8 c ++ behind → c ≢ 34 → (c ≢ 34 → IsContentFront (encode_utf8 c ++ behind) d after) →
    more ≡ text ++ encode_utf8 d → IsSoFar all after more
so_far_front all rest behind after text more c d h r q f m = let k = f q in so_far_more all rest after text more k.0 (encode_utf8 d) h (r ∙ k.2) k.1 m

pub so_far_closing : (all rest after text : List ℕ) (c : ℕ) → IsSoFar all rest text → rest ≡ encode_utf8 c ++ after → c ≡ 34 → IsTextFront all text after
so_far_closing all rest after text c h r q =
    (h.0, h.1, h.2 ∙ ap (λ (xs : List ℕ). h.0 ++ xs) (r ∙ ap (λ (xs : List ℕ). xs ++ after) (ap encode_utf8 q ∙ encoded_low 34 (lit< tt))))

-- Parts after a backslash.

pub letter_part : (letter byte : ℕ) → byte < 128 → letter_meaning letter ≡ Some byte → IsPart (92 ∷ letter ∷ []) (encode_utf8 byte)
letter_part letter byte h e = inr (inl (letter, byte, e, refl, encoded_low byte h))

pub code_part : (digits : List ℕ) (code : ℕ) → IsCode digits code → IsScalar code → IsPart (92 ∷ 117 ∷ digits) (encode_utf8 code)
code_part digits code h s = inr (inr (inl (digits, code, h, s, refl, refl)))

pub pair_part :
    (first : List ℕ) (high : ℕ) (second : List ℕ) (low : ℕ) → IsCode first high → IsHigh high → IsCode second low → IsLow low →
    IsPart ((92 ∷ 117 ∷ first) ++ (92 ∷ 117 ∷ second)) (encode_utf8 (paired high low))
pair_part first high second low a b c d = inr (inr (inr (first, high, second, low, a, b, c, d, refl, refl)))

-- A letter after a backslash that means this character.
pub letter_front : (rest after : List ℕ) (letter c : ℕ) → rest ≡ encode_utf8 letter ++ after → IsMeaning letter c → IsPartFront (92 ∷ rest) c after
letter_front rest after letter c e m =
    (92 ∷ letter ∷ [], letter_part letter c m.1 m.2, ap (λ (xs : List ℕ). 92 ∷ xs) (e ∙ ap (λ (xs : List ℕ). xs ++ after) (encoded_low letter m.0)))

-- And `u`, after which a code stands.
pub u_front : (rest after behind : List ℕ) (letter c : ℕ) → rest ≡ encode_utf8 letter ++ after → letter ≡ 117 → IsPartFront (92 ∷ 117 ∷ after) c behind → IsPartFront (92 ∷ rest) c behind
u_front rest after behind letter c e k h =
    let same : 92 ∷ rest ≡ 92 ∷ 117 ∷ after = ap (λ (xs : List ℕ). 92 ∷ xs) (e ∙ ap (λ (xs : List ℕ). xs ++ after) (ap encode_utf8 k ∙ encoded_low 117 (lit< tt))) in
    (h.0, h.1, same ∙ h.2)

pub ruleset parts = (letter_front)

-- What holds of a result where something else does.
if_ok : {A E : Type 0} (P Q : A → Type 0) (r : Result A E) → ((x : A) → P x → Q x) → IfOk r P → IfOk r Q
if_ok P Q (Ok x) f h = f x h
if_ok P Q (Err e) f h = tt

pub u_result :
    (rest after : List ℕ) (letter : ℕ) (r : Result (ℕ × Bor (List ℕ)) Misfit) → rest ≡ encode_utf8 letter ++ after → letter ≡ 117 →
    IfOk r (λ (x : ℕ × Bor (List ℕ)). IsPartFront (92 ∷ 117 ∷ after) x.0 x.1.now) → IfOk r (λ (x : ℕ × Bor (List ℕ)). IsPartFront (92 ∷ rest) x.0 x.1.now)
u_result rest after letter r e k h =
    if_ok (λ (x : ℕ × Bor (List ℕ)). IsPartFront (92 ∷ 117 ∷ after) x.0 x.1.now) (λ (x : ℕ × Bor (List ℕ)). IsPartFront (92 ∷ rest) x.0 x.1.now) r
    (λ x p. u_front rest after x.1.now letter x.0 e k p) h

-- A character that stands for itself, and a backslash, after which a part stands.

pub itself_front : (c : ℕ) (rest : List ℕ) → c ≢ 92 → c ≢ 34 → IsContentFront (encode_utf8 c ++ rest) c rest
itself_front c rest b q = (encode_utf8 c, plain_char c q b, refl)

escape_front : (rest after : List ℕ) (c d : ℕ) → c ≡ 92 → IsPartFront (92 ∷ rest) d after → IsContentFront (encode_utf8 c ++ rest) d after
escape_front rest after c d e p =
    (p.0, content_part p.0 (encode_utf8 d) p.1, ap (λ (xs : List ℕ). xs ++ rest) (ap encode_utf8 e ∙ encoded_low 92 (lit< tt)) ∙ p.2)

pub escape_result :
    (rest : List ℕ) (c : ℕ) (r : Result (ℕ × Bor (List ℕ)) Misfit) → c ≡ 92 → IfOk r (λ (x : ℕ × Bor (List ℕ)). IsPartFront (92 ∷ rest) x.0 x.1.now) →
    IfOk r (λ (x : ℕ × Bor (List ℕ)). c ≢ 34 → IsContentFront (encode_utf8 c ++ rest) x.0 x.1.now)
escape_result rest c r e h =
    if_ok (λ (x : ℕ × Bor (List ℕ)). IsPartFront (92 ∷ rest) x.0 x.1.now) (λ (x : ℕ × Bor (List ℕ)). c ≢ 34 → IsContentFront (encode_utf8 c ++ rest) x.0 x.1.now) r
    (λ x p q. escape_front rest x.1.now c x.0 e p) h

pub ruleset fronts = (itself_front, escape_result)

pub code_front : (text after : List ℕ) (code : ℕ) → IsCodeFront text code after → IsScalar code → IsPartFront (92 ∷ 117 ∷ text) code after
code_front text after code h s = (92 ∷ 117 ∷ h.0, code_part h.0 code h.1 s, ap (λ (xs : List ℕ). 92 ∷ 117 ∷ xs) h.2)

pub pair_front :
    (text between behind after : List ℕ) (high low c : ℕ) → IsCodeFront text high between → StripsPrefix (FindsTextPrefix (92 ∷ 117 ∷ [])) between behind → IsCodeFront behind low after → IsHigh high → IsLow low →
    c ≡ paired high low → IsPartFront (92 ∷ 117 ∷ text) c after
pair_front text between behind after high low c h p k hi lo e = (
  (92 ∷ 117 ∷ h.0) ++ (92 ∷ 117 ∷ k.0),
  subst (λ (d : ℕ). IsPart ((92 ∷ 117 ∷ h.0) ++ (92 ∷ 117 ∷ k.0)) (encode_utf8 d)) (sym e) (pair_part h.0 high k.0 low h.1 hi k.1 lo),
  ap (λ (xs : List ℕ). 92 ∷ 117 ∷ xs) (h.2 ∙ ap (λ (xs : List ℕ). h.0 ++ xs) (behind_text (92 ∷ 117 ∷ []) between behind p ∙ ap (λ (xs : List ℕ). 92 ∷ 117 ∷ xs) k.2)
      ∙ sym (append_assoc h.0 (92 ∷ 117 ∷ k.0) after)),
)

pub ruleset codes = (code_front, pair_front)

-- Four digits that are read in base sixteen.
pub hex_front : (text digits after : List ℕ) (code : ℕ) → digits ≡ take 4 text → after ≡ drop 4 text → length digits ≡ 4 → slice_index digits 0 ≢ 43 → IsNumeral 16 (without_leading_plus digits) →
    code ≡ digits_value 16 (without_leading_plus digits) → IsCodeFront text code after
hex_front text digits after code f b l s h e =
    let same : without_leading_plus digits ≡ digits = ap (λ (c : Bool). drop (cond c 1 0) digits) (ne_eqb (slice_index digits 0) 43 s) in (
      digits,
      (l, subst (λ (ds : List ℕ). IsNumeral 16 ds) same h, e ∙ ap (λ (ds : List ℕ). digits_value 16 ds) same),
      sym (take-append-drop 4 text) ∙ ap (λ (xs : List ℕ). xs ++ drop 4 text) (sym f) ∙ ap (λ (xs : List ℕ). digits ++ xs) (sym b),
    )

pub ruleset hexes = (hex_front)

-- A text without escapes.
pub plain_front : (quoted plain behind content : List ℕ) → SplitsAroundMatch (FindsChar 34) quoted plain behind → NoCharPasses (λ d. d == 92) plain → content ≡ plain → IsTextFront quoted content behind
plain_front quoted plain behind content p b e =
    let h = plain_text plain (subst (NoCharPasses (λ d. d == 34)) (sym p.3) p.2.0) b in
    (plain, subst (λ (xs : List ℕ). IsContent plain xs) (sym e) h, around 34 quoted plain behind (lit< tt) p)

pub ruleset texts = (plain_front, so_far_none, so_far_front, so_far_closing)
