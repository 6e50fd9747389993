-- The tokens that are left of a text, and as many as stand before them.
use Rattle.std.proofs.Common.{◌≡◌, ℕ, ◌+◌, ◌-◌, ◌<◌, ◌⊎◌, List, [], ◌∷◌, ◌++◌, Bool, true, length, inl, inr, refl, sym, ap, ◌∙◌, arith, append_assoc, length-append}
use Rattle.vast_literal.proofs.ScanLaws.{and_right}
use Rattle.vast_literal.specs.Scan.{Gap}
use Rattle.vast_literal.specs.Tokens.{Token}
use Rattle.vast_read.proofs.Spellable.{is_used, are_used, file_used}
use Rattle.vast_read.specs.Lexed.{unspelled, lex}
use Rattle.vast_rows.specs.Fronts.{LongestFront, SpellsFile}
use Rattle.vast_rows.specs.Internal.Sources.{tail}

same_behind : (a b c d : List Token) → a ++ b ≡ c ++ d → length a ≡ length c → b ≡ d
same_behind [] b [] d e n = e
same_behind [] b (y ∷ c) d e n = absurd (omega (arith, n))
same_behind (x ∷ a) b [] d e n = absurd (omega (arith, n))
same_behind (x ∷ a) b (y ∷ c) d e n = same_behind a b c d (cc e) (omega (arith, n))

one_fewer : (ts : List Token) → length (tail ts) ≡ length ts - 1
one_fewer [] = refl
one_fewer (t ∷ ts) = omega arith

-- Some tokens of a text stand before its rest, and with those ahead they are so many.
pub record Passed (text rest : List ℕ) (ahead : List Token) (many : ℕ) : Type 0 where
  pub front : List Token
  pub split : lex Gap text ≡ front ++ lex Gap rest
  pub count : many ≡ length front + length ahead

pub one_more : (text rest behind : List ℕ) (ahead after : List Token) (many : ℕ) → length after < length ahead → after ≡ tail ahead → Passed text rest ahead many →
    (t : Token) × (lex Gap rest ≡ t ∷ lex Gap behind) → Passed text behind after many
one_more text rest behind ahead after many less f i x =
    let m : length after ≡ length ahead - 1 = ap length f ∙ one_fewer ahead in
    let l : length (i.front ++ (x.0 ∷ [])) ≡ length i.front + 1 = length-append i.front (x.0 ∷ []) in
    let whole = i.count in record {
      front = i.front ++ (x.0 ∷ []);
      split = i.split ∙ (ap (λ (v : List Token). i.front ++ v) x.1 ∙ sym (append_assoc i.front (x.0 ∷ []) (lex Gap behind)));
      count = omega (arith, less, m, l, whole);
    }

module _ (text rest : List ℕ) (ahead left : List Token) (kinds : ℕ) (ends : Bool) (f : LongestFront SpellsFile (lex Gap text) left kinds ends) (i : Passed text rest ahead (length (lex Gap text) - length left)) where
  count : length (lex Gap text) ≡ length f.front + length left
  count = ap length f.split ∙ length-append f.front left

  -- All do.
  pub all_before : length ahead ≡ 0 → lex Gap rest ≡ left
  all_before n = let whole = i.count in same_behind i.front (lex Gap rest) f.front left (sym i.split ∙ f.split) (omega (arith, n, count, whole))

  -- Each of these fits.
  pub never_over : 0 < length ahead → (unspelled ∷ [] ≡ lex Gap rest) ⊎ ([] ≡ lex Gap rest) → ⊥
  never_over n (inl x) = no_fault i.front f.front (ap (λ (v : List Token). i.front ++ v) x ∙ (sym i.split ∙ f.split)) (let whole = i.count in omega (arith, n, count, whole)) (file_used (f.front ++ f.begun.0) f.begun.1.0 f.begun.1.1)
    where
      no_fault : (before told : List Token) → before ++ (unspelled ∷ []) ≡ told ++ left → length before < length told → are_used (told ++ f.begun.0) ≡ true → ⊥
      no_fault before [] e less h = absurd (let z : ⊥ = omega (arith, less) in z)
      no_fault [] (t ∷ told) e less h = let is : unspelled ≡ t = cc e in absurd (cc (rw (sym is) at h))
      no_fault (x ∷ before) (t ∷ told) e less h = no_fault before told (cc e) (omega (arith, less)) (and_right (is_used t) (are_used (told ++ f.begun.0)) h)
  never_over n (inr x) =
      let l : length (lex Gap text) ≡ length i.front + length (lex Gap rest) = ap length i.split ∙ length-append i.front (lex Gap rest) in
      let z : length (lex Gap rest) ≡ 0 = ap length (sym x) in
      let whole = i.count in
      absurd (let y : ⊥ = omega (arith, n, count, l, z, whole) in y)
