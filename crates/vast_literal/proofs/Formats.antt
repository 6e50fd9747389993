-- Each format's text is the one that the format wants.
use Rattle.std.proofs.Common.{◌≡◌, ℕ, ◌+◌, ◌-◌, ◌*◌, ◌%◌, ◌^◌, ◌<◌, ◌≤◌, List, [], ◌∷◌, ◌++◌, Bool, true, false, cond, not, eqb, eqb-true, ltb, refl, sym, ap, ◌∙◌, arith, lit≤, lit<}
use Rattle.std.proofs.lemmas.Bool.{and_parts}
use Rattle.std.specs.Prelude.{◌&&◌, if◌then◌else◌}
use Rattle.std.specs.Int.{div_ceil}
use Rattle.std.specs.Fmt.{decimal}
use Rattle.std.proofs.Math.Nat.{mod-eq_of_lt, mod_self}
use Rattle.std.proofs.Math.Pow.{pow_mono}
use Rattle.vast_literal.specs.declared.literal.LiteralFormat.{LiteralFormat}
use Rattle.vast_literal.specs.declared.literal.LiteralFormat.TheVariants.{Binary, Hex, SignedDecimal, UnsignedDecimal, UnsizedBinary, UnsizedDecimal, UnsizedHex}
use Rattle.vast_literal.specs.Digits.{lowest_digits, digit_count, characters, grouped}
use Rattle.vast_literal.specs.LiteralText.{padded_count, is_below_half, sized, signed_text, format_text}
use Rattle.vast_literal.specs.Denotes.{IsModulo}
use Rattle.vast_literal.specs.Spells.{IsWritten, IsSeparated, Spells}
use Rattle.vast_literal.proofs.Numbers.{pow-pow}
use Rattle.vast_literal.proofs.Widths.{positive_from_high, narrow_from_high}
use Rattle.vast_literal.proofs.Spelt.{written-grouped, written-characters, is_grouped, no_gaps}
use Rattle.vast_literal.proofs.Decimals.{written-decimal, decimal_no_gaps, digit_count-fits, digit_count-some}
use Rattle.std.proofs.lemmas.Nat.{pow_pos}

modulo_plain : (n v : ℕ) → v < 2 ^ n → IsModulo n false v v
modulo_plain n v h = record { below = h; same = sym (mod-eq_of_lt h) }

modulo_minus : (n v : ℕ) → v < 2 ^ n → IsModulo n true (2 ^ n - v) v
modulo_minus n v h = record { below = h; same = ap (λ k. k % 2 ^ n) (let e : v + (2 ^ n - v) ≡ 2 ^ n = omega arith in e) ∙ mod_self (2 ^ n) }

-- a number fits in its padded digits
pub padded_some : (b : Bool) (count : ℕ) → 0 < count → 0 < cond b 1 count
padded_some true count p = lit< tt
padded_some false count p = p

padded_fits : (k n v : ℕ) (b : Bool) → n ≤ k * div_ceil n k → (b ≡ true → v ≡ 0) → v < 2 ^ n → v < (2 ^ k) ^ cond b 1 (div_ceil n k)
padded_fits k n v true l z h = rw (z refl, pow-pow k 1) (pow_pos (k * 1))
padded_fits k n v false l z h = rw (pow-pow k (div_ceil n k)) (let m = pow_mono {i = n} {j = k * div_ceil n k} l in omega arith)

is_zero : (n v : ℕ) → (eqb v 0 && ltb 1024 n) ≡ true → v ≡ 0
is_zero n v h = eqb-true v 0 (and_parts (eqb v 0) (ltb 1024 n) h).0

-- the two signs of a signed decimal
signed_cases : (n v : ℕ) (b : Bool) → is_below_half n v ≡ b → v < 2 ^ n → v < 2 ^ 128 →
    (number : ℕ) × (digits : List ℕ) × ((if b then sized n (39 ∷ 115 ∷ 100 ∷ []) (decimal v) else 45 ∷ sized n (39 ∷ 115 ∷ 100 ∷ []) (decimal (2 ^ n - v))) ≡ (if not b then 45 ∷ [] else []) ++ (decimal n ++ (39 ∷ 115 ∷ 100 ∷ []) ++ digits))
    × (number < 2 ^ n) × IsModulo n (not b) number v × IsWritten 10 (digit_count 10 number) number digits × IsSeparated false digits
signed_cases n v true e h s = (v, decimal v, refl, h, modulo_plain n v h, written-decimal v s, decimal_no_gaps v s)
signed_cases n v false e h s =
    let some = positive_from_high v n e in
    let narrow = narrow_from_high v n s e in
    let top = pow_mono {i = n} {j = 128} narrow in
    let small : 2 ^ n - v < 2 ^ 128 = omega arith in
    (2 ^ n - v, decimal (2 ^ n - v), refl, omega arith, modulo_minus n v h, written-decimal (2 ^ n - v) small, decimal_no_gaps (2 ^ n - v) small)

pub spells : (format : LiteralFormat) (n v : ℕ) → 1 ≤ n → v < 2 ^ n → v < 2 ^ 128 → Spells format n v (format_text format n v)
unfolding format_text signed_text
spells Binary n v p h s = record {
  number = v;
  digits = grouped (lowest_digits 2 (padded_count 1 n v) v);
  parts = refl;
  fits = h;
  value = modulo_plain n v h;
  written = written-grouped 1 (padded_count 1 n v) v (lit≤ tt) (lit≤ tt) (padded_some (eqb v 0 && ltb 1024 n) (div_ceil n 1) (omega arith)) (padded_fits 1 n v (eqb v 0 && ltb 1024 n) (omega arith) (is_zero n v) h);
  separated = is_grouped 1 (padded_count 1 n v) v (lit≤ tt) (padded_some (eqb v 0 && ltb 1024 n) (div_ceil n 1) (omega arith));
}
spells Hex n v p h s = record {
  number = v;
  digits = grouped (lowest_digits 16 (padded_count 4 n v) v);
  parts = refl;
  fits = h;
  value = modulo_plain n v h;
  written = written-grouped 4 (padded_count 4 n v) v (lit≤ tt) (lit≤ tt) (padded_some (eqb v 0 && ltb 1024 n) (div_ceil n 4) (omega arith)) (padded_fits 4 n v (eqb v 0 && ltb 1024 n) (omega arith) (is_zero n v) h);
  separated = is_grouped 4 (padded_count 4 n v) v (lit≤ tt) (padded_some (eqb v 0 && ltb 1024 n) (div_ceil n 4) (omega arith));
}
spells SignedDecimal n v p h s =
    let t = signed_cases n v (is_below_half n v) refl h s in
    record { number = t.0; digits = t.1; parts = t.2; fits = t.3; value = t.4; written = t.5; separated = t.6 }
spells UnsignedDecimal n v p h s = record {
  number = v;
  digits = decimal v;
  parts = refl;
  fits = h;
  value = modulo_plain n v h;
  written = written-decimal v s;
  separated = decimal_no_gaps v s;
}
spells UnsizedBinary n v p h s = record {
  number = v;
  digits = characters (lowest_digits 2 (digit_count 2 v) v);
  parts = refl;
  fits = h;
  value = modulo_plain n v h;
  written = written-characters 1 (digit_count 2 v) v (lit≤ tt) (lit≤ tt) (digit_count-some 2 v) (digit_count-fits 2 v (lit≤ tt));
  separated = no_gaps 1 (digit_count 2 v) v (lit≤ tt);
}
spells UnsizedDecimal n v p h s = record {
  number = v;
  digits = decimal v;
  parts = refl;
  fits = h;
  value = modulo_plain n v h;
  written = written-decimal v s;
  separated = decimal_no_gaps v s;
}
spells UnsizedHex n v p h s = record {
  number = v;
  digits = grouped (lowest_digits 16 (digit_count 16 v) v);
  parts = refl;
  fits = h;
  value = modulo_plain n v h;
  written = written-grouped 4 (digit_count 16 v) v (lit≤ tt) (lit≤ tt) (digit_count-some 16 v) (digit_count-fits 16 v (lit≤ tt));
  separated = is_grouped 4 (digit_count 16 v) v (lit≤ tt) (digit_count-some 16 v);
}
