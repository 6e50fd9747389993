-- What `parse` reads of ASCII digits is their weighted sum.
use Rattle.std.proofs.Common.{◌≡◌, ℕ, ◌-◌, ◌*◌, ◌+◌, ◌^◌, ◌<◌, List, true, Option, Result, Ok, Err, SomeIff, length, rules, arith, refl, ap}
use Rattle.std.specs.List.{list_all}
use Rattle.std.specs.Char.{is_ascii_digit, digit_value}
use Rattle.std.specs.Result.{OkIff, result_ok}
use Rattle.std.specs.Str.Parse.{ParsesUnsigned}
use Rattle.std.proofs.lemmas.Str.Parse.{IsNumeralModel, WeighsDigits, numerals_by_weight, parse_digits}
use Rattle.std.proofs.lemmas.Bool.{ltb-true, and_parts}
use Rattle.std.proofs.lemmas.Bool.Decides.{nat_tests}
use Rattle.std.specs.Int.{IsInRange}
use Rattle.vast_literal.specs.Digits.{weighted}
use Rattle.vast_literal.specs.Literal.{is_decimal}

digit_value-ascii : (c : ℕ) → IsInRange 48 57 c → digit_value c ≡ c - 48
digit_value-ascii c h = grind (arith, nat_tests)

weighs : WeighsDigits (weighted 10)
weighs = record { empty = refl; more = λ c cs h. ap (λ d. d * 10 ^ length cs + weighted 10 cs) (digit_value-ascii c h) }

numerals : IsNumeralModel (λ ds. list_all is_ascii_digit ds ≡ true) (weighted 10)
numerals = numerals_by_weight _ (search rules) (weighted 10) weighs

some_from_ok : {E : Type 0} (r : Result ℕ E) (s : Option ℕ) (l v bound : ℕ) → OkIff r ((0 < l) × (v < bound)) v → 0 < l → s ≡ result_ok r → SomeIff s (v < bound) v
some_from_ok (Ok x) s l v bound h p e = rw e (h.0.1, h.1)
some_from_ok (Err x) s l v bound h p e = rw e (λ k. h (p, k))

pub read_width : {E : Type 0} (text : List ℕ) (r : Result ℕ E) (s : Option ℕ) → ParsesUnsigned 64 10 text r → is_decimal text ≡ true → s ≡ result_ok r → SomeIff s (weighted 10 text < 2 ^ 64) (weighted 10 text)
unfolding is_decimal
read_width text r s h d e =
    let digits = (and_parts _ _ d).0 in
    let some = ltb-true 0 (length text) (and_parts _ _ d).1 in
    some_from_ok r s (length text) (weighted 10 text) (2 ^ 64) (parse_digits numerals 64 text r h digits) some e
