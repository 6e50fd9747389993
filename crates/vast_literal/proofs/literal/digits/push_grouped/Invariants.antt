use Rattle.std.proofs.Common.{◌≡◌, ◌^◌, ◌++◌, string_bytes}
use Rattle.vast_literal.specs.Digits.{grouped, lowest_digits}
use Rattle.vast_literal.proofs.literal.digits.push_grouped.Given as goal

-- the text so far, with the digits that are left, is the old text with all digits
abbrev pub invariant-loop-place : goal.invariant-loop-place
invariant-loop-place l = string_bytes l.text ++ grouped (lowest_digits (2 ^ l.digit_bits) l.place l.value) ≡ string_bytes l.initial.text ++ grouped (lowest_digits (2 ^ l.digit_bits) l.count l.value)
