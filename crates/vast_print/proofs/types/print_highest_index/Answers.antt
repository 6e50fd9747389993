use Rattle.std.proofs.Common.{◌≡◌, negsuc, pos, rules, refl, codes}
use Rattle.std.specs.Prelude.{◌-ℤ◌}
use Rattle.std.specs.Fmt.{digits, signed_decimal}
use Rattle.vast_print.proofs.types.print_highest_index.Goals as goal

-- below the smallest number of 64 bits
below_smallest : signed_decimal (negsuc 9223372036854775807 -ℤ pos 1) ≡ codes "-9223372036854775809"
unfolding digits
below_smallest = refl

pub returns-in_ok-word : goal.returns-in_ok-word
returns-in_ok-word c =
    let low : c.args.value ≡ negsuc 9223372036854775807 = search rules in
    rw (low, below_smallest) (c.in_ok-word.ensures.text, c.in_ok-word.ensures.margin)
