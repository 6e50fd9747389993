-- What a reader gave.
use Rattle.std.proofs.Common.{◌≡◌, ℕ, ◌≤◌, ◌+◌, ◌^◌, List, ◌++◌, Option, Result, Ok, Err, OnErr, length, take, length-append, arith}
use Rattle.std.specs.Io.KnownBytes.{Consumes}
use Rattle.std.proofs.KnownBytes.{Consumes-trans}
use Rattle.vast_shell.specs.Input.{GivesSome}

-- Whatever the result is, the reader gave this and that.
pub given_more :
    {A E : Type 0} (r : Result A E) (before mid after : Option (List ℕ)) (bytes buffer : List ℕ) (n room : ℕ) → Consumes before mid bytes → Consumes mid after (take n buffer) →
    n ≡ length (take n buffer) → n ≤ room → length bytes + room ≤ 2 ^ 24 + 1 → OnErr r (GivesSome before after)
given_more (Ok x) before mid after bytes buffer n room a b p l m = tt
given_more (Err e) before mid after bytes buffer n room a b p l m =
    (bytes ++ take n buffer, Consumes-trans before mid after bytes (take n buffer) a b, omega (arith, length-append bytes (take n buffer), p, l, m))
