-- What reads and writes do to known bytes.
use Rattle.std.proofs.Common.{◌≡◌, ℕ, List, ◌++◌, Option, length, take, drop, ap, ◌∙◌, append_assoc, length-drop, take_all, ◌-◌, take-append-drop, arith}
use Rattle.std.specs.Io.KnownBytes.{Appends}
use Rattle.std.proofs.KnownBytes.{Appends-trans}

pub write_more : (old mid new : Option (List ℕ)) (part rest line : List ℕ) (n : ℕ) → part ++ rest ≡ line → Appends old mid part → Appends mid new (take n rest)
    → ((part ++ take n rest) ++ drop n rest ≡ line) × Appends old new (part ++ take n rest)
write_more old mid new part rest line n e a b = (append_assoc part (take n rest) (drop n rest) ∙ ap (λ r. part ++ r) (take-append-drop n rest) ∙ e, Appends-trans old mid new part (take n rest) a b)

pub all_left : (n : ℕ) (rest : List ℕ) → take (length rest - n) (drop n rest) ≡ drop n rest
all_left n rest = let e = length-drop n rest in take_all (length rest - n) (drop n rest) (omega (arith, e))
