-- Languages of the same tokens go on alike.
use Rattle.std.proofs.Common.{ℕ, List, ◌∷◌, ◌++◌, Bool}
use Rattle.vast_literal.specs.Tokens.{Token}
use Rattle.vast_rows.specs.Fronts.{LongestFront}

pub alike : (L M : List Token → Type 0) → ((ts : List Token) → L ts → M ts) → ((ts : List Token) → M ts → L ts) → (ts left : List Token) (kinds : ℕ) (ends : Bool) → LongestFront L ts left kinds ends → LongestFront M ts left kinds ends
alike L M to from ts left kinds ends l = record {
  front = l.front;
  split = l.split;
  begun = let b = l.begun in (b.0, to (l.front ++ b.0) b.1);
  goes_on = λ k. let b = l.goes_on k in (λ h. let g = b.0 h in (g.0, g.1, g.2, to (l.front ++ (g.0 ∷ g.1)) g.3), λ g. b.1 (g.0, g.1, g.2, from (l.front ++ (g.0 ∷ g.1)) g.3));
  ended = let b = l.ended in (λ h. to l.front (b.0 h), λ s. b.1 (from l.front s));
  stops = λ t us rest e s. l.stops t us rest e (from (l.front ++ (t ∷ rest)) s);
}
