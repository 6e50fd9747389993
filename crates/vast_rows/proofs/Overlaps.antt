-- How two fronts of the same tokens lie.
use Rattle.std.proofs.Common.{◌≡◌, List, [], ◌∷◌, ◌++◌, refl, sym}
use Rattle.vast_literal.specs.Tokens.{Token}

-- The first front is shorter than the second, the same, or longer.
pub data Overlap (a b c d : List Token) : Type 0 where
  shorter : (y : Token) (ys : List Token) → c ≡ a ++ (y ∷ ys) → b ≡ y ∷ (ys ++ d) → Overlap a b c d
  even : a ≡ c → b ≡ d → Overlap a b c d
  longer : (y : Token) (ys : List Token) → a ≡ c ++ (y ∷ ys) → d ≡ y ∷ (ys ++ b) → Overlap a b c d

deeper : {a b c d : List Token} (x y : Token) → x ≡ y → Overlap a b c d → Overlap (x ∷ a) b (y ∷ c) d
deeper x y e (shorter z zs f g) = shorter z zs (rw (e, f) refl) g
deeper x y e (even f g) = even (rw (e, f) refl) g
deeper x y e (longer z zs f g) = longer z zs (rw (e, f) refl) g

pub overlap : (a b c d : List Token) → a ++ b ≡ c ++ d → Overlap a b c d
overlap [] b [] d e = even refl e
overlap [] b (y ∷ c) d e = shorter y c refl e
overlap (x ∷ a) b [] d e = longer x a refl (sym e)
overlap (x ∷ a) b (y ∷ c) d e = let h : x ≡ y = cc e in let t : a ++ b ≡ c ++ d = cc e in deeper x y h (overlap a b c d t)
