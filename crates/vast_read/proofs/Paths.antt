-- The path between the quotes of a string.
use Rattle.std.proofs.Common.{◌≡◌, ◌≢◌, ℕ, List, [], ◌∷◌, ◌++◌, Option, Some, None, ap, ◌∙◌}
use Rattle.std.specs.Prelude.{MatchOption}

pub unquoted : {T : Type 0} (bytes : T → List ℕ) (text rest : List ℕ) (o : Option T) → text ≡ (34 ∷ rest) → MatchOption o ((p : List ℕ) → rest ≢ (p ++ (34 ∷ []))) (λ p. rest ≡ (bytes p ++ (34 ∷ []))) →
    MatchOption o ((p : List ℕ) → text ≢ (34 ∷ (p ++ (34 ∷ [])))) (λ p. text ≡ (34 ∷ (bytes p ++ (34 ∷ []))))
unquoted bytes text rest None e n = λ p h. n p (cc (e, h))
unquoted bytes text rest (Some p) e h = e ∙ ap (λ (v : List ℕ). 34 ∷ v) h
