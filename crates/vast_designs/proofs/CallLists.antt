-- Lists of calls, one call after another.
use Rattle.std.proofs.Common.{◌≡◌, ℕ, List, ◌∷◌, ap, ◌∙◌}
use Rattle.vast_script.specs.Outcome.{Call}

-- The same call, and the same call with the same text.
pub alike : (call : Call) (xs ys : List Call) → xs ≡ ys → call ∷ xs ≡ call ∷ ys
alike call xs ys e = ap (λ (zs : List Call). call ∷ zs) e

pub texted : (call : List ℕ → Call) (s t : List ℕ) (xs ys : List Call) → s ≡ t → xs ≡ ys → call s ∷ xs ≡ call t ∷ ys
texted call s t xs ys same e = ap (λ (u : List ℕ). call u ∷ xs) same ∙ ap (λ (zs : List Call). call t ∷ zs) e

-- The same of a call with a text and a list of numbers.
pub texted-listed :
    (call : List ℕ → List ℕ → Call) (s t ns ms : List ℕ) (xs ys : List Call) → s ≡ t → ns ≡ ms → xs ≡ ys →
    call s ns ∷ xs ≡ call t ms ∷ ys
texted-listed call s t ns ms xs ys same e rest =
    ap (λ (u : List ℕ). call u ns ∷ xs) same ∙ (ap (λ (us : List ℕ). call t us ∷ xs) e ∙ ap (λ (zs : List Call). call t ms ∷ zs) rest)
