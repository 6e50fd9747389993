-- Texts that are compared one by one.
use Rattle.std.proofs.Common.{◌≡◌, ◌≢◌, ℕ, ◌<◌, Bool, true, false, ◌&&◌, bytes_eq, List, [], ◌∷◌, ◌++◌, length, take, refl, sym, ap, ◌∙◌, arith, Bor}
use Rattle.std.specs.Bool.{Decides}
use Rattle.std.specs.Cmp.Lexicographic.{pointwise}
use Rattle.std.proofs.lemmas.List.{take_at, length-append, length-map, map-append}
use Rattle.std.proofs.lemmas.Slice.Eq.{bytes_eq-Decides, slice_eq-Decides}
use Rattle.vast_read.specs.Internal.Comparison.{Tells}
use Rattle.vast_read.specs.Internal.Transcripts.{spelled}

-- as the slices of the code compare them
by_texts : (xs ys : List (Bor (List ℕ))) → pointwise (λ (x y : Bor (List ℕ)). bytes_eq x.now y.now) xs ys ≡ pointwise bytes_eq (spelled xs) (spelled ys)
by_texts [] [] = refl
by_texts [] (y ∷ ys) = refl
by_texts (x ∷ xs) [] = refl
by_texts (x ∷ xs) (y ∷ ys) = ap (λ b. bytes_eq x.now y.now && b) (by_texts xs ys)

told : {A : Type 0} (b : Bool) (x y : A) → Decides b (x ≡ y) → Tells b x y
told true x y d = d.0 refl
told false x y d = λ e. let h : false ≡ true = d.1 e in absurd (cc h)

pub texts_told : (xs ys : List (Bor (List ℕ))) (b : Bool) → b ≡ pointwise (λ (x y : Bor (List ℕ)). bytes_eq x.now y.now) xs ys → Tells b (spelled xs) (spelled ys)
texts_told xs ys b e = told b (spelled xs) (spelled ys) (slice_eq-Decides bytes_eq-Decides (spelled xs) (spelled ys) b (e ∙ by_texts xs ys))

-- a front that is longer, or another

pub too_short : (xs ys : List (Bor (List ℕ))) (ws : List (List ℕ)) → length xs < length ys → spelled xs ≢ spelled ys ++ ws
too_short xs ys ws h e = let n : length (spelled xs) ≡ length (spelled ys ++ ws) = ap length e in
    absurd (omega (arith, n, length-append (spelled ys) ws, length-map xs (λ (w : Bor (List ℕ)). w.now), length-map ys (λ (w : Bor (List ℕ)). w.now)))

pub other_front : (all start rest front : List (Bor (List ℕ))) (ws : List (List ℕ)) → all ≡ start ++ rest → length start ≡ length front → spelled start ≢ spelled front → spelled all ≢ spelled front ++ ws
other_front all start rest front ws e n d h =
    let f = λ (w : Bor (List ℕ)). w.now in
    let m : length (spelled start) ≡ length (spelled front) = length-map start f ∙ (n ∙ sym (length-map front f)) in
    let both : spelled start ++ spelled rest ≡ spelled front ++ ws = sym (map-append f start rest) ∙ (sym (ap spelled e) ∙ h) in
    d (sym (take_at (spelled start) (spelled rest) _ refl) ∙ (ap (take (length (spelled start))) both ∙ take_at (spelled front) ws _ (sym m)))

pub same_front : (all start rest front : List (Bor (List ℕ))) → all ≡ start ++ rest → spelled start ≡ spelled front → spelled all ≡ spelled front ++ spelled rest
same_front all start rest front e h = ap spelled e ∙ (map-append (λ (w : Bor (List ℕ)). w.now) start rest ∙ ap (λ v. v ++ spelled rest) h)
