-- Laws of texts that are cut from a buffer.
use Rattle.std.proofs.Common.{◌≡◌, ℕ, zero, suc, ◌+◌, ◌-◌, ◌<◌, ◌≤◌, List, [], ◌∷◌, ◌++◌, length, drop, get_or, refl, sym, ap, arith, length-append, slice_range}
use Rattle.std.proofs.lemmas.List.{drop_at, take_all, length-drop, take-append-le, drop-append-le}
use Rattle.vast_names.specs.Internal.Texts.{cut, AreEnds}

pub length-cut : (start : ℕ) (ends bytes : List ℕ) → length (cut start ends bytes) ≡ length ends
length-cut start [] bytes = refl
length-cut start (e ∷ ends) bytes = ap suc (length-cut e ends bytes)

pub start-within : (start : ℕ) (ends bytes : List ℕ) → AreEnds start ends bytes → start ≤ length bytes
start-within start [] bytes h = omega arith
start-within start (e ∷ ends) bytes h = omega (arith, h.0, start-within e ends bytes h.1)

-- The bounds of a text, and the text.
pub end-within : (start : ℕ) (ends bytes : List ℕ) (i : ℕ) → AreEnds start ends bytes → i < length ends → get_or ends i 0 ≤ length bytes
end-within start [] bytes i h l = absurd (omega arith)
end-within start (e ∷ ends) bytes zero h l = start-within e ends bytes h.1
end-within start (e ∷ ends) bytes (suc i) h l = end-within e ends bytes i h.1 (omega arith)

pub start-below : (start : ℕ) (ends bytes : List ℕ) (i : ℕ) → AreEnds start ends bytes → i < length ends → get_or (start ∷ ends) i 0 ≤ get_or ends i 0
start-below start [] bytes i h l = absurd (omega arith)
start-below start (e ∷ ends) bytes zero h l = h.0
start-below start (e ∷ ends) bytes (suc i) h l = start-below e ends bytes i h.1 (omega arith)

pub cut-at : (start : ℕ) (ends bytes : List ℕ) (i : ℕ) → i < length ends → get_or (cut start ends bytes) i [] ≡ slice_range bytes (get_or (start ∷ ends) i 0) (get_or ends i 0)
cut-at start [] bytes i l = absurd (omega arith)
cut-at start (e ∷ ends) bytes zero l = refl
cut-at start (e ∷ ends) bytes (suc i) l = cut-at e ends bytes i (omega arith)

-- A text more.
range-front : (bytes text : List ℕ) (start end : ℕ) → start ≤ end → end ≤ length bytes → slice_range (bytes ++ text) start end ≡ slice_range bytes start end
range-front bytes text start end h k =
    let inside : start ≤ length bytes = omega arith in
    let room : end - start ≤ length (drop start bytes) = omega (arith, length-drop start bytes) in
    rw (drop-append-le start bytes text inside, take-append-le (end - start) (drop start bytes) text room) refl

range-behind : (bytes text : List ℕ) (start : ℕ) → start ≡ length bytes → slice_range (bytes ++ text) start (length bytes + length text) ≡ text
range-behind bytes text start e =
    rw (drop_at bytes text start (sym e), e) (take_all (length bytes + length text - length bytes) text (omega arith))

pub AreEnds-push : (start : ℕ) (ends bytes text : List ℕ) → AreEnds start ends bytes → AreEnds start (ends ++ (length bytes + length text) ∷ []) (bytes ++ text)
AreEnds-push start [] bytes text h = (omega arith, sym (length-append bytes text))
AreEnds-push start (e ∷ ends) bytes text h = (h.0, AreEnds-push e ends bytes text h.1)

pub cut-push : (start : ℕ) (ends bytes text : List ℕ) → AreEnds start ends bytes → cut start (ends ++ (length bytes + length text) ∷ []) (bytes ++ text) ≡ cut start ends bytes ++ text ∷ []
cut-push start [] bytes text h = ap (λ t. t ∷ []) (range-behind bytes text start h)
cut-push start (e ∷ ends) bytes text h =
    rw (range-front bytes text start e h.0 (start-within e ends bytes h.1)) (ap (λ ts. slice_range bytes start e ∷ ts) (cut-push e ends bytes text h.1))

pub ruleset cuts = (length-cut, end-within, start-below, cut-at)
