-- Texts that lie after one another in one buffer.
use Rattle.std.specs.Prelude.{◌≡◌, ℕ, ◌≤◌, List, [], ◌∷◌, length, slice_range}
use Rattle.vast_names.specs.declared.texts.Texts.{Texts}

-- The texts of the bytes from start on, each to its end.
abbrev pub cut : ℕ → List ℕ → List ℕ → List (List ℕ)
cut start [] bytes = []
cut start (e ∷ ends) bytes = slice_range bytes start e ∷ cut e ends bytes

-- No text ends before it starts, and the last one ends with the bytes.
abbrev pub AreEnds : ℕ → List ℕ → List ℕ → Type 0
AreEnds start [] bytes = start ≡ length bytes
AreEnds start (e ∷ ends) bytes = (start ≤ e) × AreEnds e ends bytes

-- The texts that lie one after another in a buffer, each up to its end.
abbrev pub texts_of : Texts → List (List ℕ)
texts_of t = cut 0 t.ends.items t.bytes.items

abbrev pub IsCut : Texts → Type 0
IsCut t = AreEnds 0 t.ends.items t.bytes.items
