-- Which words name nothing that is printed.
use Rattle.std.proofs.Common.{◌≡◌, ℕ, true, List, [], ◌∷◌, None, codes, Bor, refl}
use Rattle.std.proofs.lemmas.Slice.Eq.{bytes_eq-Decides}
use Rattle.vast_demo.specs.Words.{text_of, design_text, is_check}

no_text : (name : List ℕ) → name ≡ codes "check" → text_of name ≡ None
no_text name e = rw e refl

pub no_design : (words : List (Bor (List ℕ))) → is_check words ≡ true → design_text words ≡ None
no_design [] e = refl
no_design (word ∷ []) e = no_text word.now ((bytes_eq-Decides word.now (codes "check")).0 e)
no_design (word ∷ (other ∷ rest)) e = refl
