-- What the tests of conditions say.
use Rattle.std.proofs.Common.{◌≡◌, ◌≢◌, ℕ, ℤ, Bool, true, false, not, IsTrue, List, [], ◌∷◌, length, refl, sym, ◌∙◌, arith}
use Rattle.std.proofs.lemmas.Bool.{eqb-true}
use Rattle.std.specs.Prelude.{◌==◌}
use Rattle.std.specs.List.{list_all}
use Rattle.std.specs.Int.{is_positive}
use Rattle.vast_core.specs.Types.{AreDimensions}
use Rattle.xlsynth_vast.proofs.ArrayReduced.{all_positive}
use Rattle.vast_script.specs.Conditions.{are_dimensions}

pub named_there : (name : List ℕ) → IsTrue (not (length name == 0)) → name ≢ []
named_there [] h = cc
named_there (c ∷ cs) h = λ e. cc

pub dimensions_there : (ds : List ℤ) → IsTrue (are_dimensions ds) → AreDimensions ds
unfolding are_dimensions
dimensions_there [] h = cc
dimensions_there (d ∷ ds) h = record { any = omega arith; each = all_positive (d ∷ ds) h }

pub dimensions_none : (ds : List ℤ) → (length ds == 0) ≡ true → are_dimensions ds ≡ false
unfolding are_dimensions
dimensions_none [] h = refl
dimensions_none (d ∷ ds) h = let zero : length (d ∷ ds) ≡ 0 = eqb-true _ _ h in absurd (omega arith)

pub dimensions_test : (ds : List ℤ) → (length ds == 0) ≡ false → are_dimensions ds ≡ list_all is_positive ds
unfolding are_dimensions
dimensions_test [] h = cc
dimensions_test (d ∷ ds) h = refl

pub dimensions_meant : (ds : List ℤ) (r : Bool) → (length ds == 0) ≡ false → r ≡ list_all is_positive ds → IsTrue r → AreDimensions ds
dimensions_meant ds r h e k = dimensions_there ds (dimensions_test ds h ∙ (sym e ∙ k))
