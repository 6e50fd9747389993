-- Each rule that is opened leaves fewer to open before a token is due.
use Rattle.std.proofs.Common.{◌≡◌, ℕ, suc, ◌+◌, ◌<◌, List, [], ◌∷◌, ◌++◌, Bool, true, false, ◌&&◌, Option, Some, refl, sym, ap, ◌∙◌, arith, if◌then◌else◌}
use Rattle.std.specs.List.{slice_get}
use Rattle.std.proofs.lemmas.Bool.{ltb-true}
use Rattle.vast_rows.specs.declared.action.Action.{Action}
use Rattle.vast_rows.specs.declared.grammar.Item.{Item}
use Rattle.vast_rows.specs.declared.grammar.Item.TheVariants.{Token, Rule, Phrase}
use Rattle.vast_rows.specs.Internal.Reading.{IsTaken}
use Rattle.vast_rows.specs.Facts.{Fact}
use Rattle.vast_rows.specs.Internal.Predictive.{may_be_empty, lead, is_predictive}
use Rattle.vast_rows.specs.Rows.{Row}
use Rattle.vast_rows.proofs.Once.{good, Good}

lead_over : (facts : ℕ → Fact) (items s : List Item) → lead facts (items ++ s) ≡ lead facts items + (if may_be_empty facts items then lead facts s else 0)
lead_over facts [] s = omega arith
lead_over facts (Token k ∷ items) s = refl
lead_over facts (Phrase p ∷ items) s = refl
lead_over facts (Rule r ∷ items) s = cases (facts r).empty refl (lead_over facts items s)
  where
    cases : (b : Bool) → (facts r).empty ≡ b → lead facts (items ++ s) ≡ lead facts items + (if may_be_empty facts items then lead facts s else 0) →
        suc (facts r).rank + (if (facts r).empty then lead facts (items ++ s) else 0)
        ≡ suc (facts r).rank + (if (facts r).empty then lead facts items else 0) + (if (facts r).empty && may_be_empty facts items then lead facts s else 0)
    cases true h e = rw (h, e) (omega arith)
    cases false h e = rw h (omega arith)

pub leads : (rows : List Row) (facts : ℕ → Fact) (r n : ℕ) (row : Row) (s : List Item) → is_predictive facts rows ≡ true → slice_get rows n ≡ Some row → row.rule ≡ r →
    lead facts (row.items ++ s) < lead facts (Rule r ∷ s)
leads rows facts r n row s p at ruled =
    let g = good rows facts n row p at in
    rw (← ruled) (below (may_be_empty facts row.items) (facts row.rule).empty refl refl g (lead_over facts row.items s))
  where
    below : (b d : Bool) → may_be_empty facts row.items ≡ b → (facts row.rule).empty ≡ d → Good facts row →
        lead facts (row.items ++ s) ≡ lead facts row.items + (if may_be_empty facts row.items then lead facts s else 0) →
        lead facts (row.items ++ s) < suc (facts row.rule).rank + (if (facts row.rule).empty then lead facts s else 0)
    below false d h i g e = let l : lead facts row.items < suc (facts row.rule).rank = ltb-true _ _ g.leads_below in
        let f : lead facts (row.items ++ s) ≡ lead facts row.items + 0 = rw h at e in omega arith
    below true true h i g e = let l : lead facts row.items < suc (facts row.rule).rank = ltb-true _ _ g.leads_below in
        let f : lead facts (row.items ++ s) ≡ lead facts row.items + lead facts s = rw h at e in rw i (omega arith)
    below true false h i g e = let x : (if may_be_empty facts row.items then (facts row.rule).empty else true) ≡ true = g.empties in
        let y : (facts row.rule).empty ≡ true = rw h at x in absurd (cc)

pub leads_items : (rows : List Row) (facts : ℕ → Fact) (stack : List Item) (r k n : ℕ) (items s after : List Item) (action : Option Action) → is_predictive facts rows ≡ true → stack ≡ Rule r ∷ s → IsTaken facts rows r k n items action → after ≡ items ++ s →
    lead facts after < lead facts stack
leads_items rows facts stack r k n items s after action p there t e =
    let o : lead facts ((t.row).items ++ s) < lead facts (Rule r ∷ s) = leads rows facts r n t.row s p t.found t.ruled in
    let g : (t.row).items ++ s ≡ after = ap (λ (v : List Item). v ++ s) t.has_items ∙ sym e in
    rw (there, ← g) o
