-- Warnings, one after the other.
use Rattle.std.proofs.Common.{◌≡◌, ℕ, ◌+◌, ◌<◌, List, [], ◌∷◌, ◌++◌, length, take, get_or, refl, sym, ap, subst, ◌∙◌}
use Rattle.std.proofs.lemmas.List.{append-nil, append_assoc, take_more}
use Rattle.std.specs.Prelude.{codes, OnOk, Result, Ok, Err}
use Rattle.std.specs.declared.alloc.AllocError.{AllocError}
use Rattle.vast_talk.specs.declared.warnings.LineWarning.{LineWarning}
use Rattle.vast_talk.specs.Warnings.{AreMoreWarnings, IsWarningObject, rule_members, warning_front}
use Rattle.vast_talk.specs.Internal.Warnings.{AddsMoreWarnings, AddsWarning}

-- A warning was appended, its rule in words after where it is shown.
pub worded :
    (old front new why tools : List ℕ) (warning : LineWarning) (done : Result (Unit {0}) AllocError) → front ≡ old ++ warning_front warning → OnOk done (new ≡ front ++ rule_members why tools) →
    OnOk done (AddsWarning old new warning)
worded old front new why tools warning (Ok done) shown told =
    (warning_front warning ++ rule_members why tools, (why, tools, refl), told ∙ ap (λ (xs : List ℕ). xs ++ rule_members why tools) shown ∙ append_assoc old (warning_front warning) (rule_members why tools))
worded old front new why tools warning (Err refused) shown told = tt

pub no_more : (old : List ℕ) → AddsMoreWarnings old old []
no_more old = ([], refl, sym (append-nil old))

-- One more after those that stand there.
one_behind : (warnings : List LineWarning) (more : List ℕ) (warning : LineWarning) (object : List ℕ) → AreMoreWarnings warnings more → IsWarningObject warning object → AreMoreWarnings (warnings ++ warning ∷ []) (more ++ (codes "," ++ object))
one_behind [] more warning object none is = (object, [], is, refl, rw none (sym (ap (λ (xs : List ℕ). codes "," ++ xs) (append-nil object))))
one_behind (w ∷ ws) more warning object (first, rest, is_first, are, same) is =
    (first, rest ++ (codes "," ++ object), is_first, one_behind ws rest warning object are is, ap (λ (xs : List ℕ). xs ++ (codes "," ++ object)) same ∙ append_assoc (codes "," ++ first) rest (codes "," ++ object))

-- One warning more was appended.
pub more_warning :
    (warnings : List LineWarning) (old text comma new : List ℕ) (place : ℕ) (warning : LineWarning) → place < length warnings → warning ≡ get_or warnings place warning → AddsMoreWarnings old text (take place warnings) →
    comma ≡ text ++ codes "," → AddsWarning comma new warning → AddsMoreWarnings old new (take (place + 1) warnings)
more_warning warnings old text comma new place warning b i (more, are, grown) c (object, is, added) = (
  more ++ (codes "," ++ object),
  subst (λ (ws : List LineWarning). AreMoreWarnings ws (more ++ (codes "," ++ object))) (sym (take_more warnings place warning b ∙ ap (λ (w : LineWarning). take place warnings ++ w ∷ []) (sym i))) (one_behind (take place warnings) more warning object are is),
  added ∙ ap (λ (xs : List ℕ). xs ++ object) (c ∙ ap (λ (xs : List ℕ). xs ++ codes ",") grown) ∙ append_assoc (old ++ more) (codes ",") object ∙ append_assoc old more (codes "," ++ object),
)

pub ruleset warned = (worded, no_more, more_warning)
