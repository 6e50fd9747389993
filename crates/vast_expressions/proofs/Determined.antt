-- The machine has one run, and runs compose.
use Rattle.std.proofs.Common.{◌≡◌, ◌∙◌, List, [], ◌∷◌, ◌++◌, refl, sym, subst}
use Rattle.vast_literal.specs.Tokens.{Token}
use Rattle.vast_expressions.specs.Events.{Event}
use Rattle.vast_expressions.specs.Rows.{Item, Goes, Tells, Runs, done, goes, tells}

pub moved : {is js : List Item} {ts us vs : List Token} {es fs : List Event} → js ≡ is → us ≡ ts → Runs js us es vs fs → Runs is ts es vs fs
moved {is = is} {js = js} {ts = ts} {us = us} {vs = vs} {es = es} {fs = fs} p q r = subst (λ x. Runs is x es vs fs) q (subst (λ x. Runs x us es vs fs) p r)

-- Where both end with the same events to come, they had the same events to tell.
pub one_run : {is : List Item} {ts us vs : List Token} {es ds fs gs : List Event} → Runs is ts es us fs → Runs is ts ds vs gs → (us ≡ vs) × (fs ≡ gs → es ≡ ds)
one_run done done = (refl, λ e. e)
one_run (goes {i = i} {ts = ts} {rs = rs} {is = is} e r k) (goes {rs = rs'} {is = is'} d s l) =
    let same : Goes is' rs' ≡ Goes is rs = sym d ∙ e in
    let a = one_run r (moved (cc same) (cc same) s) in
    let b = one_run k (moved refl (sym a.0) l) in
    (b.0, λ h. a.1 (b.1 h))
one_run (goes e r k) (tells d s l) = absurd (cc (e, d))
one_run (tells e r k) (goes d s l) = absurd (cc (e, d))
one_run (tells {rs = rs} {e = x} {is = is} e r k) (tells {rs = rs'} {e = y} {is = is'} d s l) =
    let same : Tells y is' rs' ≡ Tells x is rs = sym d ∙ e in
    let head : x ≡ y = cc same in
    let a = one_run r (moved (cc same) (cc same) s) in
    let b = one_run k (moved refl (sym a.0) l) in
    (b.0, λ h. let c = a.1 (b.1 h) in cc (c, head))

-- runs one after the other
pub then : {is k : List Item} {ts us vs : List Token} {es fs gs : List Event} → Runs is ts es us fs → Runs k us fs vs gs → Runs (is ++ k) ts es vs gs
then done r = r
then (goes e s k) r = goes e s (then k r)
then (tells e s k) r = tells e s (then k r)

-- and back
pub record Between (is k : List Item) (ts : List Token) (es : List Event) (vs : List Token) (gs : List Event) : Type 0 where
  pub at : List Token
  pub to_come : List Event
  pub front : Runs is ts es at to_come
  pub behind : Runs k at to_come vs gs

pub parted : (is k : List Item) {ts vs : List Token} {es gs : List Event} → Runs (is ++ k) ts es vs gs → Between is k ts es vs gs
parted [] k {ts = ts} {es = es} r = record { at = ts; to_come = es; front = done; behind = r }
parted (i ∷ is) k (goes e r s) = let b = parted is k s in record { at = b.at; to_come = b.to_come; front = goes e r b.front; behind = b.behind }
parted (i ∷ is) k (tells e r s) = let b = parted is k s in record { at = b.at; to_come = b.to_come; front = tells e r b.front; behind = b.behind }
