-- Runs that are computed, and what texts derive by them.
use Rattle.std.proofs.Common.{◌≡◌, ◌∙◌, ℕ, zero, suc, List, [], ◌∷◌, ◌++◌, Option, Some, None, refl, sym, subst, append-nil}
use Rattle.vast_literal.specs.Tokens.{Token}
use Rattle.vast_literal.specs.Scan.{tokens}
use Rattle.vast_literal.specs.NormalExpr.{NormalExpr}
use Rattle.vast_literal.specs.Grammar.{Spells, DerivesExpression}
use Rattle.vast_literal.specs.WorkedTexts.{HasOneTree, HasNoTree}
use Rattle.vast_literal.proofs.Longest.{scan_lexes, lexes_scan}
use Rattle.vast_expressions.specs.Events.{Event, trace}
use Rattle.vast_expressions.specs.Rows.{Item, Expression, Row, Stuck, Goes, Tells, row, Runs, done, goes, tells}
use Rattle.vast_expressions.specs.Phrases.{whole}
use Rattle.vast_expressions.proofs.DerivedOnce.{expression_once}
use Rattle.vast_expressions.proofs.Determined.{one_run, parted}
use Rattle.vast_expressions.proofs.Heard.{one_events}
use Rattle.vast_expressions.proofs.Fused.{went, told, no_run}
use Rattle.vast_expressions.proofs.Phrases.{phrase_read, phrase_runs}

-- What some steps come to: the items ran, with what they told and the tokens that are left; or they have no run; or more steps
-- are to be made.
pub data Outcome : Type 0 where
  Ended : (events : List Event) (left : List Token) → Outcome
  Fails Unfinished : Outcome

abbrev tell : Event → Outcome → Outcome
tell e (Ended es us) = Ended (e ∷ es) us
tell e o = o

-- A step by this row, where the further ones are made so.
abbrev turn : (List Item → List Token → Outcome) → List Item → Row → Outcome
turn more is Stuck = Fails
turn more is (Goes js ts) = more (js ++ is) ts
turn more is (Tells e js ts) = tell e (more (js ++ is) ts)

unfoldable pub run : (steps : ℕ) → List Item → List Token → Outcome
run zero is ts = Unfinished
run (suc n) [] ts = Ended [] ts
run (suc n) (i ∷ is) ts = turn (run n) is (row i ts)

abbrev Comes : List Item → List Token → Outcome → Type 0
Comes is ts (Ended es us) = Runs is ts es us []
Comes is ts Fails = (es fs : List Event) (us : List Token) → Runs is ts es us fs → ⊥
Comes is ts Unfinished = Unit {0}

comes_by : (i : Item) (is js : List Item) (ts us : List Token) (o : Outcome) → row i ts ≡ Goes js us → Comes (js ++ is) us o → Comes (i ∷ is) ts o
comes_by i is js ts us (Ended es vs) e c = let x = parted js is c in goes e x.front x.behind
comes_by i is js ts us Fails e c = λ es fs vs r. c es fs vs (went e r)
comes_by i is js ts us Unfinished e c = tt

comes_telling : (i : Item) (is js : List Item) (ts us : List Token) (d : Event) (o : Outcome) → row i ts ≡ Tells d js us → Comes (js ++ is) us o → Comes (i ∷ is) ts (tell d o)
comes_telling i is js ts us d (Ended es vs) e c = let x = parted js is c in tells e x.front x.behind
comes_telling i is js ts us d Fails e c = λ es fs vs r. let x = told e r in c x.0 fs vs x.2
comes_telling i is js ts us d Unfinished e c = tt

turned : (more : List Item → List Token → Outcome) (i : Item) (is : List Item) (ts : List Token) → ((js : List Item) (us : List Token) → Comes js us (more js us)) → (w : Row) → row i ts ≡ w → Comes (i ∷ is) ts (turn more is w)
turned more i is ts c Stuck e = λ es fs us r. no_run e r
turned more i is ts c (Goes js us) e = comes_by i is js ts us (more (js ++ is) us) e (c (js ++ is) us)
turned more i is ts c (Tells d js us) e = comes_telling i is js ts us d (more (js ++ is) us) e (c (js ++ is) us)

comes : (n : ℕ) (is : List Item) (ts : List Token) → Comes is ts (run n is ts)
unfolding run
comes zero is ts = tt
comes (suc n) [] ts = done
comes (suc n) (i ∷ is) ts = turned (run n) i is ts (λ js us. comes n js us) (row i ts) refl

-- What the tokens of a text come to as an expression.
unfoldable pub outcome : Option (List Token) → Outcome
outcome None = Fails
outcome (Some ts) = run 99 (Expression ∷ []) ts

spelled : (ts : List Token) (t : NormalExpr) → Runs (Expression ∷ []) ts (trace t []) [] [] → Spells 0 ts t
spelled ts t r =
    let x = phrase_read Expression 0 ts [] (trace t []) whole r in
    let same : x.0 ≡ t = one_events x.0 t (sym x.2) in
    let front : ts ≡ x.1.front = x.1.whole ∙ append-nil x.1.front in
    subst (λ v. Spells 0 v t) (sym front) (subst (λ v. Spells 0 x.1.front v) same x.1.spelled)

-- All of the text was run, telling this tree: it derives it alone.
pub only : (text : List ℕ) (t : NormalExpr) → outcome (tokens text) ≡ Ended (trace t []) [] → HasOneTree text t
unfolding outcome
only text t e = go (tokens text) refl e
  where
    go : (o : Option (List Token)) → tokens text ≡ o → outcome o ≡ Ended (trace t []) [] → HasOneTree text t
    go None f e = absurd (cc e)
    go (Some ts) f e =
        let d = spelled ts t (subst (λ v. Comes (Expression ∷ []) ts v) e (comes 99 (Expression ∷ []) ts)) in
        let x : DerivesExpression text t = record { parts = ts; lexed = scan_lexes text ts f; spelled = d } in
        record { derived = x; no_other = λ u y. expression_once text u t y x }

-- The run came to none, or stopped before the last token.
abbrev IsNone : Outcome → Type 0
IsNone Fails = Unit {0}
IsNone (Ended es (t ∷ ts)) = Unit {0}
IsNone _ = ⊥

pub none : (text : List ℕ) → IsNone (outcome (tokens text)) → HasNoTree text
unfolding outcome
none text h t x = go (outcome (Some x.parts)) (subst (λ o. IsNone (outcome o)) (lexes_scan text x.parts x.lexed) h) (comes 99 (Expression ∷ []) x.parts)
  where
    r : Runs (Expression ∷ []) x.parts (trace t []) [] []
    r = subst (λ v. Runs (Expression ∷ []) v (trace t []) [] []) (append-nil x.parts) (phrase_runs Expression 0 x.parts [] t [] whole x.spelled tt)

    go : (o : Outcome) → IsNone o → Comes (Expression ∷ []) x.parts o → ⊥
    go Fails n c = c (trace t []) [] [] r
    go (Ended es (u ∷ us)) n c = let same = (one_run c r).0 in absurd (cc same)
    go (Ended es []) n c = n
    go Unfinished n c = n
