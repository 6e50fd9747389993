-- Phrases are read.
use Rattle.std.proofs.Common.{◌≡◌, ℕ, Result, Ok, Err, IfOk, Bool, true, false, ◌<◌, List, [], ◌∷◌, ◌++◌, length, refl, sym, subst, arith, length-append}
use Rattle.vast_literal.specs.Tokens.{Token}
use Rattle.vast_literal.specs.NormalExpr.{NormalExpr}
use Rattle.vast_literal.specs.Grammar.{Spells, up, ternary, binary, index, slice, part_select, member_of}
use Rattle.vast_expressions.specs.Events.{Event, trace}
use Rattle.vast_expressions.specs.Rows.{Item, Runs, goes, done}
use Rattle.vast_expressions.specs.Hearing.{HearsAll}
use Rattle.vast_expressions.specs.Internal.Ran.{Ran}
use Rattle.vast_expressions.specs.Reading.{Reads}
use Rattle.vast_expressions.specs.Phrases.{Quiet, IsRead, IsPhrase, whole, target, RunsAreDerived}
use Rattle.vast_expressions.proofs.Heard.{one_events}
use Rattle.vast_expressions.proofs.Determined.{one_run}
use Rattle.vast_expressions.proofs.Moves.{quieter, stop_selects}
use Rattle.vast_expressions.proofs.Complete.{runs}
use Rattle.vast_expressions.proofs.Meaning.{Extends, MeansAll}
use Rattle.vast_expressions.proofs.Sound.{means}

-- An expression has tokens.
some_front : (ts us : List Token) → 0 < length ts → 0 < length (ts ++ us)
some_front ts us h = rw (length-append ts us) (omega arith)

pub some_tokens : (k : ℕ) (ts : List Token) (t : NormalExpr) → Spells k ts t → 0 < length ts
some_tokens k ts t (up small e) = some_tokens _ ts t e
some_tokens k ts t (ternary c a b) = some_front _ _ (some_tokens _ _ _ c)
some_tokens k ts t (binary op pos l r) = some_front _ _ (some_tokens _ _ _ l)
some_tokens k ts t (index s i) = some_front _ _ (some_tokens _ _ _ s)
some_tokens k ts t (slice s h l) = some_front _ _ (some_tokens _ _ _ s)
some_tokens k ts t (part_select n s i) = some_front _ _ (some_tokens _ _ _ s)
some_tokens k ts t (member_of m s) = some_front _ _ (some_tokens _ _ _ s)
some_tokens k ts t _ = omega arith

fewer : (front us : List Token) → 0 < length front → length us < length (front ++ us)
fewer front us h = rw (length-append front us) (omega arith)

pub phrase_runs : (i : Item) (k : ℕ) (ts rest : List Token) (t : NormalExpr) (es : List Event) → IsPhrase i k → Spells k ts t → Quiet k rest → Runs (i ∷ []) (ts ++ rest) (trace t es) rest es
phrase_runs i k ts rest t es whole e q = (runs 0 ts t e).expression rest es q
phrase_runs i k ts rest t es target e q = goes refl ((runs 13 ts t e).selects (omega arith) rest rest es es (quieter 13 14 rest (omega arith) q) (stop_selects rest es q)) done

-- Before what goes on with none of the level, the same tokens have one phrase at their front.
pub one_phrase : (i : Item) (k : ℕ) (ts us r q : List Token) (x y : NormalExpr) → IsPhrase i k → Spells k ts x → Spells k us y → ts ++ r ≡ us ++ q → Quiet k r → Quiet k q → (x ≡ y) × (r ≡ q)
one_phrase i k ts us r q x y p a b e h g =
    let f : Runs (i ∷ []) (ts ++ r) (trace y []) q [] = subst (λ v. Runs (i ∷ []) v (trace y []) q []) (sym e) (phrase_runs i k us q y [] p b g) in
    let s = one_run (phrase_runs i k ts r x [] p a h) f in
    (one_events x y (s.1 refl), s.0)

extended : (i : Item) (k : ℕ) (ts us : List Token) (es fs : List Event) → IsPhrase i k → MeansAll (i ∷ []) ts es us fs → Extends k [] ts es us fs
extended i k ts us es fs whole (vs, ds, x, (p, q)) = subst (λ v. Extends 0 [] ts es v fs) p (subst (λ v. Extends 0 [] ts es vs v) q x)
extended i k ts us es fs target (vs, ds, x, (p, q)) = subst (λ v. Extends 13 [] ts es v fs) p (subst (λ v. Extends 13 [] ts es vs v) q x)

pub phrase_read : (i : Item) (k : ℕ) (ts us : List Token) (es : List Event) → IsPhrase i k → Runs (i ∷ []) ts es us [] → (t : NormalExpr) × IsRead k ts t us × (es ≡ trace t [])
phrase_read i k ts us es p r = let x = extended i k ts us es [] p (means r) in (
  x.tree,
  record {
    front = x.front;
    spelled = x.spelled;
    whole = x.whole;
    fewer = subst (λ v. length us < length v) (sym x.whole) (fewer x.front us (some_tokens k x.front x.tree x.spelled));
    same = λ hs rest u s e q.
        let f : Runs (i ∷ []) ts (trace u []) rest [] = subst (λ v. Runs (i ∷ []) v (trace u []) rest []) (sym e) (phrase_runs i k hs rest u [] p s q) in
        let g : Runs (i ∷ []) ts (trace x.tree []) us [] = subst (λ v. Runs (i ∷ []) ts v us []) x.told r in
        let o = one_run f g in (one_events u x.tree (o.1 refl), o.0);
  },
  x.told,
)

pub runs_are_derived : RunsAreDerived
runs_are_derived = record { sound = phrase_read; complete = phrase_runs }

-- What ran was read.
pub read_so : {A : Type 0} (hears : A → Event → A → Type 0) (i : Item) (k : ℕ) (ts us : List Token) (a c : A) (b : Bool) → IsPhrase i k → Ran hears (i ∷ []) ts a b us c → Reads hears k ts a b us c
read_so hears i k ts us a c true p (es, r, h) = let x = phrase_read i k ts us es p r in (x.0, x.1, subst (λ v. HearsAll hears a v c) x.2 h)
read_so hears i k ts us a c false p r = λ fs rest u s e q. r (trace u []) [] rest (subst (λ v. Runs (i ∷ []) v (trace u []) rest []) (sym e) (phrase_runs i k fs rest u [] p s q))

pub all_read : {A E : Type 0} (hears : A → Event → A → Type 0) (i : Item) (k : ℕ) (ts us : List Token) (a c : A) (r : Result Bool E) → IsPhrase i k → IfOk r (λ b. Ran hears (i ∷ []) ts a b us c) → IfOk r (λ b. Reads hears k ts a b us c)
all_read hears i k ts us a c (Ok b) p m = read_so hears i k ts us a c b p m
all_read hears i k ts us a c (Err e) p m = m
