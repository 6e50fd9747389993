use Rattle.std.proofs.Common.{◌≡◌, ℕ, suc, zero, ◌<◌, true, IsTrue, List, [], ◌∷◌, length, get_or, take, All, refl, sym, ◌∙◌, subst, arith, add-one}
use Rattle.std.proofs.lemmas.List.{get_or_default, take_all}
use Rattle.vast_core.specs.Handles.{Expr}
use Rattle.vast_core.specs.Bench.{Bench, tree_of}
use Rattle.vast_core.specs.Sound.{is_event, EventSound}
use Rattle.vast_core.specs.View.{bench}
use Rattle.vast_core.proofs.Lists.{All-cons, All-head, All-tail}
use Rattle.vast_core.proofs.ast.Ast.first_wrong_event.Goals as goal

take-more : {A : Type 0} (P : A → Type 0) (xs : List A) (i : ℕ) → All P (take i xs) → ((d : A) → i < length xs → P (get_or xs i d)) → All P (take (suc i) xs)
take-more P [] i h p = λ k d below. absurd (omega arith)
take-more P (x ∷ xs) zero h p = All-cons P x [] (p x (omega arith)) (λ k d below. absurd (omega arith))
take-more P (x ∷ xs) (suc i) h p = All-cons P x (take (suc i) xs) (All-head P x (take i xs) h) (take-more P xs i (All-tail P x (take i xs) h) (λ d below. p d (omega arith)))

event-at : (b : Bench) (es : List Expr) (i : ℕ) (d e : Expr) → i < length es → true ≡ is_event (tree_of b (get_or es i d)) → IsTrue (is_event (tree_of b (get_or es i e)))
event-at b es i d e below h = rw (get_or_default es i e d below, ← h) refl

pub loop-index-preserved : goal.loop-index-preserved
loop-index-preserved c =
    let more : All (EventSound (bench c.args.self.now)) (take (suc c.loop-index.index) c.args.events.now) =
    take-more (EventSound (bench c.args.self.now)) c.args.events.now c.loop-index.index c.loop-index.invariant (λ d below. (
      c.requires c.loop-index.index d below,
      event-at (bench c.args.self.now) c.args.events.now c.loop-index.index _ d below (sym c.if-not-is_event.false ∙ c.is_event.ensures),
    ))
    in rw add-one more

pub returns-clause-none : goal.returns-clause-none
returns-clause-none c =
    subst (λ (xs : List Expr). All (EventSound (bench c.args.self.now)) xs) (take_all c.loop-index.index c.args.events.now c.loop-index-test.false) c.loop-index.invariant
