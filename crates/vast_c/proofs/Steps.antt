-- One line more of a text, and what it gave.
use Rattle.std.proofs.Common.{◌≡◌, ◌==◌, true, ℕ, suc, ◌+◌, ◌<◌, List, [], ◌∷◌, ◌++◌, length, take, drop, get_or, refl, ap, sym, ◌∙◌, subst, arith}
use Rattle.std.proofs.lemmas.Bool.{eqb-true}
use Rattle.std.proofs.lemmas.List.{length-drop, nil_from_length}
use Rattle.std.proofs.Math.Seq.{drop-cons, take-suc}
use Rattle.vast_core.specs.FileTree.{tree}
use Rattle.vast_session.specs.Session.{IsCausedBy, IsOfLine, IsSame}
use Rattle.vast_calls.specs.Written.{meaning}
use Rattle.vast_session.specs.declared.fault.Fault.{Fault}
use Rattle.vast_session.specs.declared.fault.Fault.TheVariants.{Line}
use Rattle.vast_session.specs.declared.session.Session.{Session}
use Rattle.vast_calls.specs.Lines.{HasKind, Passed, lines_of}
use Rattle.vast_c.specs.Seen.{Gave, GaveLine, IsFaultOf, IsSameTree, Made, Run, TellsFault, cause_of, status_of}
use Rattle.vast_c.specs.Internal.Seen.{IsToldOf, LeftIfAny}
use Rattle.vast_c.specs.declared.TheConstants.{MEMORY}
use Rattle.vast_c.specs.declared.kept.Cause.{Cause}
use Rattle.vast_c.specs.declared.kept.Cause.TheVariants.{Refused, Condition, Form, Memory}
use Rattle.vast_c.specs.declared.kept.Kept.{Kept}
use Rattle.vast_c.specs.declared.kept.ToldFault.{ToldFault}
use Rattle.std.specs.Prelude.{IfSome, Option, None, Some}
use Rattle.std.specs.Option.{option_map_or}

-- one line more gave something
pub gave_more : (a : Session) (lines : List (List ℕ)) (b : Session) (line : List ℕ) (c : Session) → Gave a lines b → GaveLine b line c → Gave a (lines ++ line ∷ []) c
gave_more a [] b line c same gave = (c, subst (λ (s : Session). GaveLine s line c) same gave, refl)
gave_more a (first ∷ lines) b line c gave last = (gave.0, gave.1, gave_more gave.0 lines b line c gave.2 last)

-- the item after the first n
pub record Next {X : Type 0} (all : List X) (n : ℕ) (x : X) (xs : List X) : Type 0 where
  pub taken : take (n + 1) all ≡ take n all ++ x ∷ []
  pub dropped : drop (n + 1) all ≡ xs
  pub within : n < length all

from_suc : {X : Type 0} → (all : List X) (n : ℕ) (x : X) (xs : List X) → take (suc n) all ≡ take n all ++ x ∷ [] → drop (suc n) all ≡ xs → n < length all → Next all n x xs
from_suc all n x xs taken dropped within =
    let one : suc n ≡ n + 1 = omega arith in
    record { taken = subst (λ m. take m all ≡ take n all ++ x ∷ []) one taken; dropped = subst (λ m. drop m all ≡ xs) one dropped; within = within }

pub next : {X : Type 0} → (all : List X) (n : ℕ) (x : X) (xs : List X) → drop n all ≡ x ∷ xs → Next all n x xs
next all n x xs is =
    let within : n < length all = omega (arith, length-drop n all, ap length is) in
    let same : x ∷ xs ≡ get_or all n x ∷ drop (suc n) all = sym is ∙ drop-cons all n x within in
    from_suc all n x xs (take-suc all n x within ∙ ap (λ y. take n all ++ y ∷ []) (sym (ap (λ l. get_or l 0 x) same))) (sym (ap (drop 1) same)) within

-- where there is no byte there is no line
pub no_lines : (bytes : List ℕ) → true ≡ (length bytes == 0) → lines_of bytes ≡ []
no_lines bytes none = ap lines_of (nil_from_length bytes (eqb-true (length bytes) 0 (sym none)))

-- what is the same has the same tree
pub same_tree : (a b : Session) → IsSame a b → IsSameTree a b
same_tree a b same = (ap tree same.0.0, same.0.1)

same_all : (a b : Session) → b ≡ a → IsSame a b
same_all a b same =
    ((ap (λ (s : Session). s.file) same, ap (λ (s : Session). s.answers.items) same), (ap (λ (s : Session). meaning s.names) same, ap (λ (s : Session). s.skipped.items) same))

pub left_tree : (cause : Option Cause) (a b : Session) → LeftIfAny cause a b → IsSameTree a b
left_tree None a b same = same_tree a b (same_all a b same)
left_tree (Some Refused) a b left = same_tree a b left
left_tree (Some Condition) a b left = same_tree a b left
left_tree (Some Form) a b left = same_tree a b left
left_tree (Some Memory) a b left = left

pub left_same : (cause : Option Cause) → (cause ≡ Some Memory → ⊥) → (a b : Session) → LeftIfAny cause a b → IsSame a b
left_same None other a b same = same_all a b same
left_same (Some Refused) other a b left = left
left_same (Some Condition) other a b left = left
left_same (Some Form) other a b left = left
left_same (Some Memory) other a b left = absurd (other refl)

-- what lines did to the session that is open
pub made_as : (Same : Session → Session → Type 0) (b a : Kept) (lines : List (List ℕ)) (taken : ℕ) (cause : Option Cause) (before after : Option Kept) → before ≡ Some b → after ≡ Some a
    → ((s t : Session) → LeftIfAny cause s t → Same s t) → Run b lines taken (LeftIfAny cause) a → Made before lines taken Same after
made_as Same b a lines taken cause before after is_before is_after weaker run =
    rw (is_before, is_after) (record { between = run.between; gave = run.gave; same = weaker run.between a.session run.same; counted = run.counted; fault = run.fault })

-- a fault of one line is that of the first of more lines
pub fault_of_first : (a b : Session) (n m : ℕ) (line : List ℕ) (lines rest : List (List ℕ)) (told : Option ToldFault) → n ≡ m → rest ≡ line ∷ lines → TellsFault a b m (line ∷ []) told → TellsFault a b n rest told
fault_of_first a b n m line lines rest told same is fault = rw (same, is) fault

-- the fault that is told of a line is what the session said of it
pub told_of : (a b c : Session) (n : ℕ) (line : List ℕ) (fault : Fault) (told : Option ToldFault) → c ≡ b → IfSome told (λ t. fault ≡ Line t.fault)
    → IsOfLine n fault → IsCausedBy a b line fault → (HasKind line Passed → ⊥) → TellsFault a c n (line ∷ []) told
told_of a b c n line fault None same is number cause kind = tt
told_of a b c n line fault (Some t) same is number cause kind =
    let said : IsFaultOf a b n (line ∷ []) (Line t.fault) = subst (IsFaultOf a b n (line ∷ [])) is (number, cause, kind) in
    subst (λ (s : Session). IsFaultOf a s n (line ∷ []) (Line t.fault)) (sym same) said

-- where a fault of this cause is told, its status is the cause's
pub status_told : (cause : Cause) (told : Option ToldFault) → IsToldOf cause told → status_of cause ≡ option_map_or (λ (t : ToldFault). status_of (cause_of t.fault.cause)) told MEMORY
status_told cause None is = ap status_of is
status_told cause (Some t) is = ap status_of (sym is)
