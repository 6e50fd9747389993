-- What registers take by their block.
use Rattle.std.proofs.Common.{◌≡◌, ◌≢◌, ℕ, suc, zero, Bool, true, false, ◌||◌, IsTrue, nat_eq, if◌then◌else◌, List, [], ◌∷◌, ◌++◌, map, length, Option, Some, None, slice_get, Ok, refl, sym, ◌∙◌, arith}
use Rattle.std.specs.List.{list_any}
use Rattle.std.proofs.lemmas.Bool.{eq-eqb}
use Rattle.std.specs.Cmp.Lexicographic.{pointwise, same_text}
use Rattle.vast_literal.specs.Tree.{ExprTree, NameTree, TernaryTree, StatementTree, ConditionalTree, Else}
use Rattle.vast_core.specs.Nodes.{is_name}
use Rattle.vast_core.specs.Bench.{Bench}
use Rattle.xlsynth_vast.specs.declared.helpers.registers.RegisterDefinition.{RegisterDefinition}
use Rattle.vast_core.specs.Records.{IsFree}
use Rattle.vast_core.specs.Sound.{AreDistinct}
use Rattle.xlsynth_vast.specs.Registers.{RegisterTree, ResetTree, has_reset_value, is_given, unless_unresettable, running_value, unreset_value, value_at_reset, value_outside_reset, given, assigned_all, block_of, active_tree, register_block, is_true, settle, is_named, assigned_in, assigned, is_active, next_value_outside, next_value_with, next_value, name_in, register_trees, TakeTheirValues, RegistersTakeTheirValues}

-- Names.

pointwise-self : (xs : List ℕ) → pointwise nat_eq xs xs ≡ true
pointwise-self [] = refl
pointwise-self (x ∷ xs) = rw (eq-eqb x x refl) (pointwise-self xs)

not-same : (name other : List ℕ) (same : Bool) → pointwise nat_eq name other ≡ same → other ≢ name → pointwise nat_eq name other ≡ false
not-same name other true e h = absurd (h (sym (same_text name other (sym e))))
not-same name other false e h = e

name-self : (t : ExprTree) → IsTrue (is_name t) → is_named (name_in t) t ≡ true
name-self (NameTree name type) h = pointwise-self name
name-self _ h = absurd cc

name-other : (t : ExprTree) (name : List ℕ) → name_in t ≢ name → is_named name t ≡ false
name-other (NameTree other type) name h = not-same name other (pointwise nat_eq name other) refl h
name-other _ name h = refl

settle-name : (v : ExprTree → Bool) (t : ExprTree) → IsTrue (is_name t) → settle v t ≡ t
settle-name v (TernaryTree condition consequent alternate) h = absurd cc
settle-name v _ h = refl

-- Lists of assignments.

-- What is assigned after a value is given, or what was before.
abbrev after : (ExprTree → Bool) → Option ExprTree → Option ExprTree → Option ExprTree
after v None before = before
after v (Some value) before = Some (settle v value)

in-append :
    (v : ExprTree → Bool) (name : List ℕ) (xs ys : List StatementTree) (before : Option ExprTree) →
    assigned_in v name (block_of (xs ++ ys)) before ≡ assigned_in v name (block_of ys) (assigned_in v name (block_of xs) before)
in-append v name [] ys before = refl
in-append v name (x ∷ xs) ys before = in-append v name xs ys (assigned_in v name (block_of (x ∷ [])) before)

own : (v : ExprTree → Bool) (name : List ℕ) (t : ExprTree) (o : Option ExprTree) (before : Option ExprTree) → is_named name t ≡ true → assigned_in v name (block_of (given t o)) before ≡ after v o before
own v name t None before e = refl
own v name t (Some value) before e = rw e refl

foreign : (v : ExprTree → Bool) (name : List ℕ) (t : ExprTree) (o : Option ExprTree) (before : Option ExprTree) → is_named name t ≡ false → assigned_in v name (block_of (given t o)) before ≡ before
foreign v name t None before e = refl
foreign v name t (Some value) before e = rw e refl

abbrev names : List RegisterTree → List (List ℕ)
names rs = map (λ (r : RegisterTree). name_in r.target) rs

others : (v : ExprTree → Bool) (name : List ℕ) (value : RegisterTree → Option ExprTree) (rs : List RegisterTree) (before : Option ExprTree) → IsFree name (names rs) → assigned_in v name (block_of (assigned_all value rs)) before ≡ before
others v name value [] before h = refl
others v name value (r ∷ rs) before h =
    in-append v name (given r.target (value r)) (assigned_all value rs) before
    ∙ rw (foreign v name r.target (value r) before (name-other r.target name (h 0 (name_in r.target) (omega arith)))) (others v name value rs before (λ k d below. h (suc k) d (omega arith)))

free-at : (name : List ℕ) (rs : List RegisterTree) (i : ℕ) (r : RegisterTree) → IsFree name (names rs) → slice_get rs i ≡ Some r → name_in r.target ≢ name
free-at name [] i r h e = cc
free-at name (q ∷ rs) zero r h e = let same : r ≡ q = cc in rw same (h 0 (name_in q.target) (omega arith))
free-at name (q ∷ rs) (suc i) r h e = free-at name rs i r (λ k d below. h (suc k) d (omega arith)) e

share-value :
    (v : ExprTree → Bool) (value : RegisterTree → Option ExprTree) (rs : List RegisterTree) (i : ℕ) (r : RegisterTree) (before : Option ExprTree) → AreDistinct (names rs) → IsTrue (is_name r.target) → slice_get rs i ≡ Some r →
    assigned_in v (name_in r.target) (block_of (assigned_all value rs)) before ≡ after v (value r) before
share-value v value [] i r before d named e = cc
share-value v value (q ∷ rs) zero r before d named e =
    let same : r ≡ q = cc in
    let here : IsTrue (is_name q.target) = rw same at named in
    rw same (
    in-append v (name_in q.target) (given q.target (value q)) (assigned_all value rs) before
    ∙ rw (own v (name_in q.target) q.target (value q) before (name-self q.target here)) (others v (name_in q.target) value rs (after v (value q) before) d.0)
    )
share-value v value (q ∷ rs) (suc i) r before d named e =
    let other : name_in q.target ≢ name_in r.target = λ k. free-at (name_in q.target) rs i r d.0 e (sym k) in
    in-append v (name_in r.target) (given q.target (value q)) (assigned_all value rs) before
    ∙ rw (foreign v (name_in r.target) q.target (value q) before (name-other q.target (name_in r.target) other)) (share-value v value rs i r before d.1 named e)

-- One register.

running : (v : ExprTree → Bool) (r : RegisterTree) (o : Option ExprTree) → r.enable ≡ o → IsTrue (is_name r.target) → settle v (running_value r) ≡ next_value_outside v r
running v r None e named = rw e refl
running v r (Some enable) e named = rw (e, settle-name v r.target named) refl

active-is_true : (v : ExprTree → Bool) (signal : ExprTree) (low : Bool) → is_true v (active_tree (record { signal = signal; active_low = low })) ≡ is_active v (Some (record { signal = signal; active_low = low }))
active-is_true v signal true = refl
active-is_true v signal false = refl

none-given : (rs : List RegisterTree) (i : ℕ) (r : RegisterTree) → list_any has_reset_value rs ≡ false → slice_get rs i ≡ Some r → has_reset_value r ≡ false
none-given [] i r none e = cc
none-given (q ∷ rs) zero r none e = let same : r ≡ q = cc in rw same (first (has_reset_value q) (list_any has_reset_value rs) none)
  where
    first : (a b : Bool) → (a || b) ≡ false → a ≡ false
    first true b h = cc
    first false b h = refl
none-given (q ∷ rs) (suc i) r none e = none-given rs i r (rest (has_reset_value q) (list_any has_reset_value rs) none) e
  where
    rest : (a b : Bool) → (a || b) ≡ false → b ≡ false
    rest true b h = cc
    rest false b h = h

-- Without a conditional, a register that has no reset value takes what it takes outside of reset.
alone :
    (v : ExprTree → Bool) (active : Bool) (rs : List RegisterTree) (i : ℕ) (r : RegisterTree) (o : Option ExprTree) → r.reset_value ≡ o → is_given o ≡ false → AreDistinct (names rs) → IsTrue (is_name r.target) → slice_get rs i ≡ Some r →
    assigned_in v (name_in r.target) (block_of (assigned_all unreset_value rs ++ [])) None ≡ Some (next_value_with v o active r)
alone v active rs i r (Some x) is none d named e = cc
alone v active rs i r None is none d named e =
    in-append v (name_in r.target) (assigned_all unreset_value rs) [] None
    ∙ rw (share-value v unreset_value rs i r None d named e, is, running v r r.enable refl named) refl

-- After a conditional.
branched :
    (v : ExprTree → Bool) (active : Bool) (rs : List RegisterTree) (i : ℕ) (r : RegisterTree) (o : Option ExprTree) → r.reset_value ≡ o → AreDistinct (names rs) → IsTrue (is_name r.target) → slice_get rs i ≡ Some r →
    (if active then assigned_in v (name_in r.target) (block_of (assigned_all value_at_reset rs)) (after v (unreset_value r) None) else assigned_in v (name_in r.target) (block_of (assigned_all value_outside_reset rs)) (after v (unreset_value r) None))
    ≡ Some (next_value_with v o active r)
branched v true rs i r None is d named e = rw (share-value v value_at_reset rs i r (after v (unreset_value r) None) d named e, is, running v r r.enable refl named) refl
branched v true rs i r (Some x) is d named e = rw (share-value v value_at_reset rs i r (after v (unreset_value r) None) d named e, is) refl
branched v false rs i r None is d named e = rw (share-value v value_outside_reset rs i r (after v (unreset_value r) None) d named e, is, running v r r.enable refl named) refl
branched v false rs i r (Some x) is d named e = rw (share-value v value_outside_reset rs i r (after v (unreset_value r) None) d named e, is, running v r r.enable refl named) refl

takes :
    (v : ExprTree → Bool) (reset : Option ResetTree) (rs : List RegisterTree) (any : Bool) → list_any has_reset_value rs ≡ any → unless_unresettable reset rs ≡ Ok tt →
    (i : ℕ) (r : RegisterTree) → AreDistinct (names rs) → IsTrue (is_name r.target) → slice_get rs i ≡ Some r →
    assigned v (register_block reset rs) (name_in r.target) ≡ Some (next_value v reset r)
takes v None rs true e rule i r d named there = let h = rw e at rule in cc
takes v None rs false e rule i r d named there = alone v false rs i r r.reset_value refl (none-given rs i r e there) d named there
takes v (Some s) rs false e rule i r d named there = rw e (alone v (is_active v (Some s)) rs i r r.reset_value refl (none-given rs i r e there) d named there)
takes v (Some s) rs true e rule i r d named there =
    rw e (
    in-append v (name_in r.target) (assigned_all unreset_value rs) (ConditionalTree (active_tree s) (block_of (assigned_all value_at_reset rs)) (Else (block_of (assigned_all value_outside_reset rs))) ∷ []) None
    ∙ rw (share-value v unreset_value rs i r None d named there, active-is_true v s.signal s.active_low) (branched v (is_active v (Some s)) rs i r r.reset_value refl d named there)
    )

pub registers-take-their-values : RegistersTakeTheirValues
registers-take-their-values reset registers rule h v i r there = takes v reset registers (list_any has_reset_value registers) refl rule i r h.distinct (h.named i r there) there

pub none-take : (b : Bench) (reset : Option ResetTree) (registers : List RegisterDefinition) → length registers ≡ 0 → TakeTheirValues reset (register_trees b registers)
none-take b reset [] none h v i r there = cc
none-take b reset (x ∷ xs) none h v i r there = absurd (omega (arith, none))
