-- Laws of the reduction of an array: its checks, and its elements.
use Rattle.std.proofs.Common.{take_all, ◌≡◌, zero, suc, ℕ, ◌+◌, ◌*◌, ◌<◌, ◌^◌, ℤ, pos, negsuc, ◌*ℤ◌, ◌≤ℤ◌, nat_abs, Bool, true, false, ◌&&◌, IsTrue, List, [], ◌∷◌, ◌++◌, map, append-nil, append_assoc, take, ◌≤◌, add-one, ◌+ℤ◌, ◌<ℤ◌, Vec, IsErr, Result, Ok, Err, length, get_or, drop, All, refl, sym, ap, ◌∙◌, arith}
use Rattle.std.specs.List.{flat_map, list_all, range_with_len}
use Rattle.std.proofs.lemmas.Grind.{flat_map-append}
use Rattle.std.proofs.lemmas.List.{map-append}
use Rattle.std.proofs.Math.Seq.{take-suc}
use Rattle.std.specs.Int.{is_positive}
use Rattle.std.proofs.lemmas.Int.{ints, by_lt_z}
use Rattle.std.proofs.Math.IntN.{pos-*ℤ-pos}
use Rattle.std.specs.declared.alloc.AllocError.{AllocError}
use Rattle.std.specs.declared.alloc.Global.{Global}
use Rattle.vast_literal.specs.declared.error.VastFault.{VastFault}
use Rattle.vast_literal.specs.declared.error.VastFault.TheVariants.{Refused, Memory}
use Rattle.vast_literal.specs.Fault.{RefusedBy}
use Rattle.vast_core.specs.BitCount.{product}
use Rattle.vast_literal.specs.Tree.{ExprTree, IndexTree}
use Rattle.vast_core.specs.Nodes.{ExprRoot}
use Rattle.vast_core.specs.declared.handle.Index.{Index}
use Rattle.vast_core.specs.declared.handle.Expr.{Expr}
use Rattle.vast_core.specs.declared.handle.IndexableExpr.{IndexableExpr}
use Rattle.vast_core.specs.Bench.{Bench, OwnsExpr, tree_of}
use Rattle.vast_core.specs.Growth.{with_expr, next_expr, with_fixed_index, next_fixed_index, known_literal}
use Rattle.vast_core.proofs.Lists.{All-cons}
use Rattle.vast_core.proofs.Laws.{next_owned, next_tree}
use Rattle.vast_core.proofs.Products.{≤ℤ_trans, at-least, product-positive, All-drop, All-append, dimension-kept}
use Rattle.xlsynth_vast.specs.Literals.{selector_text}
use Rattle.xlsynth_vast.specs.Reductions.{HasMoreNodes}
use Rattle.xlsynth_vast.specs.Internal.Reductions.{ChecksBy, AddsTrees, MakesTrees}
use Rattle.vast_literal.specs.Literal.{and_then}
use Rattle.xlsynth_vast.specs.ArrayReduction.{slots, elements, element_at}
use Rattle.xlsynth_vast.proofs.Reduced.{more-none, more-root, more-more, more_owned, more_tree, more_trees, all-more, All-at}

-- Counting the elements.

from-one : (d : ℤ) → IsTrue (is_positive d) → pos 1 ≤ℤ d
from-one (pos zero) h = absurd cc
from-one (pos (suc n)) h = omega (arith, ints)
from-one (negsuc n) h = absurd cc

both : (a b : Bool) → IsTrue (a && b) → IsTrue a × IsTrue b
both true b h = (refl, h)
both false b h = absurd cc

pub all_positive : (ds : List ℤ) → IsTrue (list_all is_positive ds) → All (λ d. pos 1 ≤ℤ d) ds
all_positive [] h = λ k d below. absurd (omega arith)
all_positive (d ∷ ds) h =
    let p = both (is_positive d) (list_all is_positive ds) h in
    All-cons (λ x. pos 1 ≤ℤ x) d ds (from-one d p.0) (all_positive ds p.1)

times-abs : (d : ℤ) (total : ℕ) → pos 1 ≤ℤ d → pos (total * nat_abs d) ≡ pos total *ℤ d
times-abs (pos n) total h = sym (pos-*ℤ-pos total n)
times-abs (negsuc n) total h = absurd (omega (arith, ints))

pub count-kept :
    (ds : List ℤ) (i : ℕ) (d read : ℤ) (total next : ℕ) → i < length ds → All (λ x. pos 1 ≤ℤ x) ds → d ≡ get_or ds i (pos 0) → read ≡ d →
    pos 1 ≤ℤ pos total → product (drop i ds) *ℤ pos total ≡ product ds → next ≡ total * nat_abs read →
    (pos 1 ≤ℤ pos next) × (product (drop (i + 1) ds) *ℤ pos next ≡ product ds)
count-kept ds i d read total next below each at is some same made =
    let one : pos 1 ≤ℤ d = rw at (each i (pos 0) below) in
    dimension-kept ds i d (pos total) (pos next) (product ds) below each at some same (ap (λ (n : ℕ). pos n) made ∙ (ap (λ (z : ℤ). pos (total * nat_abs z)) is ∙ times-abs d total one))

pub count-over :
    (ds : List ℤ) (i : ℕ) (d read : ℤ) (total : ℕ) → i < length ds → All (λ x. pos 1 ≤ℤ x) ds → d ≡ get_or ds i (pos 0) → read ≡ d →
    pos 1 ≤ℤ pos total → product (drop i ds) *ℤ pos total ≡ product ds → (total * nat_abs read < 2 ^ 64 → ⊥) →
    pos (2 ^ 64) ≤ℤ product ds
count-over ds i d read total below each at is some same over =
    let next : ℕ = total * nat_abs read in
    let kept : (pos 1 ≤ℤ pos next) × (product (drop (i + 1) ds) *ℤ pos next ≡ product ds) = count-kept ds i d read total next below each at is some same refl in
    let left : pos 1 ≤ℤ product (drop (i + 1) ds) = product-positive (drop (i + 1) ds) (All-drop (λ x. pos 1 ≤ℤ x) ds (i + 1) each) in
    let more : pos next ≤ℤ (product (drop (i + 1) ds) *ℤ pos next) = at-least (product (drop (i + 1) ds)) (pos next) left kept.0 in
    ≤ℤ_trans (pos (2 ^ 64)) (pos next) (product ds) (large next over) (rw kept.1 at more)
  where
    large : (n : ℕ) → (n < 2 ^ 64 → ⊥) → pos (2 ^ 64) ≤ℤ pos n
    large n h = by_lt_z (pos n) (pos (2 ^ 64)) (λ below. absurd (h (omega (arith, ints)))) (λ above. above)

-- Checks one after another.

pub first_refuses : (first : Result (Unit {0}) (List ℕ)) (next : Unit {0} → Result (Unit {0}) (List ℕ)) (fault : VastFault) → RefusedBy first fault → RefusedBy (and_then first next) fault
first_refuses (Ok _) next (Refused e) h = absurd cc
first_refuses (Err words) next (Refused e) h = h
first_refuses first next (Memory e) h = tt

pub first_passes : {A : Type 0} (first : Result (Unit {0}) (List ℕ)) (next : Unit {0} → Result (Unit {0}) (List ℕ)) (r : Result A VastFault) → first ≡ Ok tt → ChecksBy (next tt) r → ChecksBy (and_then first next) r
first_passes (Ok _) next r is h = h
first_passes (Err words) next r is h = absurd cc

pub ruleset checks = (first_refuses, first_passes)

-- Elements.

flat-single : {A : Type 0} (xs : List A) → flat_map (λ x. x ∷ []) xs ≡ xs
flat-single [] = refl
flat-single (x ∷ xs) = ap (λ r. x ∷ r) (flat-single xs)

flat-same : {A B : Type 0} (f g : A → List B) → ((x : A) → f x ≡ g x) → (xs : List A) → flat_map f xs ≡ flat_map g xs
flat-same f g h [] = refl
flat-same f g h (x ∷ xs) = rw (h x, flat-same f g h xs) refl

flat-flat : {A B C : Type 0} (f : A → List B) (g : B → List C) (xs : List A) → flat_map (λ x. flat_map g (f x)) xs ≡ flat_map g (flat_map f xs)
flat-flat f g [] = refl
flat-flat f g (x ∷ xs) = ap (λ r. flat_map g (f x) ++ r) (flat-flat f g xs) ∙ sym (flat_map-append g (f x) (flat_map f xs))

-- The last dimension within the others.
pub elements-last : (ds : List ℤ) (d : ℤ) (array : ExprTree) → elements (ds ++ d ∷ []) array ≡ flat_map (slots d) (elements ds array)
unfolding elements
elements-last [] d array = flat-single (slots d array) ∙ sym (append-nil (slots d array))
elements-last (e ∷ ds) d array =
    flat-same (elements (ds ++ d ∷ [])) (λ u. flat_map (slots d) (elements ds u)) (λ u. elements-last ds d u) (slots e array)
    ∙ flat-flat (elements ds) (slots d) (slots e array)

-- One slot more.
range-last : (a n : ℕ) → range_with_len a (suc n) ≡ range_with_len a n ++ (a + n) ∷ []
range-last a zero = ap (λ k. k ∷ []) (omega arith)
range-last a (suc n) =
    let same : a + 1 + n ≡ a + suc n = omega arith in
    ap (λ r. a ∷ r) (rw same at (range-last (a + 1) n))

slots-next : (n : ℕ) (array : ExprTree) → slots (pos (suc n)) array ≡ slots (pos n) array ++ element_at array n ∷ []
unfolding slots
slots-next n array =
    let same : 0 + n ≡ n = omega arith in
    let last : range_with_len 0 (suc n) ≡ range_with_len 0 n ++ n ∷ [] = rw same at (range-last 0 n) in
    ap (map (element_at array)) last ∙ map-append (element_at array) (range_with_len 0 n) (n ∷ [])

-- What is made so far: what was there, and the slots below the index.
pub record Slotted (start now : Bench) (array : Expr) (dimension index : ℤ) (before made : List Expr) : Type 0 where
  pub low : pos 0 ≤ℤ index
  pub within : pos 0 ≤ℤ dimension → index ≤ℤ dimension
  pub none : dimension <ℤ pos 0 → index ≡ pos 0
  pub owned : All (OwnsExpr now) made
  pub trees : map (tree_of now) made ≡ map (tree_of start) before ++ slots index (tree_of start array)
  pub more : HasMoreNodes start now

slots-more : (index next : ℤ) (array : ExprTree) → pos 0 ≤ℤ index → next ≡ index +ℤ pos 1 → slots next array ≡ slots index array ++ IndexTree array (known_literal (selector_text index) index) ∷ []
slots-more (pos n) next array low is = rw (is, add-one) (slots-next n array)
slots-more (negsuc n) next array low is = absurd (omega (arith, ints))

pub slotted-start : (start : Bench) (array : Expr) (dimension : ℤ) (before : List Expr) → All (OwnsExpr start) before → Slotted start start array dimension (pos 0) before before
unfolding slots
slotted-start start array dimension before h =
    record {
      low = omega (arith, ints);
      within = λ k. k;
      none = λ k. refl;
      owned = h;
      trees = sym (append-nil (map (tree_of start) before));
      more = more-none start;
    }

pub slot-subject : (start now : Bench) (array : Expr) (dimension index : ℤ) (before made : List Expr) → Slotted start now array dimension index before made → OwnsExpr start array → OwnsExpr now array
slot-subject start now array dimension index before made s h = more_owned start now s.more array h

pub slotted-step :
    (start now after : Bench) (array : Expr) (dimension index next : ℤ) (before made longer : List Expr) (slot : Index) →
    Slotted start now array dimension index before made → OwnsExpr start array → index <ℤ dimension → next ≡ index +ℤ pos 1 →
    (slot ≡ next_fixed_index (selector_text index) index now) × (after ≡ with_fixed_index (record { id = array.id }) (selector_text index) index now) →
    longer ≡ made ++ record { id = slot.id } ∷ [] →
    Slotted start after array dimension next before longer
slotted-step start now after array dimension index next before made longer slot s h below is built grown =
    let text : List ℕ = selector_text index in
    let mid : Bench = with_expr (known_literal text index) now in
    let made-tree : ExprTree = IndexTree (tree_of now array) (known_literal text index) in
    let wider : HasMoreNodes now (with_expr made-tree mid) = more-root now mid (ExprRoot made-tree) (more-root now now (ExprRoot (known_literal text index)) (more-none now)) in
    let same : tree_of now array ≡ tree_of start array = more_tree start now s.more array h in
    rw (grown, built.0, built.1) (record {
      low = omega (arith, ints, s.low, is);
      within = λ k. omega (arith, ints, below, is);
      none = λ k. absurd (omega (arith, ints, s.low, below, k));
      owned = All-append (OwnsExpr (with_expr made-tree mid)) made (next_expr mid ∷ []) (all-more now (with_expr made-tree mid) wider made s.owned) (All-cons (OwnsExpr (with_expr made-tree mid)) (next_expr mid) [] (next_owned mid made-tree) (λ k d past. absurd (omega arith)));
      trees = map-append (tree_of (with_expr made-tree mid)) made (next_expr mid ∷ [])
          ∙ rw (more_trees now (with_expr made-tree mid) wider made s.owned, next_tree mid made-tree, s.trees, slots-more index next (tree_of start array) s.low is, same)
          (append_assoc (map (tree_of start) before) (slots index (tree_of start array)) (IndexTree (tree_of start array) (known_literal text index) ∷ []));
      more = more-more start now (with_expr made-tree mid) s.more wider;
    })

-- The slot was made, and there was no memory for its place in the list.
pub slotted-refused :
    (start now after : Bench) (r : Result (Unit {0}) AllocError) (array : Expr) (dimension index at : ℤ) (before made left : List Expr) (trees : List ExprTree) (subject : IndexableExpr) (text : List ℕ) →
    IsErr r → Slotted start now array dimension index before made → after ≡ with_fixed_index subject text at now → AddsTrees start after r before left trees
slotted-refused start now after (Ok x) array dimension index at before made left trees subject text e s grown = absurd cc
slotted-refused start now after (Err x) array dimension index at before made left trees subject text e s grown =
    rw grown (more-root start (with_expr (known_literal text at) now) _ (more-root start now (ExprRoot (known_literal text at)) s.more))

ended : (dimension index : ℤ) (array : ExprTree) → pos 0 ≤ℤ index → (pos 0 ≤ℤ dimension → index ≤ℤ dimension) → (dimension <ℤ pos 0 → index ≡ pos 0) → dimension ≤ℤ index → slots index array ≡ slots dimension array
unfolding slots
ended (pos n) index array low within none past =
    let is : index ≡ pos n = omega (arith, ints, past, within (omega (arith, ints))) in
    rw is refl
ended (negsuc n) index array low within none past = rw (none (omega (arith, ints))) refl

pub slotted-end :
    (start now : Bench) (array : Expr) (dimension index : ℤ) (before made : List Expr) →
    Slotted start now array dimension index before made → dimension ≤ℤ index →
    AddsTrees start now (Ok tt) before made (slots dimension (tree_of start array))
slotted-end start now array dimension index before made s past =
    (s.owned, rw (← ended dimension index (tree_of start array) s.low s.within s.none past) s.trees, s.more)

-- What is made so far: what was there, and what the first i arrays hold.
pub record Leveled (start now : Bench) (dimension : ℤ) (arrays : List Expr) (i : ℕ) (before made : List Expr) : Type 0 where
  pub owned : All (OwnsExpr now) made
  pub trees : map (tree_of now) made ≡ map (tree_of start) before ++ flat_map (slots dimension) (map (tree_of start) (take i arrays))
  pub more : HasMoreNodes start now

pub leveled-start : (start : Bench) (dimension : ℤ) (arrays before : List Expr) → All (OwnsExpr start) before → Leveled start start dimension arrays 0 before before
leveled-start start dimension arrays before h = record { owned = h; trees = sym (append-nil (map (tree_of start) before)); more = more-none start }

pub leveled-step :
    (start now after : Bench) (dimension : ℤ) (arrays : List Expr) (i : ℕ) (array : Expr) (before made longer : List Expr) →
    Leveled start now dimension arrays i before made → All (OwnsExpr start) arrays → i < length arrays → array ≡ get_or arrays i array →
    AddsTrees now after (Ok tt) made longer (slots dimension (tree_of now array)) →
    Leveled start after dimension arrays (i + 1) before longer
leveled-step start now after dimension arrays i array before made longer s h below is added =
    let same : tree_of now array ≡ tree_of start array = more_tree start now s.more array (All-at (OwnsExpr start) arrays i array h below is) in
    let f : ExprTree → List ExprTree = slots dimension in
    let before-trees : List ExprTree = map (tree_of start) before in
    let passed : List Expr = take i arrays in
    let split : flat_map f (map (tree_of start) (passed ++ array ∷ [])) ≡ flat_map f (map (tree_of start) passed) ++ f (tree_of start array) =
    rw (map-append (tree_of start) passed (array ∷ []), flat_map-append f (map (tree_of start) passed) (tree_of start array ∷ []), append-nil (f (tree_of start array))) refl in
    let taken : take (suc i) arrays ≡ passed ++ array ∷ [] = rw (← is) at (take-suc arrays i array below) in
    record {
      owned = added.0;
      trees = added.1 ∙ rw (s.trees, same, add-one, taken, split) (append_assoc before-trees (flat_map f (map (tree_of start) passed)) (f (tree_of start array)));
      more = more-more start now after s.more added.2;
    }

pub leveled-end :
    (start now : Bench) (dimension : ℤ) (arrays : List Expr) (i : ℕ) (before made : List Expr) →
    Leveled start now dimension arrays i before made → length arrays ≤ i →
    AddsTrees start now (Ok tt) before made (flat_map (slots dimension) (map (tree_of start) arrays))
leveled-end start now dimension arrays i before made s past = (s.owned, rw (take_all i arrays past) at s.trees, s.more)

-- What is made so far: the elements within the first i dimensions.
pub record Deepened (start now : Bench) (array : Expr) (dimensions : List ℤ) (i : ℕ) (made : List Expr) : Type 0 where
  pub owned : All (OwnsExpr now) made
  pub trees : map (tree_of now) made ≡ elements (take i dimensions) (tree_of start array)
  pub more : HasMoreNodes start now

pub deepened-start : (start : Bench) (array : Expr) (dimensions : List ℤ) → OwnsExpr start array → Deepened start start array dimensions 0 (array ∷ [])
unfolding elements
deepened-start start array dimensions h = record { owned = All-cons (OwnsExpr start) array [] h (λ k d past. absurd (omega arith)); trees = refl; more = more-none start }

-- A dimension more within others.
pub deeper :
    (start now after : Bench) (array : Expr) (outer : List ℤ) (d : ℤ) (made longer : List Expr) →
    HasMoreNodes start now → map (tree_of now) made ≡ elements outer (tree_of start array) →
    AddsTrees now after (Ok tt) [] longer (flat_map (slots d) (map (tree_of now) made)) →
    All (OwnsExpr after) longer × (map (tree_of after) longer ≡ elements (outer ++ d ∷ []) (tree_of start array)) × HasMoreNodes start after
deeper start now after array outer d made longer more trees added =
    (added.0, added.1 ∙ rw (trees, elements-last outer d (tree_of start array)) refl, more-more start now after more added.2)

pub deepened-step :
    (start now after : Bench) (array : Expr) (dimensions : List ℤ) (i : ℕ) (d read : ℤ) (made longer : List Expr) →
    Deepened start now array dimensions i made → i < length dimensions → d ≡ get_or dimensions i d → read ≡ d →
    AddsTrees now after (Ok tt) [] longer (flat_map (slots read) (map (tree_of now) made)) →
    Deepened start after array dimensions (i + 1) longer
deepened-step start now after array dimensions i d read made longer s below is same added =
    let taken : take (suc i) dimensions ≡ take i dimensions ++ d ∷ [] = rw (← is) at (take-suc dimensions i d below) in
    let made-more = deeper start now after array (take i dimensions) read made longer s.more s.trees added in
    record { owned = made-more.0; trees = rw (add-one, taken, ← same) made-more.1; more = made-more.2 }

-- Where memory was refused.

pub adds_none : (old new : Bench) (r : Result (Unit {0}) AllocError) (before after : List Expr) (added : List ExprTree) → IsErr r → HasMoreNodes old new → AddsTrees old new r before after added
adds_none old new (Ok _) before after added e h = absurd cc
adds_none old new (Err _) before after added e h = h

pub makes_none : (old new : Bench) (r : Result (Vec Expr Global) AllocError) (trees : List ExprTree) → IsErr r → HasMoreNodes old new → MakesTrees old new r trees
makes_none old new (Ok _) trees e h = absurd cc
makes_none old new (Err _) trees e h = h

-- Without dimensions the array itself is its one element.
pub undivided :
    (start : Bench) (array : Expr) (dimensions : List ℤ) (made : List Expr) → length dimensions ≡ 0 → OwnsExpr start array → made ≡ array ∷ [] →
    All (OwnsExpr start) made × (map (tree_of start) made ≡ elements dimensions (tree_of start array)) × HasMoreNodes start start
unfolding elements
undivided start array [] made none h is = rw is (All-cons (OwnsExpr start) array [] h (λ k d past. absurd (omega arith)), refl, more-none start)
undivided start array (d ∷ ds) made none h is = absurd (omega (arith, none))
