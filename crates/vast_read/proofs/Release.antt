-- Rounds of a list whose last item is taken out.
use Rattle.std.proofs.Common.{◌≡◌, ◌+◌, ◌<◌, ◌≤◌, List, [], ◌∷◌, ◌++◌, Option, Some, None, MatchOption, length, map, arith, ap, ◌∙◌, subst, sym}
use Rattle.std.specs.Prelude.{⊤}
use Rattle.vast_read.specs.declared.tree.expression.NormalExpr.{NormalExpr}
use Rattle.vast_read.specs.declared.tree.expression.NormalExpr.TheVariants.{Concat, Replicated, rolls-Concat, rolls-Replicated}
use Rattle.vast_read.specs.declared.tree.expression.NormalExpr.TheFolds.{fold-roll-NormalExpr}
use Rattle.vast_read.specs.declared.tree.expression.NormalExpr.TheOpen.{NormalExpr-F}
use Rattle.vast_read.specs.Internal.Release.{Rounds, rounds_each, rounds_first_last, left_with, rounds, rounds_level, rounds_beside, rounds_alone, list_beside, list_alone}

-- Of a list with one more at its end.
pub each_last : {A : Type 0} (f : A → Rounds) (xs : List A) (x : A) → rounds_each (map f (xs ++ x ∷ [])) ≡ rounds_each (map f xs) + (f x).0 + 1
each_last f [] x = omega arith
each_last f (y ∷ ys) x = let e = each_last f ys x in omega (arith, e)

pub first_last_last : {A : Type 0} (f : A → Rounds) (xs : List A) (x : A) → 0 < length xs → rounds_first_last (map f (xs ++ x ∷ [])) ≡ rounds_first_last (map f xs) + (f x).0 + 1
first_last_last f [] x h = omega (arith, h)
first_last_last f (y ∷ ys) x h = let e = each_last f ys x in omega (arith, e)

item_left : {A : Type 0} (f : A → Rounds) (all : List A) (last : A) (o : Option (List A)) → MatchOption o (all ≡ last ∷ []) (λ before. (0 < length before) × (all ≡ before ++ last ∷ [])) → left_with f last o < rounds_first_last (map f all)
item_left f all last None d = rw d (omega arith)
item_left f all last (Some before) d =
    let e = first_last_last f before last d.0 in
    subst (λ y. left_with f last (Some before) < rounds_first_last (map f y)) (sym d.1) (omega (arith, e))

-- What is left once the last item is taken out.
pub item_taken : {A : Type 0} (f : A → Rounds) (all : List A) (r : Option (A × Option (List A))) → MatchOption r (all ≡ []) (λ p. MatchOption p.1 (all ≡ p.0 ∷ []) (λ before. (0 < length before) × (all ≡ before ++ p.0 ∷ []))) → MatchOption r ⊤ (λ p. left_with f p.0 p.1 < rounds_first_last (map f all))
item_taken f all None d = tt
item_taken f all (Some p) d = item_left f all p.0 p.1 d

-- What is answered of a list whose last part is taken out.
abbrev pub Split : List NormalExpr → NormalExpr → Option (List NormalExpr) → Type 0
Split all last o = MatchOption o (all ≡ last ∷ []) (λ before. (0 < length before) × (all ≡ before ++ last ∷ []))

rounds_concat : (xs : List NormalExpr) → rounds_alone (Concat xs) ≡ list_alone xs + 1
rounds_concat xs = ap (λ p. p.1) (ap rounds (sym (rolls-Concat xs)) ∙ fold-roll-NormalExpr Rounds rounds_level (NormalExpr-F.Concat xs))

rounds_replicated : (x : _) (xs : List NormalExpr) → rounds_alone (Replicated x xs) ≡ rounds_alone x.value + list_beside xs + 2
rounds_replicated x xs = ap (λ p. p.1) (ap rounds (sym (rolls-Replicated x xs)) ∙ fold-roll-NormalExpr Rounds rounds_level (NormalExpr-F.Replicated x xs))

pub list_left : (all before : List NormalExpr) (o : Option (List NormalExpr)) (last : NormalExpr) → o ≡ Some before → Split all last o → rounds_beside last + rounds_alone (Concat before) ≤ list_alone all
list_left all before o last h d =
    let s : Split all last (Some before) = subst (Split all last) h d in
    let e = first_last_last rounds before last s.0 in
    let k = rounds_concat before in
    subst (λ y. rounds_beside last + rounds_alone (Concat before) ≤ list_alone y) (sym s.1) (omega (arith, e, k))

pub counted_left : (x : _) (all before : List NormalExpr) (o : Option (List NormalExpr)) (last : NormalExpr) → o ≡ Some before → Split all last o → rounds_beside last + rounds_alone (Replicated x before) < rounds_alone x.value + list_beside all + 2
counted_left x all before o last h d =
    let s : Split all last (Some before) = subst (Split all last) h d in
    let e = each_last rounds before last in
    let k = rounds_replicated x before in
    subst (λ y. rounds_beside last + rounds_alone (Replicated x before) < rounds_alone x.value + list_beside y + 2) (sym s.1) (omega (arith, e, k))
