-- A stack as its reversed items.
use Rattle.std.proofs.Common.{◌≡◌, ◌-◌, List, [], ◌∷◌, ◌++◌, length, Some, None, reverse, refl, sym, ap, ◌∙◌, arith, length-append}
use Rattle.std.specs.List.{slice_get}
use Rattle.std.proofs.lemmas.List.{reverse-append}
use Rattle.vast_rows.specs.Internal.Stack.{below}

pub reversed_more : {A : Type 0} (xs : List A) (x : A) → reverse (xs ++ x ∷ []) ≡ (x ∷ reverse xs)
reversed_more xs x = reverse-append xs (x ∷ [])

pub ruleset pushes = (reversed_more)

pub ruleset pops = (reversed_more)

split_last : {A : Type 0} (x : A) (xs : List A) → (ys : List A) × (y : A) × ((x ∷ xs) ≡ (ys ++ y ∷ []))
split_last x [] = ([], x, refl)
split_last x (z ∷ zs) = let s = split_last z zs in (x ∷ s.0, s.1, ap (λ v. x ∷ v) s.2)

get_last : {A : Type 0} (ys : List A) (y : A) → slice_get (ys ++ y ∷ []) (length ys) ≡ Some y
get_last [] y = refl
get_last (x ∷ ys) y = get_last ys y

pub top_none : {A : Type 0} (xs : List A) → None ≡ slice_get xs (length xs - 1) → reverse xs ≡ []
top_none [] e = refl
top_none (x ∷ xs) e = let s = split_last x xs in let n : length (s.0 ++ s.1 ∷ []) - 1 ≡ length s.0 = rw (length-append s.0 (s.1 ∷ [])) (omega arith) in
    let f : None ≡ slice_get (s.0 ++ s.1 ∷ []) (length (s.0 ++ s.1 ∷ []) - 1) = rw (← s.2) e in
    let g : None ≡ Some s.1 = f ∙ (rw n (get_last s.0 s.1)) in absurd (cc)

shape : {A : Type 0} (zs ys : List A) (y : A) → zs ≡ (y ∷ ys) → zs ≡ (y ∷ below zs)
shape zs ys y e = rw e refl

pub top_some : {A : Type 0} (xs : List A) (y : A) → Some y ≡ slice_get xs (length xs - 1) → reverse xs ≡ (y ∷ below (reverse xs))
top_some [] y e = absurd (cc)
top_some (x ∷ xs) y e = let s = split_last x xs in let n : length (s.0 ++ s.1 ∷ []) - 1 ≡ length s.0 = rw (length-append s.0 (s.1 ∷ [])) (omega arith) in
    let f : Some y ≡ slice_get (s.0 ++ s.1 ∷ []) (length (s.0 ++ s.1 ∷ []) - 1) = rw (← s.2) e in
    let g : Some y ≡ Some s.1 = f ∙ (rw n (get_last s.0 s.1)) in let h : y ≡ s.1 = cc in
    shape (reverse (x ∷ xs)) (reverse s.0) y (ap reverse s.2 ∙ (reversed_more s.0 s.1 ∙ ap (λ v. v ∷ reverse s.0) (sym h)))

pub ruleset tops = (top_none, top_some)
