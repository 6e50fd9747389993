-- A word is a keyword exactly where a binary search in the table of keywords finds it.
use Rattle.std.proofs.Common.{◌≡◌, zero, suc, ℕ, ◌<◌, List, [], ◌∷◌, length, map, get_or, Bool, true, false, not, ◌&&◌, Result, Ok, Err, is_ok, Less, Equal, Greater, Ordering, is_lt, is_eq, nat_cmp, bytes_eq, ⊎_elim, refl, ap, sym, ◌∙◌, arith, add-one}
use Rattle.std.specs.Cmp.Lexicographic.{slice_cmp}
use Rattle.std.specs.List.Sorted.{IsSortedBy, IsSearchInRange, IsBinarySearchResult}
use Rattle.std.proofs.lemmas.Bool.{cases_lt, and_parts, not-true as not_true, or_right}
use Rattle.std.proofs.lemmas.Cmp.{nat_list_cmp_total}
use Rattle.std.proofs.lemmas.List.Sorted.{searchable_from_sorted}
use Rattle.std.proofs.lemmas.Map.Text.{is_eq-slice_cmp}
use Rattle.vast_literal.specs.Keyword.{keywords, is_among, is_keyword}

abbrev is_below : List ℕ → List ℕ → Bool
is_below t u = is_lt (slice_cmp nat_cmp t u)

-- No text is below the one before it.
unfoldable rises_from : List ℕ → List (List ℕ) → Bool
rises_from t [] = true
rises_from t (u ∷ us) = not (is_below u t) && rises_from u us

unfoldable rises : List (List ℕ) → Bool
rises [] = true
rises (t ∷ ts) = rises_from t ts

-- The keywords are in order: by computation.
keywords_rise : rises keywords ≡ true
unfolding keywords rises rises_from
keywords_rise = refl

-- A table of items with texts.
module _ {X : Type 0} (text : X → List ℕ) where
  abbrev IsInOrder : List X → Type 0
  IsInOrder = IsSortedBy (λ t u. is_below (text t) (text u))

  sorted_from : (t : X) (ts : List X) → rises_from (text t) (map text ts) ≡ true → IsInOrder (t ∷ ts)
  unfolding rises_from
  sorted_from t [] h k d low high = absurd (omega arith)
  sorted_from t (u ∷ us) h zero d low high = not_true (is_below (text u) (text t)) (and_parts _ _ h).0
  sorted_from t (u ∷ us) h (suc k) d low high =
      let step = sorted_from u us (and_parts _ _ h).1 k d (omega arith) (omega arith) in
      let moved = rw (add-one k) at step in
      rw (add-one (suc k)) moved

  sorted : (table : List X) → rises (map text table) ≡ true → IsInOrder table
  unfolding rises
  sorted [] h = λ k d low high. absurd (omega arith)
  sorted (t ∷ ts) h = sorted_from t ts h

  among_at : (ts : List X) (word : List ℕ) (i : ℕ) → i < length ts → ((d : X) → bytes_eq (text (get_or ts i d)) word ≡ true) → is_among (map text ts) word ≡ true
  among_at [] word i low h = absurd (omega arith)
  among_at (t ∷ ts) word zero low h = rw (h t) refl
  among_at (t ∷ ts) word (suc i) low h = or_right (bytes_eq (text t) word) _ (among_at ts word i (omega arith) h)

  among_none : (ts : List X) (word : List ℕ) → ((i : ℕ) (d : X) → i < length ts → bytes_eq (text (get_or ts i d)) word ≡ false) → is_among (map text ts) word ≡ false
  among_none [] word h = refl
  among_none (t ∷ ts) word h = rw (h zero t (omega arith)) (among_none ts word (λ i d low. h (suc i) d (omega arith)))

  told : (t : X) (word : List ℕ) (o : Ordering) → slice_cmp nat_cmp (text t) word ≡ o → bytes_eq (text t) word ≡ is_eq o
  told t word o h = sym (is_eq-slice_cmp (text t) word) ∙ ap is_eq h

  -- What a binary search for a word answers in the table of the keywords.
  pub searched :
      (table : List X) (word : List ℕ) (r : Result ℕ ℕ) → map text table ≡ keywords → IsSearchInRange r (length table) →
      IsBinarySearchResult (λ t. slice_cmp nat_cmp (text t) word) table r → is_ok r ≡ is_keyword word
  unfolding is_keyword
  searched table word (Ok i) same low at = sym (among_at table word i low (λ d. told (get_or table i d) word Equal (at d))) ∙ ap (λ (words : List (List ℕ)). is_among words word) same
  searched table word (Err i) same low parted =
      let order = sorted table (ap rises same ∙ keywords_rise) in
      let split = parted (searchable_from_sorted nat_list_cmp_total text table word order) in
      let none = among_none table word (λ k d below. ⊎_elim
      (λ before. told (get_or table k d) word Less (split.0 k d (omega arith) before))
      (λ after. told (get_or table k d) word Greater (split.1 k d after below)) (cases_lt k i)) in
      sym none ∙ ap (λ (words : List (List ℕ)). is_among words word) same
