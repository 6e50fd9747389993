-- Laws of filing: what a name more in a chain, or in the tree, leaves found.
use Rattle.std.proofs.Common.{◌≡◌, ◌≢◌, ℕ, ◌+◌, ◌-◌, ◌<◌, ◌≤◌, ◌⊎◌, inl, inr, ⊎_elim, Option, Some, None, IsSome, Bool, true, false, cond, List, [], ◌∷◌, ◌++◌, length, get_or, set, refl, sym, ap, ◌∙◌, subst, arith, slice_index, All, slice_get, MatchOption, String, string_bytes, Result, Ok, Err, OnErr}
use Rattle.std.proofs.lemmas.List.{get_or_append_left, get_or_push, get_or-set_same, get_or-set_other, length_push, length-set}
use Rattle.std.proofs.lemmas.List.Elements.{All-get_or, All-from_get_or, All-weaker, All-set}
use Rattle.std.proofs.lemmas.Bool.{cases_eq, cases_lt}
use Rattle.std.proofs.lemmas.Option.{slice_get-get_or}
use Rattle.std.proofs.lemmas.Slice.Eq.{bytes_eq-Decides}
use Rattle.std.specs.declared.alloc.Global.{Global}
use Rattle.std.specs.BTreeMap.{BTreeMap, get_by_text, is_at}
use Rattle.std.specs.Ordering.{nat_cmp}
use Rattle.std.specs.Cmp.Lexicographic.{slice_cmp}
use Rattle.std.specs.Map.{update, lookup}
use Rattle.std.specs.Str.{bytes_eq}
use Rattle.vast_names.specs.Internal.Hash.{slot_among}
use Rattle.vast_names.specs.Internal.Index.{Reaches, here, further, IsSound, IsFound, AreFiled}

-- What a cursor reaches lies there, or beyond its link.
pub reaches-case : (links : List ℕ) (cursor to : ℕ) → Reaches links cursor to → (cursor ≡ to + 1) ⊎ ((0 < cursor) × (cursor ≤ length links) × Reaches links (slice_index links (cursor - 1)) to)
reaches-case links cursor to (here _ _ e) = inl e
reaches-case links cursor to (further _ _ some known rest) = inr (some, known, rest)

pub reaches-none : (links : List ℕ) (cursor to : ℕ) → cursor ≡ 0 → Reaches links cursor to → ⊥
reaches-none links cursor to z (here _ _ e) = omega arith
reaches-none links cursor to z (further _ _ some known rest) = omega arith

-- A link more, after the others.
pub reaches-push : (links : List ℕ) (x cursor to : ℕ) → Reaches links cursor to → Reaches (links ++ x ∷ []) cursor to
reaches-push links x cursor to (here _ _ e) = here cursor to e
reaches-push links x cursor to (further _ _ some known rest) =
    let below : cursor - 1 < length links = omega arith in
    let same : get_or (links ++ x ∷ []) (cursor - 1) 0 ≡ get_or links (cursor - 1) 0 = get_or_append_left links (x ∷ []) 0 (cursor - 1) below in
    further cursor to some (omega (arith, length_push links x)) (rw same (reaches-push links x (slice_index links (cursor - 1)) to rest))

-- A link of an older name more.
push-older : (links : List ℕ) (x : ℕ) → x ≤ length links → ((k : ℕ) → k < length links → slice_index links k ≤ k) → (k : ℕ) → k < length (links ++ x ∷ []) → slice_index (links ++ x ∷ []) k ≤ k
push-older links x h older k l =
    ⊎_elim
    (λ (b : k < length links). rw (get_or_append_left links (x ∷ []) 0 k b) (older k b))
    (λ (b : length links ≤ k). let e : length links ≡ k = omega (arith, length_push links x) in rw (get_or_push links x 0 k e) (omega arith))
    (cases_lt k (length links))

-- A name at a place of the list with a name more.
place-case :
    (names : List (List ℕ)) (name : List ℕ) (k : ℕ) → k < length (names ++ name ∷ []) →
    ((k < length names) × (get_or (names ++ name ∷ []) k [] ≡ get_or names k [])) ⊎ ((k ≡ length names) × (get_or (names ++ name ∷ []) k [] ≡ name))
place-case names name k l =
    ⊎_elim
    (λ (b : k < length names). inl (b, get_or_append_left names (name ∷ []) [] k b))
    (λ (b : length names ≤ k). let e : length names ≡ k = omega (arith, length_push names name) in inr (sym e, get_or_push names name [] k e))
    (cases_lt k (length names))

own-push : (names : List (List ℕ)) (name other : List ℕ) (k : ℕ) → (k < length names) × (get_or names k [] ≡ other) → (k < length (names ++ name ∷ [])) × (get_or (names ++ name ∷ []) k [] ≡ other)
own-push names name other k h = (omega (arith, h.0, length_push names name), get_or_append_left names (name ∷ []) [] k h.0 ∙ h.1)

-- A name more at the head of its slot's chain.
module _ (names : List (List ℕ)) (heads links : List ℕ) (crowded : List ℕ → Option ℕ) (name : List ℕ) (slot : ℕ) (own-slot : slot ≡ slot_among (length heads) name) (within : slot < length heads) (filed : AreFiled names heads links crowded) where
  chain-sound : IsSound (set heads slot (length links + 1)) (links ++ get_or heads slot 0 ∷ [])
  chain-sound =
      let known : get_or heads slot 0 ≤ length links = All-get_or (λ h. h ≤ length links) heads slot 0 within filed.sound.filed in
      let long : length (links ++ get_or heads slot 0 ∷ []) ≡ length links + 1 = length_push links (get_or heads slot 0) in
      record {
        filed = All-set (λ h. h ≤ length (links ++ get_or heads slot 0 ∷ [])) heads slot (length links + 1) (omega arith) (All-weaker (λ h. h ≤ length links) (λ h. h ≤ length (links ++ get_or heads slot 0 ∷ [])) (λ h b. omega arith) heads filed.sound.filed);
        older = push-older links (get_or heads slot 0) known filed.sound.older;
      }

  -- What was reached from a slot's head still is.
  chain-reaches :
      (at k : ℕ) → Reaches links (get_or heads at 0) k →
      Reaches (links ++ get_or heads slot 0 ∷ []) (get_or (set heads slot (length links + 1)) at 0) k
  chain-reaches at k r =
      let long : length (links ++ get_or heads slot 0 ∷ []) ≡ length links + 1 = length_push links (get_or heads slot 0) in
      ⊎_elim
      (λ (e : at ≡ slot).
      let was : Reaches links (get_or heads slot 0) k = subst (λ (a : ℕ). Reaches links (get_or heads a 0) k) e r in
      let link : get_or (links ++ get_or heads slot 0 ∷ []) (length links + 1 - 1) 0 ≡ get_or heads slot 0 = get_or_push links (get_or heads slot 0) 0 (length links + 1 - 1) (omega arith) in
      let beyond : Reaches (links ++ get_or heads slot 0 ∷ []) (get_or (links ++ get_or heads slot 0 ∷ []) (length links + 1 - 1) 0) k = rw link (reaches-push links (get_or heads slot 0) (get_or heads slot 0) k was) in
      rw (e, get_or-set_same heads slot (length links + 1) 0 within)
      (further (length links + 1) k (omega arith) (omega arith) beyond))
      (λ (ne : at ≡ slot → ⊥). rw (get_or-set_other heads slot at (length links + 1) 0 ne) (reaches-push links (get_or heads slot 0) (get_or heads at 0) k r))
      (cases_eq at slot)

  chain-found :
      (k : ℕ) → k < length (names ++ name ∷ []) →
      IsFound (set heads slot (length links + 1)) (links ++ get_or heads slot 0 ∷ []) crowded k (get_or (names ++ name ∷ []) k [])
  chain-found k l =
      ⊎_elim
      (λ (old : (k < length names) × (get_or (names ++ name ∷ []) k [] ≡ get_or names k [])).
      rw (old.1, length-set heads slot (length links + 1))
      (⊎_elim
      (λ (r : Reaches links (slice_index heads (slot_among (length heads) (get_or names k []))) k). inl (chain-reaches (slot_among (length heads) (get_or names k [])) k r))
      (λ (r : IsSome (crowded (get_or names k []))). inr r)
      (filed.found k old.0)))
      (λ (new : (k ≡ length names) × (get_or (names ++ name ∷ []) k [] ≡ name)).
      rw (new.1, length-set heads slot (length links + 1), ← own-slot, get_or-set_same heads slot (length links + 1) 0 within)
      (inl (here (length links + 1) k (omega (arith, new.0, filed.each)))))
      (place-case names name k l)

  pub filed-chain : AreFiled (names ++ name ∷ []) (set heads slot (length links + 1)) (links ++ get_or heads slot 0 ∷ []) crowded
  filed-chain = record {
    each = omega (arith, length_push links (get_or heads slot 0), length_push names name, filed.each);
    sound = chain-sound;
    found = chain-found;
    own = λ other k e. own-push names name other k (filed.own other k e);
  }

-- A name more in the tree.
module _ (names : List (List ℕ)) (heads links : List ℕ) (crowded crowded' : List ℕ → Option ℕ) (name : List ℕ) (updates : (other : List ℕ) → crowded' other ≡ update bytes_eq crowded name (Some (length links)) other) (filed : AreFiled names heads links crowded) where
  tree-sound : IsSound heads (links ++ 0 ∷ [])
  tree-sound =
      let long : length (links ++ 0 ∷ []) ≡ length links + 1 = length_push links 0 in
      record {
        filed = All-weaker (λ h. h ≤ length links) (λ h. h ≤ length (links ++ 0 ∷ [])) (λ h b. omega arith) heads filed.sound.filed;
        older = push-older links 0 (omega arith) filed.sound.older;
      }

  some-kept : (b : Bool) (other : Option ℕ) → IsSome other → IsSome (cond b (Some (length links)) other)
  some-kept true other h = refl
  some-kept false other h = h

  tree-found : (k : ℕ) → k < length (names ++ name ∷ []) → IsFound heads (links ++ 0 ∷ []) crowded' k (get_or (names ++ name ∷ []) k [])
  tree-found k l =
      ⊎_elim
      (λ (old : (k < length names) × (get_or (names ++ name ∷ []) k [] ≡ get_or names k [])).
      rw old.1
      (⊎_elim
      (λ (r : Reaches links (slice_index heads (slot_among (length heads) (get_or names k []))) k). inl (reaches-push links 0 (slice_index heads (slot_among (length heads) (get_or names k []))) k r))
      (λ (r : IsSome (crowded (get_or names k []))). inr (rw (updates (get_or names k [])) (some-kept (bytes_eq name (get_or names k [])) (crowded (get_or names k [])) r)))
      (filed.found k old.0)))
      (λ (new : (k ≡ length names) × (get_or (names ++ name ∷ []) k [] ≡ name)).
      rw new.1 (inr (rw (updates name, (bytes_eq-Decides name name).1 refl) refl)))
      (place-case names name k l)

  tree-own-case :
      (b : Bool) (other : List ℕ) (k : ℕ) → bytes_eq name other ≡ b → cond b (Some (length links)) (crowded other) ≡ Some k →
      (k < length (names ++ name ∷ [])) × (get_or (names ++ name ∷ []) k [] ≡ other)
  tree-own-case true other k e h =
      let at : length links ≡ k = cc in
      let same : name ≡ other = (bytes_eq-Decides name other).0 e in
      (omega (arith, length_push names name, filed.each), get_or_push names name [] k (sym filed.each ∙ at) ∙ same)
  tree-own-case false other k e h = own-push names name other k (filed.own other k h)

  pub filed-tree : AreFiled (names ++ name ∷ []) heads (links ++ 0 ∷ []) crowded'
  filed-tree = record {
    each = omega (arith, length_push links 0, length_push names name, filed.each);
    sound = tree-sound;
    found = tree-found;
    own = λ other k e. tree-own-case (bytes_eq name other) other k refl (sym (updates other) ∙ e);
  }

-- What is looked up.
find-none :
    (names : List (List ℕ)) (heads links : List ℕ) (crowded : List ℕ → Option ℕ) (name : List ℕ) → AreFiled names heads links crowded →
    ((k : ℕ) → Reaches links (slice_index heads (slot_among (length heads) name)) k → k < length names → get_or names k [] ≢ name) → crowded name ≡ None →
    All (λ taken. taken ≢ name) names
find-none names heads links crowded name filed chain tree =
    All-from_get_or (λ taken. taken ≢ name) names []
    (λ k l e.
    ⊎_elim
    (λ (r : Reaches links (slice_index heads (slot_among (length heads) name)) k). chain k r l e)
    (λ (r : IsSome (crowded name)). absurd (let no : IsSome {T = ℕ} None = subst (λ (o : Option ℕ). IsSome o) tree r in cc))
    (subst (λ (n : List ℕ). IsFound heads links crowded k n) e (filed.found k l)))

find-some :
    (names : List (List ℕ)) (heads links : List ℕ) (crowded : List ℕ → Option ℕ) (name : List ℕ) (k : ℕ) → AreFiled names heads links crowded → crowded name ≡ Some k →
    slice_get names k ≡ Some name
find-some names heads links crowded name k filed e =
    let own = filed.own name k e in slice_get-get_or names k [] own.0 ∙ ap Some own.1

pub find-answer :
    (names : List (List ℕ)) (heads links : List ℕ) (crowded : List ℕ → Option ℕ) (name : List ℕ) (r : Option ℕ) → AreFiled names heads links crowded →
    ((k : ℕ) → Reaches links (slice_index heads (slot_among (length heads) name)) k → k < length names → get_or names k [] ≢ name) → r ≡ crowded name →
    MatchOption r (All (λ taken. taken ≢ name) names) (λ k. slice_get names k ≡ Some name)
find-answer names heads links crowded name None filed chain e = find-none names heads links crowded name filed chain (sym e)
find-answer names heads links crowded name (Some k) filed chain e = find-some names heads links crowded name k filed (sym e)

-- What is filed depends on the entries of the tree alone.
pub filed-same :
    (names : List (List ℕ)) (heads links : List ℕ) (old new : BTreeMap (String Global) ℕ) → new.entries ≡ old.entries → AreFiled names heads links (get_by_text old) →
    AreFiled names heads links (get_by_text new)
filed-same names heads links old new e filed =
    subst (λ (entries : List (String Global × ℕ)). AreFiled names heads links (λ bytes. lookup (is_at (λ k. slice_cmp nat_cmp bytes (string_bytes k))) entries)) (sym e) filed

pub on-err : {T E P : Type 0} (r : Result T E) → P → OnErr r P
on-err (Ok x) p = tt
on-err (Err e) p = p
