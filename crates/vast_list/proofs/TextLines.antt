-- Texts that begin or end with lines.
use Rattle.std.proofs.Common.{◌≡◌, ℕ, ◌<◌, ◌≤◌, ◌+◌, ◌-◌, ◌⊎◌, inl, inr, List, [], ◌∷◌, ◌++◌, true, Option, Some, None, IfSome, length, take, drop, get_or, All, arith, sym, ap, subst, ◌∙◌, nat_eq, refl}
use Rattle.std.specs.Option.{unwrap_or}
use Rattle.std.specs.Iterator.{Drains}
use Rattle.std.specs.Vec.Iter.{into_iter_items, into_iter_len, into_iter_steps}
use Rattle.std.specs.declared.vec.IntoIter.{IntoIter}
use Rattle.std.proofs.lemmas.Iterator.{items_from_drains}
use Rattle.std.proofs.lemmas.Iterator.Adapters.{YieldsList-from_vec}
use Rattle.std.proofs.lemmas.List.Elements.{All-append, All-cons, All-nil}
use Rattle.std.specs.Cmp.Lexicographic.{pointwise}
use Rattle.std.proofs.lemmas.Bool.Decides.{Decides-eqb}
use Rattle.std.proofs.lemmas.Slice.Eq.{slice_eq-Decides}
use Rattle.std.proofs.lemmas.List.{append-nil, append_assoc, drop-drop, map-id, take-append-drop, take_more, drop_more}
use Rattle.std.proofs.lemmas.Grind.{flat_map-append}
use Rattle.vast_list.specs.declared.origins.TextLine.{TextLine}
use Rattle.vast_list.specs.Origins.{text_of}
use Rattle.vast_list.specs.Internal.Origins.{ComesFrom, Follows, IsOriginIn}

same : (xs bytes : List ℕ) → pointwise nat_eq xs bytes ≡ true → xs ≡ bytes
same xs bytes h = (slice_eq-Decides Decides-eqb xs bytes true (sym h)).0 refl

-- What stands after a prefix that was stripped.
begins : (bytes rest more : List ℕ) → pointwise nat_eq (take (length bytes) rest) bytes ≡ true → more ≡ drop (length bytes) rest → rest ≡ bytes ++ more
begins bytes rest more h m =
    sym (take-append-drop (length bytes) rest)
    ∙ ap (λ (xs : List ℕ). xs ++ drop (length bytes) rest) (same (take (length bytes) rest) bytes h)
    ∙ ap (λ (ys : List ℕ). bytes ++ ys) (sym m)

-- What stands before a suffix that was stripped.
ends : (bytes rest before : List ℕ) → pointwise nat_eq (drop (length rest - length bytes) rest) bytes ≡ true → before ≡ take (length rest - length bytes) rest → rest ≡ before ++ bytes
ends bytes rest before h m =
    sym (take-append-drop (length rest - length bytes) rest)
    ∙ ap (λ (xs : List ℕ). take (length rest - length bytes) rest ++ xs) (same (drop (length rest - length bytes) rest) bytes h)
    ∙ ap (λ (ys : List ℕ). ys ++ bytes) (sym m)

text_of_one : (line : TextLine) → text_of (line ∷ []) ≡ line.bytes.items
text_of_one line = append-nil line.bytes.items

text_of_more : (lines : List TextLine) (line : TextLine) → text_of (lines ++ line ∷ []) ≡ text_of lines ++ line.bytes.items
text_of_more lines line =
    flat_map-append (λ (l : TextLine). l.bytes.items) lines (line ∷ []) ∙ ap (λ (xs : List ℕ). text_of lines ++ xs) (text_of_one line)

taken : (lines : List TextLine) (place : ℕ) (line : TextLine) → place < length lines → line ≡ get_or lines place line → text_of (take (place + 1) lines) ≡ text_of (take place lines) ++ line.bytes.items
taken lines place line b i =
    ap (λ (ls : List TextLine). text_of ls) (take_more lines place line b ∙ ap (λ (l : TextLine). take place lines ++ l ∷ []) (sym i))
    ∙ text_of_more (take place lines) line

dropped : (lines : List TextLine) (place : ℕ) (line : TextLine) → place < length lines → line ≡ get_or lines place line → text_of (drop place lines) ≡ line.bytes.items ++ text_of (drop (place + 1) lines)
dropped lines place line b i =
    ap (λ (ls : List TextLine). text_of ls) (drop_more lines place line b ∙ ap (λ (l : TextLine). l ∷ drop (place + 1) lines) (sym i))

-- The text begins with one line more.
pub more_begin : (lines : List TextLine) (text rest more bytes : List ℕ) (place : ℕ) (line : TextLine) → place < length lines → line ≡ get_or lines place line → bytes ≡ line.bytes.items → text ≡ text_of (take place lines) ++ rest → pointwise nat_eq (take (length bytes) rest) bytes ≡ true → more ≡ drop (length bytes) rest → text ≡ text_of (take (place + 1) lines) ++ more
more_begin lines text rest more bytes place line b i e t h m =
    t
    ∙ ap (λ (r : List ℕ). text_of (take place lines) ++ r) (begins bytes rest more h m ∙ ap (λ (bs : List ℕ). bs ++ more) e)
    ∙ sym (append_assoc (text_of (take place lines)) line.bytes.items more)
    ∙ ap (λ (xs : List ℕ). xs ++ more) (sym (taken lines place line b i))

-- The text ends with one line more.
pub more_end : (lines : List TextLine) (text rest before bytes : List ℕ) (place next : ℕ) (line : TextLine) → next ≡ place + 1 → place < length lines → line ≡ get_or lines place line → bytes ≡ (get_or lines place line).bytes.items → text ≡ rest ++ text_of (drop next lines) → pointwise nat_eq (drop (length rest - length bytes) rest) bytes ≡ true → before ≡ take (length rest - length bytes) rest → text ≡ before ++ text_of (drop place lines)
more_end lines text rest before bytes place next line n b i e t h m =
    let e2 : bytes ≡ line.bytes.items = e ∙ ap (λ (l : TextLine). l.bytes.items) (sym i) in
    t
    ∙ ap (λ (k : ℕ). rest ++ text_of (drop k lines)) n
    ∙ ap (λ (r : List ℕ). r ++ text_of (drop (place + 1) lines)) (ends bytes rest before h m ∙ ap (λ (bs : List ℕ). before ++ bs) e2)
    ∙ append_assoc before line.bytes.items (text_of (drop (place + 1) lines))
    ∙ ap (λ (xs : List ℕ). before ++ xs) (sym (dropped lines place line b i))

-- The first of a single line.
pub only_origin : (lines : List TextLine) (line : TextLine) (place : ℕ) → place < length lines → line ≡ get_or lines place line → IsOriginIn lines line.origin
only_origin lines line place b i = (place, line, b, sym i, refl)

pub origin_or : (call : ℕ) (kept : List TextLine) (found : Option ℕ) (origin : ℕ) → IfSome found (λ o. IsOriginIn kept o) → origin ≡ unwrap_or found call → (origin ≡ call) ⊎ IsOriginIn kept origin
origin_or call kept None origin h e = inl e
origin_or call kept (Some o) origin h e = inr (subst (λ (x : ℕ). IsOriginIn kept x) (sym e) h)

-- One line more is made.
pub more_made : (call : ℕ) (kept made new : List TextLine) (text rest line more : List ℕ) (l : TextLine) → (text ≡ text_of made ++ rest) × All (ComesFrom call kept) made → rest ≡ line ++ more → new ≡ made ++ l ∷ [] → l.bytes.items ≡ line → ComesFrom call kept l → (text ≡ text_of new ++ more) × All (ComesFrom call kept) new
more_made call kept made new text rest line more l (t, all) w n b from = (
  t
      ∙ ap (λ (r : List ℕ). text_of made ++ r) (w ∙ ap (λ (bs : List ℕ). bs ++ more) (sym b))
      ∙ sym (append_assoc (text_of made) l.bytes.items more)
      ∙ ap (λ (xs : List ℕ). xs ++ more) (sym (text_of_more made l) ∙ ap (λ (ls : List TextLine). text_of ls) (sym n)),
  subst (λ (ls : List TextLine). All (ComesFrom call kept) ls) (sym n)
      (All-append (ComesFrom call kept) made (l ∷ []) all (All-cons (ComesFrom call kept) l [] from (All-nil (ComesFrom call kept)))),
)

-- What a vector's iterator gave.
pub all_came : {A Z : Type 0} (made : List A) (s : IntoIter A Z) (xs : List A) → into_iter_items s ≡ made → into_iter_len s ≡ length made → Drains (into_iter_steps {X = A} {Z = Z}) s xs → xs ≡ made
all_came made s xs i l (u, (t, y, e)) = sym (map-id xs) ∙ items_from_drains xs (t, y, λ _. (u, e)) (YieldsList-from_vec made i l)

pub parts : (old : List TextLine) (begin end : ℕ) → begin ≤ end → old ≡ take begin old ++ (take (end - begin) (drop begin old) ++ drop end old)
parts old begin end b =
    sym (take-append-drop begin old)
    ∙ ap (λ (xs : List TextLine). take begin old ++ xs)
    (sym (take-append-drop (end - begin) (drop begin old))
    ∙ ap (λ (xs : List TextLine). take (end - begin) (drop begin old) ++ xs) (drop-drop (end - begin) begin old ∙ ap (λ (k : ℕ). drop k old) (omega (arith, b))))

-- The whole text, of which a middle is new; d and e are the old lines.
pub whole_text : (old new made d e : List TextLine) (begin end : ℕ) (text rest middle : List ℕ) → d ≡ old → e ≡ old → text ≡ text_of (take begin d) ++ rest → rest ≡ middle ++ text_of (drop end e) → text_of made ≡ middle → new ≡ take begin old ++ (made ++ drop end old) → text_of new ≡ text
whole_text old new made d e begin end text rest middle p q t r m n =
    ap (λ (ls : List TextLine). text_of ls) n
    ∙ flat_map-append (λ (l : TextLine). l.bytes.items) (take begin old) (made ++ drop end old)
    ∙ ap (λ (xs : List ℕ). text_of (take begin old) ++ xs)
    (flat_map-append (λ (l : TextLine). l.bytes.items) made (drop end old)
    ∙ ap (λ (xs : List ℕ). xs ++ text_of (drop end old)) m
    ∙ ap (λ (ls : List TextLine). middle ++ text_of (drop end ls)) (sym q)
    ∙ sym r)
    ∙ ap (λ (ls : List TextLine). text_of (take begin ls) ++ rest) (sym p)
    ∙ sym t

pub follows : (call : ℕ) (old new made d kept : List TextLine) (begin end : ℕ) → d ≡ old → begin ≤ end → kept ≡ take (end - begin) (drop begin d) → All (ComesFrom call kept) made → new ≡ take begin old ++ (made ++ drop end old) → Follows call old new
follows call old new made d kept begin end p b k all n = (
  take begin old,
  kept,
  made,
  drop end old,
  parts old begin end b ∙ ap (λ (ks : List TextLine). take begin old ++ (ks ++ drop end old)) (ap (λ (ls : List TextLine). take (end - begin) (drop begin ls)) (sym p) ∙ sym k),
  n,
  all,
)
