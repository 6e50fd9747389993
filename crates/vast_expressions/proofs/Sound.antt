-- What runs is derived: each row, and then whole runs.
use Rattle.std.proofs.Common.{◌≡◌, ℕ, zero, suc, ◌≤◌, ◌<◌, ◌⊎◌, inl, inr, true, false, nat_eq, nat_lt, List, [], ◌∷◌, ◌++◌, refl, sym, subst, ap, arith, append_assoc, append-nil, IsTrue, eqb-true, ltb-true, ltb-false}
use Rattle.vast_literal.specs.Tokens.{level, is_unary, Token, Reserved, Word, SystemWord, MacroWord, Number, Based, Quoted, Operator, Mark}
use Rattle.vast_literal.proofs.Levels.{level_small, lower}
use Rattle.vast_expressions.specs.Signs.{Op, Punct, OpenParen, CloseParen, OpenBracket, CloseBracket, OpenBrace, CloseBrace, Comma, Colon, Semicolon, Dot, Hash, At, Question, DoubleColon, PlusColon, Assign, Apostrophe}
use Rattle.vast_literal.specs.NormalExpr.{NormalExpr, Name, Literal, Text, MacroAlone, Unary, Binary, Ternary, Index, Slice, PartSelect, MemberOf, Concat, Pattern, Replicated, Call, MacroCall, Cast, PackageCast, WordCast, NoNormals, MoreNormals}
use Rattle.vast_literal.specs.Grammar.{is_cast_word, Spells, up, ternary, binary, unary, index, slice, part_select, member_of, name, number, based, quoted, paren, call, system_alone, system_call, concat, replicated, array_pattern, macro_alone, macro_call, number_cast, name_cast, package_cast, paren_cast, word_cast, none, some, last, next}
use Rattle.vast_expressions.specs.Events.{UnaryT, BinaryT, TernaryT, NoneT, OneT, ConcatT, CallT, MacroCallT, PackageCastT, WordCastT, Event, WordE, Made, trace}
use Rattle.vast_expressions.specs.Rows.{Item, Take, Emit, Expression, Target, Rest, Right, Operand, Selects, SelectEnd, MemberName, Primary, MaybeCast, TypeName, Arguments, More, Braces, BraceNext, Goes, Tells, only_if, code, take_row, operand_row, rest_row, right_row, selects_row, select_end_row, member_name_row, word_row, system_row, macro_row, primary_row, maybe_cast_row, type_name_row, arguments_row, more_row, braces_row, brace_next_row, row, Runs, done, goes, tells}
use Rattle.vast_expressions.proofs.Meaning.{Extends, IsHead, Lists, Joins, Below, Climbs, Means, MeansAll, RowMeans, only_if_means, or_else_means, below_all, stays}

-- a mark back from its number
unmark : ℕ → Punct
unmark zero = OpenParen
unmark (suc zero) = CloseParen
unmark (suc (suc zero)) = OpenBracket
unmark (suc (suc (suc zero))) = CloseBracket
unmark (suc (suc (suc (suc zero)))) = OpenBrace
unmark (suc (suc (suc (suc (suc zero))))) = CloseBrace
unmark (suc (suc (suc (suc (suc (suc zero)))))) = Comma
unmark (suc (suc (suc (suc (suc (suc (suc zero))))))) = Colon
unmark (suc (suc (suc (suc (suc (suc (suc (suc zero)))))))) = Semicolon
unmark (suc (suc (suc (suc (suc (suc (suc (suc (suc zero))))))))) = Dot
unmark (suc (suc (suc (suc (suc (suc (suc (suc (suc (suc zero)))))))))) = Hash
unmark (suc (suc (suc (suc (suc (suc (suc (suc (suc (suc (suc zero))))))))))) = At
unmark (suc (suc (suc (suc (suc (suc (suc (suc (suc (suc (suc (suc zero)))))))))))) = Question
unmark (suc (suc (suc (suc (suc (suc (suc (suc (suc (suc (suc (suc (suc zero))))))))))))) = DoubleColon
unmark (suc (suc (suc (suc (suc (suc (suc (suc (suc (suc (suc (suc (suc (suc zero)))))))))))))) = PlusColon
unmark (suc (suc (suc (suc (suc (suc (suc (suc (suc (suc (suc (suc (suc (suc (suc zero))))))))))))))) = Assign
unmark _ = Apostrophe

unmark-code : (q : Punct) → unmark (code q) ≡ q
unfolding unmark code
unmark-code OpenParen = refl
unmark-code _ = refl

same_mark : (p q : Punct) → nat_eq (code p) (code q) ≡ true → p ≡ q
same_mark p q e = let d : code p ≡ code q = eqb-true (code p) (code q) e in
    let a = unmark-code p in let b = unmark-code q in let c : unmark (code p) ≡ unmark (code q) = ap unmark d in cc (a, b, c)

-- each row

take_sound : (q : Punct) (ts us : List Token) (es fs : List Event) → RowMeans (take_row q ts) es us fs → (ts ≡ (Mark q ∷ us)) × (es ≡ fs)
unfolding take_row
take_sound q (Mark p ∷ ts) us es fs m = let h = only_if_means (nat_eq (code p) (code q)) (Goes [] ts) es fs us m in
    let c : p ≡ q = same_mark p q h.0 in let d = h.1.0 in (cc (c, d), h.1.1)
take_sound q [] us es fs m = absurd m
take_sound q _ us es fs m = absurd m

expression_sound : (ts us : List Token) (es fs : List Event) → MeansAll (Operand ∷ Rest ∷ []) ts es us fs → Extends 0 [] ts es us fs
expression_sound ts us es fs (vs, ds, x, (ws, gs, f, (p, q))) =
    let y = f 12 x.front x.tree (omega arith) (omega arith) x.spelled (below_all vs) in
    let a = x.whole in let b = y.whole in let c = x.told in let d = y.told in
    record { front = x.front ++ y.front; tree = y.tree; whole = simp append_assoc (cc (a, b, p)); told = cc (c, d, q); spelled = y.spelled }

target_sound : (ts us : List Token) (es fs : List Event) → MeansAll (Primary ∷ Selects ∷ []) ts es us fs → Extends 13 [] ts es us fs
target_sound ts us es fs (vs, ds, x, (ws, gs, f, (p, q))) =
    let y = f x.front x.tree (up (omega arith) x.spelled) in
    let a = x.whole in let b = y.whole in let c = x.told in let d = y.told in
    record { front = x.front ++ y.front; tree = y.tree; whole = simp append_assoc (cc (a, b, p)); told = cc (c, d, q); spelled = y.spelled }

operand_sound : (ts us : List Token) (es fs : List Event) → RowMeans (operand_row ts) es us fs → Extends 12 [] ts es us fs
unfolding operand_row trace
operand_sound (Operator o ∷ ts) us es fs m = go (only_if_means (is_unary o) (Goes (Operand ∷ Emit (UnaryT o) ∷ []) ts) es fs us m)
  where
    go : IsTrue (is_unary o) × MeansAll (Operand ∷ Emit (UnaryT o) ∷ []) ts es us fs → Extends 12 [] (Operator o ∷ ts) es us fs
    go (u, (vs, ds, x, (ws, gs, (p, q), (r, s)))) =
        let a = x.whole in let b = x.told in
        record { front = Operator o ∷ x.front; tree = Unary o x.tree; whole = cc (a, p, r); told = cc (b, q, s); spelled = unary o u x.spelled }
operand_sound ts us es fs m = let x = target_sound ts us es fs m in record { front = x.front; tree = x.tree; whole = x.whole; told = x.told; spelled = up (omega arith) x.spelled }

-- An operator and its right side, after a left side.
record Sided (o : Op) (head : List Token) (l : NormalExpr) (ts : List Token) (es : List Event) (us : List Token) (fs : List Event) : Type 0 where
  front : List Token
  right : NormalExpr
  whole : ts ≡ (front ++ us)
  told : trace l es ≡ trace (Binary o l right) fs
  spelled : Spells (level o) (head ++ (Operator o ∷ front)) (Binary o l right)
  below : Below (level o) us

sided : (o : Op) (m : ℕ) (head : List Token) (l : NormalExpr) (ts vs us : List Token) (es ds fs : List Event) → 0 < level o → level o ≤ m → m ≤ 12 → Spells m head l →
    Means Operand ts es vs ds → Means (Right o) vs ds us fs → Sided o head l ts es us fs
unfolding trace
sided o m head l ts vs us es ds fs pos om small h x f =
    let o_small = level_small o in
    let y = f 12 x.front x.tree (omega arith) (omega arith) x.spelled (below_all vs) in
    let a = x.whole in let b = y.whole.whole in let c = x.told in let d = y.whole.told in
    record {
      front = x.front ++ y.whole.front;
      right = y.whole.tree;
      whole = simp append_assoc (cc (a, b));
      told = cc (c, d);
      spelled = binary o pos (lower m (level o) head l om (omega arith) h) y.whole.spelled;
      below = y.below;
    }

choice_sound : (ts us : List Token) (es fs : List Event) (head : List Token) (l : NormalExpr) → Spells 1 head l → MeansAll (Expression ∷ Take Colon ∷ Expression ∷ Emit TernaryT ∷ []) ts es us fs →
    Extends 0 head (Mark Question ∷ ts) (trace l es) us fs
unfolding trace
choice_sound ts us es fs head l h (vs, ds, x, (ws, gs, (p, q), (xs, hs, y, (ys, is, (r, s), (t, u))))) =
    let a = x.whole in let b = y.whole in let c = x.told in let d = y.told in
    record {
      front = Mark Question ∷ (x.front ++ (Mark Colon ∷ y.front));
      tree = Ternary l x.tree y.tree;
      whole = simp append_assoc (cc (a, b, p, r, t));
      told = cc (c, d, q, s, u);
      spelled = ternary h x.spelled y.spelled;
    }

rest_sound : (ts us : List Token) (es fs : List Event) → RowMeans (rest_row ts) es us fs → Means Rest ts es us fs
unfolding rest_row
rest_sound (Operator o ∷ ts) us es fs t m head l pos small h low = go (or_else_means (nat_lt 0 (level o)) (Goes (Operand ∷ Right o ∷ Rest ∷ []) ts) (Goes [] (Operator o ∷ ts)) es fs us t)
  where
    go : ((nat_lt 0 (level o) ≡ true) × MeansAll (Operand ∷ Right o ∷ Rest ∷ []) ts es us fs) ⊎ ((nat_lt 0 (level o) ≡ false) × MeansAll [] (Operator o ∷ ts) es us fs) →
        Extends 0 head (Operator o ∷ ts) (trace l es) us fs
    go (inl (b, (vs, ds, x, (ws, gs, f, (xs, hs, g, (p, q)))))) = let o_small = level_small o in
        let s = sided o m head l ts vs ws es ds gs (ltb-true 0 (level o) b) low small h x f in
        let z = g (level o) (head ++ (Operator o ∷ s.front)) (Binary o l s.right) (ltb-true 0 (level o) b) (omega arith) s.spelled s.below in
        let a = s.whole in let c = z.whole in let d = s.told in let e = z.told in
        record { front = Operator o ∷ (s.front ++ z.front); tree = z.tree; whole = simp append_assoc (cc (a, c, p)); told = cc (d, e, q); spelled = simp append_assoc at z.spelled }
    go (inr (b, (p, q))) = stays 0 head _ us es fs l p q (lower m 0 head l (omega arith) (omega arith) h)
rest_sound (Mark Question ∷ ts) us es fs t m head l pos small h low = choice_sound ts us es fs head l (lower m 1 head l pos (omega arith) h) t
rest_sound ts us es fs (p, q) m head l pos small h low = stays 0 head _ us es fs l p q (lower m 0 head l (omega arith) (omega arith) h)

right_sound : (w : Op) (ts us : List Token) (es fs : List Event) → RowMeans (right_row w ts) es us fs → Means (Right w) ts es us fs
unfolding right_row
right_sound w (Operator o ∷ ts) us es fs t m head l wm small h low =
    go (or_else_means (nat_lt (level w) (level o)) (Goes (Operand ∷ Right o ∷ Right w ∷ []) ts) (Tells (Made (BinaryT w)) [] (Operator o ∷ ts)) es fs us t)
  where
    go : ((nat_lt (level w) (level o) ≡ true) × MeansAll (Operand ∷ Right o ∷ Right w ∷ []) ts es us fs) ⊎ ((nat_lt (level w) (level o) ≡ false) × RowMeans (Tells (Made (BinaryT w)) [] (Operator o ∷ ts)) es us fs) →
        Climbs (level w) head (Operator o ∷ ts) (trace l es) us (Made (BinaryT w) ∷ fs)
    go (inl (b, (vs, ds, x, (ws, gs, f, (xs, hs, g, (p, q)))))) = let o_small = level_small o in
        let wo : level w < level o = ltb-true (level w) (level o) b in
        let s = sided o m head l ts vs ws es ds gs (omega arith) low small h x f in
        let z = g (level o) (head ++ (Operator o ∷ s.front)) (Binary o l s.right) wo (omega arith) s.spelled s.below in
        let a = s.whole in let c = z.whole.whole in let d = s.told in let e = z.whole.told in
        record {
          whole = record {
            front = Operator o ∷ (s.front ++ z.whole.front);
            tree = z.whole.tree;
            whole = simp append_assoc (cc (a, c, p));
            told = cc (d, e, q);
            spelled = simp append_assoc at z.whole.spelled;
          };
          below = subst (λ v. Below (level w) v) p z.below;
        }
    go (inr (b, (ds, e, (p, q)))) = let c = ltb-false (level w) (level o) b in
        record { whole = stays (suc (level w)) head _ us es (Made (BinaryT w) ∷ fs) l p (cc (e, q)) (lower m (suc (level w)) head l wm (omega arith) h); below = subst (λ v. Below (level w) v) p (omega arith) }
right_sound w ts us es fs (ds, e, (p, q)) m head l wm small h low =
    record { whole = stays (suc (level w)) head _ us es (Made (BinaryT w) ∷ fs) l p (cc (e, q)) (lower m (suc (level w)) head l wm (omega arith) h); below = subst (λ v. Below (level w) v) p tt }

selects_sound : (ts us : List Token) (es fs : List Event) → RowMeans (selects_row ts) es us fs → Means Selects ts es us fs
unfolding selects_row
selects_sound (Mark OpenBracket ∷ ts) us es fs (vs, ds, x, (ws, gs, f, (p, q))) head s h =
    let y = f head x.front s x.tree h x.spelled in
    let a = x.whole in let b = y.whole in let c = x.told in let d = y.told in
    record { front = Mark OpenBracket ∷ (x.front ++ y.front); tree = y.tree; whole = simp append_assoc (cc (a, b, p)); told = cc (c, d, q); spelled = simp append_assoc at y.spelled }
selects_sound (Mark Dot ∷ ts) us es fs (vs, ds, f, (p, q)) head s h =
    let y = f head s h in
    let b = y.whole in let d = y.told in
    record { front = Mark Dot ∷ y.front; tree = y.tree; whole = cc (b, p); told = cc (d, q); spelled = simp append_assoc at y.spelled }
selects_sound ts us es fs m head s h = stays 13 head ts us es fs s m.0 m.1 h

select_end_sound : (ts us : List Token) (es fs : List Event) → RowMeans (select_end_row ts) es us fs → Means SelectEnd ts es us fs
unfolding select_end_row trace
select_end_sound (Mark CloseBracket ∷ ts) us es fs (vs, ds, (p, q), (ws, gs, f, (r, t))) head is s i hs hi =
    let y = f (head ++ (Mark OpenBracket ∷ (is ++ (Mark CloseBracket ∷ [])))) (Index s i) (index hs hi) in
    let b = y.whole in let d = y.told in
    record { front = Mark CloseBracket ∷ y.front; tree = y.tree; whole = cc (b, p, r); told = cc (d, q, t); spelled = simp append_assoc (simp append_assoc at y.spelled) }
select_end_sound (Mark Colon ∷ ts) us es fs (vs, ds, x, (ws, gs, (p, q), (xs, ks, (r, t), (ys, ls, f, (u, v))))) head is s i hs hi =
    let y = f (head ++ (Mark OpenBracket ∷ (is ++ (Mark Colon ∷ (x.front ++ (Mark CloseBracket ∷ [])))))) (Slice s i x.tree) (slice hs hi x.spelled) in
    let a = x.whole in let b = y.whole in let c = x.told in let d = y.told in
    record {
      front = Mark Colon ∷ (x.front ++ (Mark CloseBracket ∷ y.front));
      tree = y.tree;
      whole = simp append_assoc (cc (a, b, p, r, u));
      told = cc (c, d, q, t, v);
      spelled = simp append_assoc (simp append_assoc at y.spelled);
    }
select_end_sound (Mark PlusColon ∷ (Number n ∷ ts)) us es fs (cs, o, (vs, ds, (p, q), (ws, gs, f, (r, t)))) head is s i hs hi =
    let y = f (head ++ (Mark OpenBracket ∷ (is ++ (Mark PlusColon ∷ (Number n ∷ (Mark CloseBracket ∷ [])))))) (PartSelect s i n) (part_select n hs hi) in
    let b = y.whole in let d = y.told in
    record {
      front = Mark PlusColon ∷ (Number n ∷ (Mark CloseBracket ∷ y.front));
      tree = y.tree;
      whole = cc (b, p, r);
      told = cc (d, o, q, t);
      spelled = simp append_assoc (simp append_assoc at y.spelled);
    }
select_end_sound [] us es fs m head is s i hs hi = absurd m
select_end_sound (Mark PlusColon ∷ []) us es fs m head is s i hs hi = absurd m
select_end_sound (Mark PlusColon ∷ (t ∷ ts)) us es fs m head is s i hs hi = absurd m
select_end_sound _ us es fs m head is s i hs hi = absurd m

member_name_sound : (ts us : List Token) (es fs : List Event) → RowMeans (member_name_row ts) es us fs → Means MemberName ts es us fs
unfolding member_name_row trace
member_name_sound (Word w ∷ ts) us es fs (cs, o, (vs, ds, f, (p, q))) head s h =
    let y = f (head ++ (Mark Dot ∷ (Word w ∷ []))) (MemberOf s w) (member_of w h) in
    let b = y.whole in let d = y.told in
    record { front = Word w ∷ y.front; tree = y.tree; whole = cc (b, p); told = cc (d, o, q); spelled = simp append_assoc (simp append_assoc at y.spelled) }
member_name_sound [] us es fs m head s h = absurd m
member_name_sound _ us es fs m head s h = absurd m

-- one token is a primary expression
token_sound : (t : Token) (x : NormalExpr) (ts us : List Token) (es ds fs : List Event) → Spells 14 (t ∷ []) x → es ≡ trace x ds → MeansAll [] ts ds us fs → Extends 14 [] (t ∷ ts) es us fs
token_sound t x ts us es ds fs h e (p, q) = record { front = t ∷ []; tree = x; whole = cc p; told = cc (e, q); spelled = h }

-- a head, and perhaps what makes a cast of it
head_sound : (head : List Token) (h : NormalExpr) (ts us : List Token) (es ds fs : List Event) → IsHead head h → es ≡ trace h ds → MeansAll (MaybeCast ∷ []) ts ds us fs → Extends 14 [] (head ++ ts) es us fs
head_sound head h ts us es ds fs i e (vs, gs, f, (p, q)) =
    let x = f head h i in let a = x.whole in let b = x.told in
    record { front = head ++ x.front; tree = x.tree; whole = simp append_assoc (cc (a, p)); told = cc (e, b, q); spelled = x.spelled }

maybe_cast_sound : (ts us : List Token) (es fs : List Event) → RowMeans (maybe_cast_row ts) es us fs → Means MaybeCast ts es us fs
unfolding maybe_cast_row trace
maybe_cast_sound (Mark Apostrophe ∷ ts) us es fs (vs, ds, (p, q), (ws, gs, x, (xs, hs, (r, s), (ys, is, (t, u), (v, w))))) head h i =
    let a = x.whole in let c = x.told in
    record {
      front = Mark Apostrophe ∷ (Mark OpenParen ∷ (x.front ++ (Mark CloseParen ∷ [])));
      tree = Cast h x.tree;
      whole = simp append_assoc (cc (a, p, r, t, v));
      told = cc (c, q, s, u, w);
      spelled = i.cast x.front x.tree x.spelled;
    }
maybe_cast_sound ts us es fs m head h i = stays 14 head ts us es fs h m.0 m.1 i.plain

type_name_sound : (ts us : List Token) (es fs : List Event) → RowMeans (type_name_row ts) es us fs → (w : List ℕ) × (ts ≡ (Word w ∷ us)) × (es ≡ (WordE w ∷ fs))
unfolding type_name_row
type_name_sound (Word w ∷ ts) us es fs (ds, e, (p, q)) = (w, cc p, cc (e, q))
type_name_sound [] us es fs m = absurd m
type_name_sound _ us es fs m = absurd m

items_sound : (q : Punct) (ts us : List Token) (es fs : List Event) → MeansAll (Expression ∷ Emit OneT ∷ More q ∷ []) ts es us fs → Lists q ts es us fs
unfolding trace
items_sound q ts us es fs (vs, ds, x, (ws, gs, (p, r), (xs, hs, m, (s, t)))) =
    let a = x.whole in let b = m.whole in let c = x.told in let d = m.told in
    record { front = x.front ++ m.front; trees = MoreNormals x.tree m.trees; whole = simp append_assoc (cc (a, b, p, s)); told = cc (c, d, r, t); spelled = some (m.spelled x.front x.tree x.spelled) }

arguments_sound : (q : Punct) (ts us : List Token) (es fs : List Event) → RowMeans (arguments_row q ts) es us fs → Lists q ts es us fs
unfolding arguments_row trace
arguments_sound q (Mark p ∷ ts) us es fs m = go (or_else_means (nat_eq (code p) (code q)) (Tells (Made NoneT) [] ts) (Goes (Expression ∷ Emit OneT ∷ More q ∷ []) (Mark p ∷ ts)) es fs us m)
  where
    go : ((nat_eq (code p) (code q) ≡ true) × RowMeans (Tells (Made NoneT) [] ts) es us fs) ⊎ ((nat_eq (code p) (code q) ≡ false) × RowMeans (Goes (Expression ∷ Emit OneT ∷ More q ∷ []) (Mark p ∷ ts)) es us fs) → Lists q (Mark p ∷ ts) es us fs
    go (inl (b, (ds, e, (r, s)))) = let c : p ≡ q = same_mark p q b in record { front = []; trees = NoNormals; whole = cc (c, r); told = cc (e, s); spelled = none }
    go (inr (b, m)) = items_sound q (Mark p ∷ ts) us es fs m
arguments_sound q ts us es fs m = items_sound q ts us es fs m

closed : (q p : Punct) (ts us : List Token) (es fs : List Event) → RowMeans (only_if (nat_eq (code p) (code q)) (Goes [] ts)) es us fs → Joins q (Mark p ∷ ts) es us fs
unfolding trace
closed q p ts us es fs m = let h = only_if_means (nat_eq (code p) (code q)) (Goes [] ts) es fs us m in let c : p ≡ q = same_mark p q h.0 in let r = h.1.0 in
    record { front = []; trees = NoNormals; whole = cc (c, r); told = h.1.1; spelled = λ head x e. simp append-nil (last e) }

more_sound : (q : Punct) (ts us : List Token) (es fs : List Event) → RowMeans (more_row q ts) es us fs → Joins q ts es us fs
unfolding more_row trace
more_sound q (Mark Comma ∷ ts) us es fs (vs, ds, x, (ws, gs, (p, r), (xs, hs, m, (s, t)))) =
    let a = x.whole in let b = m.whole in let c = x.told in let d = m.told in
    record {
      front = Mark Comma ∷ (x.front ++ m.front);
      trees = MoreNormals x.tree m.trees;
      whole = simp append_assoc (cc (a, b, p, s));
      told = cc (c, d, r, t);
      spelled = λ head y e. next e (m.spelled x.front x.tree x.spelled);
    }
more_sound q (Mark p ∷ ts) us es fs m = closed q p ts us es fs m
more_sound q [] us es fs m = absurd m
more_sound q _ us es fs m = absurd m

braces_sound : (ts us : List Token) (es fs : List Event) → RowMeans (braces_row ts) es us fs → Extends 14 (Mark OpenBrace ∷ []) ts es us fs
unfolding braces_row trace
braces_sound (Mark CloseBrace ∷ ts) us es fs (ds, e, (vs, gs, (p, q), (r, s))) =
    record { front = Mark CloseBrace ∷ []; tree = Concat NoNormals; whole = cc (p, r); told = cc (e, q, s); spelled = concat none }
braces_sound ts us es fs m = go ts m
  where
    go : (ts : List Token) → MeansAll (Expression ∷ BraceNext ∷ []) ts es us fs → Extends 14 (Mark OpenBrace ∷ []) ts es us fs
    go ts (vs, ds, x, (ws, gs, f, (p, q))) = let y = f x.front x.tree x.spelled in let a = x.whole in let b = y.whole in let c = x.told in let d = y.told in
        record { front = x.front ++ y.front; tree = y.tree; whole = simp append_assoc (cc (a, b, p)); told = cc (c, d, q); spelled = y.spelled }

concat_sound : (ts us : List Token) (es fs : List Event) → MeansAll (Emit OneT ∷ More CloseBrace ∷ Emit ConcatT ∷ []) ts es us fs → Means BraceNext ts es us fs
unfolding trace
concat_sound ts us es fs (vs, ds, (p, q), (ws, gs, m, (xs, hs, (r, s), (t, u)))) head x e =
    let a = m.whole in let b = m.told in
    record {
      front = m.front ++ (Mark CloseBrace ∷ []);
      tree = Concat (MoreNormals x m.trees);
      whole = simp append_assoc (cc (a, p, r, t));
      told = cc (b, q, s, u);
      spelled = simp append_assoc at (concat (some (m.spelled head x e)));
    }

brace_next_sound : (ts us : List Token) (es fs : List Event) → RowMeans (brace_next_row ts) es us fs → Means BraceNext ts es us fs
unfolding brace_next_row trace
brace_next_sound (Mark OpenBrace ∷ ts) us es fs (vs, ds, l, (ws, gs, (p, q), (xs, hs, (r, s), (t, u)))) head x e =
    let a = l.whole in let b = l.told in
    record {
      front = Mark OpenBrace ∷ (l.front ++ (Mark CloseBrace ∷ (Mark CloseBrace ∷ [])));
      tree = Replicated x l.trees;
      whole = simp append_assoc (cc (a, p, r, t));
      told = cc (b, q, s, u);
      spelled = replicated e l.spelled;
    }
brace_next_sound ts us es fs m head x e = concat_sound ts us es fs m head x e

call_sound : (w : List ℕ) (ts us : List Token) (es ds fs : List Event) → es ≡ (WordE w ∷ ds) → MeansAll (Arguments CloseParen ∷ Emit CallT ∷ []) ts ds us fs → Extends 14 [] (Word w ∷ (Mark OpenParen ∷ ts)) es us fs
unfolding trace
call_sound w ts us es ds fs e (vs, gs, l, (xs, hs, (p, q), (r, s))) =
    let a = l.whole in let b = l.told in
    record { front = Word w ∷ (Mark OpenParen ∷ (l.front ++ (Mark CloseParen ∷ []))); tree = Call w l.trees; whole = simp append_assoc (cc (a, p, r)); told = cc (e, b, q, s); spelled = call w l.spelled }

package_sound : (w : List ℕ) (ts us : List Token) (es ds fs : List Event) → es ≡ (WordE w ∷ ds) →
    MeansAll (TypeName ∷ Take Apostrophe ∷ Take OpenParen ∷ Expression ∷ Take CloseParen ∷ Emit PackageCastT ∷ []) ts ds us fs → Extends 14 [] (Word w ∷ (Mark DoubleColon ∷ ts)) es us fs
unfolding trace
package_sound w ts us es ds fs e (t0, e0, (v, n, m), (t1, e1, (p1, q1), (t2, e2, (p2, q2), (t3, e3, x, (t4, e4, (p4, q4), (t5, e5, (p5, q5), (p6, q6))))))) =
    let a = x.whole in let b = x.told in
    record {
      front = Word w ∷ (Mark DoubleColon ∷ (Word v ∷ (Mark Apostrophe ∷ (Mark OpenParen ∷ (x.front ++ (Mark CloseParen ∷ []))))));
      tree = PackageCast w v x.tree;
      whole = simp append_assoc (cc (a, n, p1, p2, p4, p5, p6));
      told = cc (e, b, m, q1, q2, q4, q5, q6);
      spelled = package_cast w v x.spelled;
    }

word_sound : (w : List ℕ) (ts us : List Token) (es fs : List Event) → RowMeans (word_row w ts) es us fs → Extends 14 [] (Word w ∷ ts) es us fs
unfolding word_row trace
word_sound w (Mark OpenParen ∷ ts) us es fs m = call_sound w ts us es m.0 fs m.1 m.2
word_sound w (Mark DoubleColon ∷ ts) us es fs m = package_sound w ts us es m.0 fs m.1 m.2
word_sound w ts us es fs m = head_sound (Word w ∷ []) (Name w) ts us es m.0 fs (record { plain = name w; cast = λ xs x e. name_cast w e }) m.1 m.2

macro_sound : (w : List ℕ) (ts us : List Token) (es fs : List Event) → RowMeans (macro_row w ts) es us fs → Extends 14 [] (MacroWord w ∷ ts) es us fs
unfolding macro_row trace
macro_sound w (Mark OpenParen ∷ ts) us es fs (ds, e, m) = go m
  where
    go : MeansAll (Arguments CloseParen ∷ Emit MacroCallT ∷ []) ts ds us fs → Extends 14 [] (MacroWord w ∷ (Mark OpenParen ∷ ts)) es us fs
    go (vs, gs, l, (xs, hs, (p, q), (r, s))) = let a = l.whole in let b = l.told in
        record { front = MacroWord w ∷ (Mark OpenParen ∷ (l.front ++ (Mark CloseParen ∷ []))); tree = MacroCall w l.trees; whole = simp append_assoc (cc (a, p, r)); told = cc (e, b, q, s); spelled = macro_call w l.spelled }
macro_sound w ts us es fs m = token_sound (MacroWord w) (MacroAlone w) ts us es m.0 fs (macro_alone w) m.1 m.2

system_sound : (w : List ℕ) (ts us : List Token) (es fs : List Event) → RowMeans (system_row w ts) es us fs → Extends 14 [] (SystemWord w ∷ ts) es us fs
unfolding system_row trace
system_sound w (Mark OpenParen ∷ ts) us es fs (ds, e, m) = go m
  where
    go : MeansAll (Arguments CloseParen ∷ Emit CallT ∷ []) ts ds us fs → Extends 14 [] (SystemWord w ∷ (Mark OpenParen ∷ ts)) es us fs
    go (vs, gs, l, (xs, hs, (p, q), (r, s))) = let a = l.whole in let b = l.told in
        record { front = SystemWord w ∷ (Mark OpenParen ∷ (l.front ++ (Mark CloseParen ∷ []))); tree = Call w l.trees; whole = simp append_assoc (cc (a, p, r)); told = cc (e, b, q, s); spelled = system_call w l.spelled }
system_sound w ts us es fs (ds, e, (vs, gs, (n, m), (xs, hs, (p, q), (r, s)))) =
    record { front = SystemWord w ∷ []; tree = Call w NoNormals; whole = cc (n, p, r); told = cc (e, m, q, s); spelled = system_alone w }

primary_sound : (ts us : List Token) (es fs : List Event) → RowMeans (primary_row ts) es us fs → Extends 14 [] ts es us fs
unfolding primary_row trace
primary_sound (Word w ∷ ts) us es fs m = word_sound w ts us es fs m
primary_sound (SystemWord w ∷ ts) us es fs m = system_sound w ts us es fs m
primary_sound (MacroWord w ∷ ts) us es fs m = macro_sound w ts us es fs m
primary_sound (Reserved k ∷ ts) us es fs m = go (only_if_means (is_cast_word k) (Goes (Take Apostrophe ∷ Take OpenParen ∷ Expression ∷ Take CloseParen ∷ Emit (WordCastT k) ∷ []) ts) es fs us m)
  where
    go : IsTrue (is_cast_word k) × MeansAll (Take Apostrophe ∷ Take OpenParen ∷ Expression ∷ Take CloseParen ∷ Emit (WordCastT k) ∷ []) ts es us fs → Extends 14 [] (Reserved k ∷ ts) es us fs
    go (c, (t1, e1, (p1, q1), (t2, e2, (p2, q2), (t3, e3, x, (t4, e4, (p4, q4), (t5, e5, (p5, q5), (p6, q6))))))) =
        let a = x.whole in let b = x.told in
        record {
          front = Reserved k ∷ (Mark Apostrophe ∷ (Mark OpenParen ∷ (x.front ++ (Mark CloseParen ∷ []))));
          tree = WordCast k x.tree;
          whole = simp append_assoc (cc (a, p1, p2, p4, p5, p6));
          told = cc (b, q1, q2, q4, q5, q6);
          spelled = word_cast k c x.spelled;
        }
primary_sound (Number w ∷ ts) us es fs (ds, e, m) = head_sound (Number w ∷ []) (Literal w) ts us es ds fs (record { plain = number w; cast = λ xs x e. number_cast w e }) e m
primary_sound (Based w ∷ ts) us es fs (ds, e, m) = token_sound (Based w) (Literal w) ts us es ds fs (based w) e m
primary_sound (Quoted w ∷ ts) us es fs (ds, e, m) = token_sound (Quoted w) (Text w) ts us es ds fs (quoted w) e m
primary_sound (Mark OpenParen ∷ ts) us es fs (vs, ds, x, (ws, gs, (p, q), (xs, hs, f, (r, s)))) =
    let y = f (Mark OpenParen ∷ (x.front ++ (Mark CloseParen ∷ []))) x.tree (record { plain = paren x.spelled; cast = λ zs z e. simp append_assoc (paren_cast x.spelled e) }) in
    let a = x.whole in let b = y.whole in let c = x.told in let d = y.told in
    record {
      front = Mark OpenParen ∷ (x.front ++ (Mark CloseParen ∷ y.front));
      tree = y.tree;
      whole = simp append_assoc (cc (a, b, p, r));
      told = cc (c, d, q, s);
      spelled = simp append_assoc at y.spelled;
    }
primary_sound (Mark Apostrophe ∷ ts) us es fs (ws, ks, (t, u), (vs, gs, l, (xs, hs, (p, q), (r, s)))) =
    let a = l.whole in let b = l.told in
    record { front = Mark Apostrophe ∷ (Mark OpenBrace ∷ (l.front ++ (Mark CloseBrace ∷ []))); tree = Pattern l.trees; whole = simp append_assoc (cc (a, p, r, t)); told = cc (b, q, s, u); spelled = array_pattern l.spelled }
primary_sound (Mark OpenBrace ∷ ts) us es fs (vs, ds, x, (p, q)) =
    let a = x.whole in let b = x.told in
    record { front = Mark OpenBrace ∷ x.front; tree = x.tree; whole = cc (a, p); told = cc (b, q); spelled = x.spelled }
primary_sound [] us es fs m = absurd m
primary_sound _ us es fs m = absurd m

row_sound : (i : Item) (ts us : List Token) (es fs : List Event) → RowMeans (row i ts) es us fs → Means i ts es us fs
row_sound (Take q) ts us es fs m = take_sound q ts us es fs m
row_sound (Emit t) ts us es fs (ds, e, (p, q)) = (p, cc (e, q))
row_sound Expression ts us es fs m = expression_sound ts us es fs m
row_sound Target ts us es fs m = target_sound ts us es fs m
row_sound Rest ts us es fs m = rest_sound ts us es fs m
row_sound (Right p) ts us es fs m = right_sound p ts us es fs m
row_sound Operand ts us es fs m = operand_sound ts us es fs m
row_sound Selects ts us es fs m = selects_sound ts us es fs m
row_sound SelectEnd ts us es fs m = select_end_sound ts us es fs m
row_sound MemberName ts us es fs m = member_name_sound ts us es fs m
row_sound Primary ts us es fs m = primary_sound ts us es fs m
row_sound MaybeCast ts us es fs m = maybe_cast_sound ts us es fs m
row_sound TypeName ts us es fs m = type_name_sound ts us es fs m
row_sound (Arguments q) ts us es fs m = arguments_sound q ts us es fs m
row_sound (More q) ts us es fs m = more_sound q ts us es fs m
row_sound Braces ts us es fs m = braces_sound ts us es fs m
row_sound BraceNext ts us es fs m = brace_next_sound ts us es fs m

-- What runs means what its items mean.
pub means : {is : List Item} {ts us : List Token} {es fs : List Event} → Runs is ts es us fs → MeansAll is ts es us fs
means done = (refl, refl)
means (goes {i = i} {ts = ts} {us = us} {es = es} {fs = fs} e r k) =
    (us, fs, row_sound i ts us es fs (subst (λ w. RowMeans w es us fs) (sym e) (means r)), means k)
means (tells {i = i} {ts = ts} {us = us} {e = x} {es = es} {fs = fs} e r k) =
    (us, fs, row_sound i ts us (x ∷ es) fs (subst (λ w. RowMeans w (x ∷ es) us fs) (sym e) (es, refl, means r)), means k)
