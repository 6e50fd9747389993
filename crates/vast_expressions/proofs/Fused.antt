-- Rows in one lead where the rows lead.
use Rattle.std.proofs.Common.{◌≡◌, ◌∙◌, ℕ, suc, ◌+◌, ◌≤◌, List, [], ◌∷◌, ◌++◌, Bool, true, false, nat_eq, nat_lt, refl, sym, subst, arith}
use Rattle.vast_literal.specs.Tokens.{level, Token, Word, MacroWord, Number, Based, Quoted, Operator, Mark}
use Rattle.vast_expressions.specs.Signs.{Op, Punct, OpenParen, OpenBracket, CloseBracket, OpenBrace, CloseBrace, Comma, Colon, Dot, Question, DoubleColon, Apostrophe}
use Rattle.vast_expressions.specs.Events.{BinaryT, TernaryT, IndexT, SliceT, NoneT, OneT, PushT, Event, NameE, LiteralE, TextE, MacroE, MemberOfE, Made}
use Rattle.vast_expressions.specs.Rows.{Item, Take, Emit, Expression, Target, Rest, Right, Operand, Selects, SelectEnd, MemberName, Primary, MaybeCast, Arguments, More, Braces, BraceNext, Row, Stuck, Goes, Tells, row, code, only_if, or_else, operand_row, rest_row, right_row, selects_row, select_end_row, member_name_row, primary_row, word_row, macro_row, maybe_cast_row, arguments_row, more_row, braces_row, brace_next_row, Runs, goes, tells}
use Rattle.vast_expressions.specs.Internal.Steps.{onto}
use Rattle.vast_expressions.specs.Internal.Fused.{ends, selects_front, cast_front, name_front, macro_front, target_front, operand_front, expression_front, rest_front, right_front, select_end_front, member_name_front, arguments_front, more_front, braces_front, brace_next_front, front}
use Rattle.vast_expressions.proofs.Midway.{load, work}
use Rattle.vast_expressions.specs.Phrases.{Quiet}
use Rattle.vast_expressions.proofs.Determined.{then, parted, moved}
use Rattle.vast_expressions.proofs.Less.{IsLess, less, load_both}
use Rattle.vast_expressions.proofs.Moves.{quieter, plain_word, no_cast, no_selects, no_rest}

-- a run whose first item has this row
pub went : {i : Item} {k is : List Item} {ts rs us : List Token} {es fs : List Event} → row i ts ≡ Goes is rs → Runs (i ∷ k) ts es us fs → Runs (is ++ k) rs es us fs
went {is = is} {rs = rs} e (goes {rs = rs'} {is = is'} d r s) = let same : Goes is' rs' ≡ Goes is rs = sym d ∙ e in then (moved (cc same) (cc same) r) s
went e (tells d r s) = absurd (cc (e, d))

pub told : {i : Item} {k is : List Item} {ts rs us : List Token} {e : Event} {es fs : List Event} → row i ts ≡ Tells e is rs → Runs (i ∷ k) ts es us fs → (ds : List Event) × (es ≡ (e ∷ ds)) × Runs (is ++ k) rs ds us fs
told e (goes d r s) = absurd (cc (e, d))
told {is = is} {rs = rs} {e = x} e (tells {rs = rs'} {e = y} {es = ds} {is = is'} d r s) = let same : Tells y is' rs' ≡ Tells x is rs = sym d ∙ e in
    let head : y ≡ x = cc same in (ds, cc head, then (moved (cc same) (cc same) r) s)

pub no_run : {i : Item} {k : List Item} {ts us : List Token} {es fs : List Event} → row i ts ≡ Stuck → Runs (i ∷ k) ts es us fs → ⊥
no_run e (goes d r s) = absurd (cc (e, d))
no_run e (tells d r s) = absurd (cc (e, d))

-- By so many rows the items become these, with these tokens left, and these events are told.
pub data Leads : ℕ → List Item → List Token → List Event → List Item → List Token → Type 0 where
  still : {is : List Item} {ts : List Token} → Leads 0 is ts [] is ts
  by : {n : ℕ} {i : Item} {is js k : List Item} {ts rs us : List Token} {es : List Event} → row i ts ≡ Goes is rs → Leads n (is ++ k) rs es js us → Leads (suc n) (i ∷ k) ts es js us
  telling : {n : ℕ} {i : Item} {is js k : List Item} {ts rs us : List Token} {e : Event} {es : List Event} → row i ts ≡ Tells e is rs → Leads n (is ++ k) rs es js us → Leads (suc n) (i ∷ k) ts (e ∷ es) js us

pub led_to : {n : ℕ} {is js : List Item} {ts us vs : List Token} {es ds fs : List Event} → Leads n is ts es js us → Runs js us ds vs fs → Runs is ts (es ++ ds) vs fs
led_to still r = r
led_to (by {is = is} {k = k} e l) r = let x = parted is k (led_to l r) in goes e x.front x.behind
led_to (telling {is = is} {k = k} e l) r = let x = parted is k (led_to l r) in tells e x.front x.behind

pub led_from : {n : ℕ} {is js : List Item} {ts us vs : List Token} {es ds fs : List Event} → Leads n is ts es js us → Runs is ts ds vs fs → (cs : List Event) × (ds ≡ es ++ cs) × Runs js us cs vs fs
led_from {ds = ds} still r = (ds, refl, r)
led_from (by e l) r = led_from l (went e r)
led_from (telling e l) r = let z = told e r in let x = led_from l z.2 in let p = z.1 in let q = x.1 in (x.0, cc (p, q), x.2)

-- each row lessens the work
pub shorter : {n : ℕ} {is js : List Item} {ts us : List Token} {es : List Event} → Leads n is ts es js us → n + work js us ≤ work is ts
unfolding work load
shorter still = omega arith
shorter {js = js} {us = us} (by {n = n} {i = i} {is = is} {k = k} {ts = ts} {rs = rs} e l) = let h = subst (λ w. IsLess w (work (i ∷ []) ts)) e (less i ts) in let b = load_both is k in let t = shorter l in omega arith
shorter {js = js} {us = us} (telling {n = n} {i = i} {is = is} {k = k} {ts = ts} {rs = rs} e l) = let h = subst (λ w. IsLess w (work (i ∷ []) ts)) e (less i ts) in let b = load_both is k in let t = shorter l in omega arith

-- one more row
one_more : {n : ℕ} {i : Item} {is js k : List Item} {ts us rs : List Token} {es : List Event} → Leads n is ts es (i ∷ k) us → row i us ≡ Goes js rs → Leads (suc n) is ts es (js ++ k) rs
one_more still e = by e still
one_more (by d l) e = by d (one_more l e)
one_more (telling d l) e = telling d (one_more l e)

-- The items become what this row says, by one row or more.
abbrev pub Fuses : List Item → List Token → Row → Type 0
Fuses is ts Stuck = (es fs : List Event) (us : List Token) → Runs is ts es us fs → ⊥
Fuses is ts (Goes js us) = (n : ℕ) × Leads (suc n) is ts [] js us
Fuses is ts (Tells e js us) = (n : ℕ) × Leads (suc n) is ts (e ∷ []) js us

by_row : (i : Item) (ts : List Token) (k : List Item) (w : Row) → row i ts ≡ w → Fuses (i ∷ k) ts (onto w k)
by_row i ts k Stuck e = λ es fs us r. no_run e r
by_row i ts k (Goes is rs) e = (0, by e still)
by_row i ts k (Tells x is rs) e = (0, telling e still)

on : (i : Item) (ts : List Token) (k is : List Item) (rs : List Token) (w : Row) → row i ts ≡ Goes is rs → Fuses (is ++ k) rs w → Fuses (i ∷ k) ts w
on i ts k is rs Stuck e f = λ es fs us r. f es fs us (went e r)
on i ts k is rs (Goes js us) e f = (suc f.0, by e f.1)
on i ts k is rs (Tells x js us) e f = (suc f.0, by e f.1)

-- where a test decides
either : (b : Bool) (is : List Item) (ts : List Token) (v w : Row) → (b ≡ true → Fuses is ts v) → (b ≡ false → Fuses is ts w) → Fuses is ts (or_else b v w)
either true is ts v w f g = f refl
either false is ts v w f g = g refl

if_on : (b : Bool) (i : Item) (ts : List Token) (k is : List Item) (rs : List Token) (v w : Row) → row i ts ≡ or_else b (Goes is rs) v → Fuses (is ++ k) rs w → Fuses (i ∷ k) ts (or_else b w (onto v k))
if_on true i ts k is rs v w e f = on i ts k is rs w e f
if_on false i ts k is rs v w e f = by_row i ts k v e

else_on : (b : Bool) (i : Item) (ts : List Token) (k is : List Item) (rs : List Token) (v w : Row) → row i ts ≡ or_else b v (Goes is rs) → Fuses (is ++ k) rs w → Fuses (i ∷ k) ts (or_else b (onto v k) w)
else_on true i ts k is rs v w e f = by_row i ts k v e
else_on false i ts k is rs v w e f = on i ts k is rs w e f

only : (b : Bool) (i : Item) (ts : List Token) (k : List Item) (rs : List Token) → row i ts ≡ only_if b (Goes [] rs) → Fuses (i ∷ k) ts (only_if b (Goes k rs))
only true i ts k rs e = by_row i ts k (Goes [] rs) e
only false i ts k rs e = by_row i ts k Stuck e

-- what comes after a primary expression that was told
selects_told : (e : Event) (is : List Item) (ts us : List Token) (k : List Item) (n : ℕ) → Leads n is ts (e ∷ []) (Selects ∷ k) us → Fuses is ts (selects_front (Tells e) us k)
unfolding selects_front selects_row
selects_told e is ts (Mark OpenBracket ∷ us) k n l = (n, one_more l refl)
selects_told e is ts (Mark Dot ∷ us) k n l = (n, one_more l refl)
selects_told e is ts us k n l = (n, one_more l refl)

cast_told : (e : Event) (is : List Item) (ts us : List Token) (k : List Item) (n : ℕ) → Leads n is ts (e ∷ []) (MaybeCast ∷ (Selects ∷ k)) us → Fuses is ts (cast_front (Tells e) us k)
unfolding cast_front maybe_cast_row selects_row
cast_told e is ts (Mark Apostrophe ∷ us) k n l = (n, one_more l refl)
cast_told e is ts (Mark OpenBracket ∷ us) k n l = (suc n, one_more (one_more l refl) refl)
cast_told e is ts (Mark Dot ∷ us) k n l = (suc n, one_more (one_more l refl) refl)
cast_told e is ts us k n l = (suc n, one_more (one_more l refl) refl)

selects_fuse : (ts : List Token) (k : List Item) → Fuses (Selects ∷ k) ts (selects_front Goes ts k)
unfolding selects_front selects_row
selects_fuse (Mark OpenBracket ∷ ts) k = (0, by refl still)
selects_fuse (Mark Dot ∷ ts) k = (0, by refl still)
selects_fuse ts k = (0, by refl still)

name_fuses : (w : List ℕ) (ts : List Token) (k : List Item) → Fuses (Primary ∷ (Selects ∷ k)) (Word w ∷ ts) (name_front w ts k)
unfolding name_front primary_row word_row
name_fuses w (Mark OpenParen ∷ ts) k = (0, telling refl still)
name_fuses w (Mark DoubleColon ∷ ts) k = (0, telling refl still)
name_fuses w ts k = cast_told (NameE w) (Primary ∷ (Selects ∷ k)) (Word w ∷ ts) ts k 1 (telling refl still)

macro_fuses : (w : List ℕ) (ts : List Token) (k : List Item) → Fuses (Primary ∷ (Selects ∷ k)) (MacroWord w ∷ ts) (macro_front w ts k)
unfolding macro_front primary_row macro_row
macro_fuses w (Mark OpenParen ∷ ts) k = (0, telling refl still)
macro_fuses w ts k = selects_told (MacroE w) (Primary ∷ (Selects ∷ k)) (MacroWord w ∷ ts) ts k 1 (telling refl still)

primary_fuses : (ts : List Token) (k : List Item) → Fuses (Primary ∷ (Selects ∷ k)) ts (target_front ts k)
unfolding target_front primary_row
primary_fuses (Word w ∷ ts) k = name_fuses w ts k
primary_fuses (MacroWord w ∷ ts) k = macro_fuses w ts k
primary_fuses (Number w ∷ ts) k = cast_told (LiteralE w) (Primary ∷ (Selects ∷ k)) (Number w ∷ ts) ts k 1 (telling refl still)
primary_fuses (Based w ∷ ts) k = selects_told (LiteralE w) (Primary ∷ (Selects ∷ k)) (Based w ∷ ts) ts k 1 (telling refl still)
primary_fuses (Quoted w ∷ ts) k = selects_told (TextE w) (Primary ∷ (Selects ∷ k)) (Quoted w ∷ ts) ts k 1 (telling refl still)
primary_fuses ts k = by_row Primary ts (Selects ∷ k) (primary_row ts) refl

operand_fuses : (ts : List Token) (k : List Item) → Fuses (Operand ∷ k) ts (operand_front ts k)
unfolding operand_front operand_row
operand_fuses (Operator o ∷ ts) k = by_row Operand (Operator o ∷ ts) k (operand_row (Operator o ∷ ts)) refl
operand_fuses ts k = on Operand ts k (Primary ∷ (Selects ∷ [])) ts (target_front ts k) refl (primary_fuses ts k)

-- an expression that is a name or a literal alone
ends_quiet : (ts : List Token) → ends ts ≡ true → Quiet 0 ts
unfolding ends
ends_quiet (Operator o ∷ ts) h = absurd (cc h)
ends_quiet (Mark OpenParen ∷ ts) h = absurd (cc h)
ends_quiet (Mark OpenBracket ∷ ts) h = absurd (cc h)
ends_quiet (Mark Dot ∷ ts) h = absurd (cc h)
ends_quiet (Mark Question ∷ ts) h = absurd (cc h)
ends_quiet (Mark DoubleColon ∷ ts) h = absurd (cc h)
ends_quiet (Mark Apostrophe ∷ ts) h = absurd (cc h)
ends_quiet _ h = tt

quiet_cast : (ts : List Token) → ends ts ≡ true → maybe_cast_row ts ≡ Goes [] ts
quiet_cast ts h = no_cast ts (quieter 0 14 ts (omega arith) (ends_quiet ts h))

quiet_selects : (ts : List Token) → ends ts ≡ true → selects_row ts ≡ Goes [] ts
quiet_selects ts h = no_selects ts (quieter 0 13 ts (omega arith) (ends_quiet ts h))

quiet_word : (w : List ℕ) (ts : List Token) → ends ts ≡ true → word_row w ts ≡ Tells (NameE w) (MaybeCast ∷ []) ts
quiet_word w ts h = plain_word w ts (quieter 0 14 ts (omega arith) (ends_quiet ts h))

quiet_rest : (ts : List Token) → ends ts ≡ true → rest_row ts ≡ Goes [] ts
quiet_rest ts h = no_rest ts (ends_quiet ts h)

name_alone : (w : List ℕ) (ts : List Token) (k : List Item) → ends ts ≡ true → Fuses (Expression ∷ k) (Word w ∷ ts) (Tells (NameE w) k ts)
unfolding operand_row primary_row
name_alone w ts k h = (5, by refl (by refl (telling (quiet_word w ts h) (by (quiet_cast ts h) (by (quiet_selects ts h) (by (quiet_rest ts h) still))))))

number_alone : (w : List ℕ) (ts : List Token) (k : List Item) → ends ts ≡ true → Fuses (Expression ∷ k) (Number w ∷ ts) (Tells (LiteralE w) k ts)
unfolding operand_row primary_row
number_alone w ts k h = (5, by refl (by refl (telling refl (by (quiet_cast ts h) (by (quiet_selects ts h) (by (quiet_rest ts h) still))))))

based_alone : (w : List ℕ) (ts : List Token) (k : List Item) → ends ts ≡ true → Fuses (Expression ∷ k) (Based w ∷ ts) (Tells (LiteralE w) k ts)
unfolding operand_row primary_row
based_alone w ts k h = (4, by refl (by refl (telling refl (by (quiet_selects ts h) (by (quiet_rest ts h) still)))))

-- expressions and what holds them
begun : (ts : List Token) (k : List Item) → Fuses (Expression ∷ k) ts (operand_front ts (Rest ∷ k))
begun ts k = on Expression ts k (Operand ∷ (Rest ∷ [])) ts (operand_front ts (Rest ∷ k)) refl (operand_fuses ts (Rest ∷ k))

expression_fuses : (ts : List Token) (k : List Item) → Fuses (Expression ∷ k) ts (expression_front ts k)
unfolding expression_front operand_front target_front
expression_fuses (Word w ∷ ts) k = either (ends ts) (Expression ∷ k) (Word w ∷ ts) (Tells (NameE w) k ts) (name_front w ts (Rest ∷ k)) (name_alone w ts k) (λ h. begun (Word w ∷ ts) k)
expression_fuses (Number w ∷ ts) k = either (ends ts) (Expression ∷ k) (Number w ∷ ts) (Tells (LiteralE w) k ts) (cast_front (Tells (LiteralE w)) ts (Rest ∷ k)) (number_alone w ts k) (λ h. begun (Number w ∷ ts) k)
expression_fuses (Based w ∷ ts) k = either (ends ts) (Expression ∷ k) (Based w ∷ ts) (Tells (LiteralE w) k ts) (selects_front (Tells (LiteralE w)) ts (Rest ∷ k)) (based_alone w ts k) (λ h. begun (Based w ∷ ts) k)
expression_fuses ts k = begun ts k

rest_fuses : (ts : List Token) (k : List Item) → Fuses (Rest ∷ k) ts (rest_front ts k)
unfolding rest_front rest_row
rest_fuses (Operator o ∷ ts) k = if_on (nat_lt 0 (level o)) Rest (Operator o ∷ ts) k (Operand ∷ (Right o ∷ (Rest ∷ []))) ts (Goes [] (Operator o ∷ ts)) (operand_front ts (Right o ∷ (Rest ∷ k))) refl (operand_fuses ts (Right o ∷ (Rest ∷ k)))
rest_fuses (Mark Question ∷ ts) k = on Rest (Mark Question ∷ ts) k (Expression ∷ (Take Colon ∷ (Expression ∷ (Emit TernaryT ∷ [])))) ts (expression_front ts (Take Colon ∷ (Expression ∷ (Emit TernaryT ∷ k)))) refl (expression_fuses ts (Take Colon ∷ (Expression ∷ (Emit TernaryT ∷ k))))
rest_fuses ts k = by_row Rest ts k (Goes [] ts) refl

right_fuses : (p : Op) (ts : List Token) (k : List Item) → Fuses (Right p ∷ k) ts (right_front p ts k)
unfolding right_front right_row
right_fuses p (Operator o ∷ ts) k = if_on (nat_lt (level p) (level o)) (Right p) (Operator o ∷ ts) k (Operand ∷ (Right o ∷ (Right p ∷ []))) ts (Tells (Made (BinaryT p)) [] (Operator o ∷ ts)) (operand_front ts (Right o ∷ (Right p ∷ k))) refl (operand_fuses ts (Right o ∷ (Right p ∷ k)))
right_fuses p ts k = by_row (Right p) ts k (Tells (Made (BinaryT p)) [] ts) refl

select_end_fuses : (ts : List Token) (k : List Item) → Fuses (SelectEnd ∷ k) ts (select_end_front ts k)
unfolding select_end_front select_end_row
select_end_fuses (Mark CloseBracket ∷ ts) k = selects_told (Made IndexT) (SelectEnd ∷ k) (Mark CloseBracket ∷ ts) ts k 2 (by refl (telling refl still))
select_end_fuses (Mark Colon ∷ ts) k = on SelectEnd (Mark Colon ∷ ts) k (Expression ∷ (Take CloseBracket ∷ (Emit SliceT ∷ (Selects ∷ [])))) ts (expression_front ts (Take CloseBracket ∷ (Emit SliceT ∷ (Selects ∷ k)))) refl (expression_fuses ts (Take CloseBracket ∷ (Emit SliceT ∷ (Selects ∷ k))))
select_end_fuses ts k = by_row SelectEnd ts k (select_end_row ts) refl

member_name_fuses : (ts : List Token) (k : List Item) → Fuses (MemberName ∷ k) ts (member_name_front ts k)
unfolding member_name_front member_name_row
member_name_fuses (Word m ∷ ts) k = selects_told (MemberOfE m) (MemberName ∷ k) (Word m ∷ ts) ts k 1 (telling refl still)
member_name_fuses ts k = by_row MemberName ts k Stuck refl

arguments_fuse : (q : Punct) (ts : List Token) (k : List Item) → Fuses (Arguments q ∷ k) ts (arguments_front q ts k)
unfolding arguments_front arguments_row
arguments_fuse q (Mark p ∷ ts) k = else_on (nat_eq (code p) (code q)) (Arguments q) (Mark p ∷ ts) k (Expression ∷ (Emit OneT ∷ (More q ∷ []))) (Mark p ∷ ts) (Tells (Made NoneT) [] ts) (expression_front (Mark p ∷ ts) (Emit OneT ∷ (More q ∷ k))) refl (expression_fuses (Mark p ∷ ts) (Emit OneT ∷ (More q ∷ k)))
arguments_fuse q ts k = on (Arguments q) ts k (Expression ∷ (Emit OneT ∷ (More q ∷ []))) ts (expression_front ts (Emit OneT ∷ (More q ∷ k))) refl (expression_fuses ts (Emit OneT ∷ (More q ∷ k)))

more_fuse : (q : Punct) (ts : List Token) (k : List Item) → Fuses (More q ∷ k) ts (more_front q ts k)
unfolding more_front more_row
more_fuse q (Mark Comma ∷ ts) k = on (More q) (Mark Comma ∷ ts) k (Expression ∷ (Emit PushT ∷ (More q ∷ []))) ts (expression_front ts (Emit PushT ∷ (More q ∷ k))) refl (expression_fuses ts (Emit PushT ∷ (More q ∷ k)))
more_fuse q (Mark p ∷ ts) k = only (nat_eq (code p) (code q)) (More q) (Mark p ∷ ts) k ts refl
more_fuse q ts k = by_row (More q) ts k Stuck refl

braces_fuse : (ts : List Token) (k : List Item) → Fuses (Braces ∷ k) ts (braces_front ts k)
unfolding braces_front braces_row
braces_fuse (Mark CloseBrace ∷ ts) k = (0, telling refl still)
braces_fuse ts k = on Braces ts k (Expression ∷ (BraceNext ∷ [])) ts (expression_front ts (BraceNext ∷ k)) refl (expression_fuses ts (BraceNext ∷ k))

brace_next_fuses : (ts : List Token) (k : List Item) → Fuses (BraceNext ∷ k) ts (brace_next_front ts k)
unfolding brace_next_front brace_next_row
brace_next_fuses (Mark OpenBrace ∷ ts) k = (0, by refl still)
brace_next_fuses ts k = (1, by refl (telling refl still))

pub fuses : (i : Item) (ts : List Token) (k : List Item) → Fuses (i ∷ k) ts (front i ts k)
fuses Expression ts k = expression_fuses ts k
fuses Target ts k = on Target ts k (Primary ∷ (Selects ∷ [])) ts (target_front ts k) refl (primary_fuses ts k)
fuses Operand ts k = operand_fuses ts k
fuses Selects ts k = selects_fuse ts k
fuses SelectEnd ts k = select_end_fuses ts k
fuses MemberName ts k = member_name_fuses ts k
fuses Rest ts k = rest_fuses ts k
fuses (Right p) ts k = right_fuses p ts k
fuses (Arguments q) ts k = arguments_fuse q ts k
fuses (More q) ts k = more_fuse q ts k
fuses Braces ts k = braces_fuse ts k
fuses BraceNext ts k = brace_next_fuses ts k
fuses i ts k = by_row i ts k (row i ts) refl
