-- What the rows of expressions spell is an expression.
use Rattle.std.proofs.Common.{◌≡◌, ◌≢◌, ℕ, suc, zero, ◌+◌, ◌-◌, codes, lit≤, ◌<◌, ◌≤◌, List, [], ◌∷◌, ◌++◌, get_or, nat_eq, Bool, true, false, IsTrue, refl, arith, append_assoc, append-nil, lit<}
use Rattle.std.proofs.lemmas.Bool.{eqb-true, eqb-false}
use Rattle.vast_literal.specs.Tokens.{level, is_unary, Token, Word, SystemWord, MacroWord, Number, Operator, Mark, Reserved}
use Rattle.vast_literal.specs.NormalExpr.{NormalExpr, NormalExprs, Binary}
use Rattle.vast_literal.specs.Grammar.{is_cast_word, Spells, up, ternary, binary, unary, index, slice, part_select, member_of, name, number, based, quoted, paren, call, system_alone, system_call, concat, replicated, array_pattern, macro_alone, macro_call, number_cast, name_cast, package_cast, paren_cast, word_cast, SpellsList, none, some, SpellsJoined, last, next}
use Rattle.vast_literal.proofs.Levels.{level_small}
use Rattle.vast_rows.specs.Numbers.{Op, LogicOr, LogicAnd, BitOr, BitXor, BitAnd, NotEqual, CaseNotEqual, Equal, CaseEqual, GreaterEqual, Greater, LessEqual, Less, ShiftLeft, ShiftRightSigned, ShiftRight, Plus, Minus, Times, Divide, Modulo, Power, BitNot, LogicNot, OpenParen, CloseParen, OpenBracket, OpenBrace, CloseBrace, Comma, Colon, Dot, Question, DoubleColon, Apostrophe, Key, LogicKey, SignedKey, UnsignedKey, IntegerKey, IntKey}
use Rattle.vast_rows.specs.Internal.ExpressionPage.{Part, expression_page}
use Rattle.vast_rows.specs.Internal.ExpressionPage as part
use Rattle.vast_rows.specs.Internal.Headers.{IsAt}
use Rattle.vast_rows.proofs.Means.{AllMake, ◌&◌}

abbrev AreIn : List Token → Type 0
AreIn ts = (xs : NormalExprs) × SpellsList ts xs

abbrev cast_of : List Token → List Token
cast_of ts = Mark Apostrophe ∷ (Mark OpenParen ∷ (ts ++ (Mark CloseParen ∷ [])))

-- An operator that joins an operand to what stands before it.
abbrev Joins : ℕ → List Token → Type 0
Joins k ts = (ls rs : List Token) → IsAt k ls → IsAt 12 rs → IsAt k (ls ++ (ts ++ rs))

-- What tokens of a part make of the tokens before or after them.
abbrev pub Meant : Part → List Token → Type 0
Meant part.Expression ts = IsAt 0 ts
Meant part.Target ts = IsAt 13 ts
Meant part.Operand ts = IsAt 12 ts
Meant part.Sign ts = (us : List Token) → IsAt 12 us → IsAt 12 (ts ++ us)
Meant part.Rest ts = (cs : List Token) → IsAt 1 cs → IsAt 0 (cs ++ ts)
Meant part.Infix ts = Joins 1 ts
Meant part.Selects ts = (ss : List Token) → IsAt 13 ss → IsAt 13 (ss ++ ts)
Meant part.SelectEnd ts = (ss is : List Token) → IsAt 13 ss → IsAt 0 is → IsAt 13 (ss ++ (Mark OpenBracket ∷ (is ++ ts)))
Meant part.Primary ts = IsAt 14 ts
Meant part.Cast ts = (es : List Token) × IsAt 0 es × (ts ≡ cast_of es)
Meant part.AnyMacro ts = (us : List Token) → ((m : List ℕ) → IsAt 14 (MacroWord m ∷ us)) → IsAt 14 (ts ++ us)
Meant part.MacroList ts = ((m : List ℕ) → IsAt 14 (MacroWord m ∷ ts)) × ((f : List ℕ) → IsAt 14 (SystemWord f ∷ ts))
Meant part.AfterName ts = (w : List ℕ) → IsAt 14 (Word w ∷ ts)
Meant part.MaybeCast ts = ((w : List ℕ) → IsAt 14 (Word w ∷ ts)) × ((n : List ℕ) → IsAt 14 (Number n ∷ ts)) × ((hs : List Token) → IsAt 0 hs → IsAt 14 (Mark OpenParen ∷ (hs ++ (Mark CloseParen ∷ ts))))
Meant part.Listed ts = AreIn ts
Meant part.More ts = (es : List Token) → IsAt 0 es → (xs : NormalExprs) × SpellsJoined (es ++ ts) xs
Meant part.Braces ts = IsAt 14 (Mark OpenBrace ∷ ts)
Meant part.BraceEnd ts = (es : List Token) → IsAt 0 es → IsAt 14 (Mark OpenBrace ∷ (es ++ ts))
Meant part.CastWord ts = (es : List Token) → IsAt 0 es → IsAt 14 (ts ++ cast_of es)
Meant part.Bound ts = IsAt 8 ts
Meant part.TightRest ts = (cs : List Token) → IsAt 8 cs → IsAt 8 (cs ++ ts)
Meant part.TightInfix ts = Joins 8 ts

abbrev parts : List Part
parts = part.Expression ∷ part.Target ∷ part.Operand ∷ part.Sign ∷ part.Rest ∷ part.Infix ∷ part.Selects ∷ part.SelectEnd ∷ part.Primary ∷ part.Cast ∷ part.AnyMacro ∷ part.MacroList ∷ part.AfterName ∷ part.MaybeCast ∷ part.Listed ∷ part.More ∷ part.Braces ∷ part.BraceEnd ∷ part.CastWord ∷ part.Bound ∷ part.TightRest ∷ part.TightInfix ∷ []

abbrev pub MeantBy : ℕ → List Token → Type 0
MeantBy n ts = Meant (get_or parts n part.Expression) ts

-- What binds more tightly stands lower.
lower : (n k : ℕ) (ts : List Token) (x : NormalExpr) → k + n ≤ 14 → Spells (k + n) ts x → Spells k ts x
lower zero k ts x h p = let z : k + 0 ≡ k = omega arith in rw z at p
lower (suc n) k ts x h p = let z : k + suc n ≡ suc (k + n) = omega arith in lower n k ts x (omega (arith, h)) (up (omega (arith, h)) (rw z at p))

from_12 : (k : ℕ) (ts : List Token) (x : NormalExpr) → k ≤ 12 → Spells 12 ts x → Spells k ts x
from_12 k ts x h p = let z : 12 ≡ k + (12 - k) = omega (arith, h) in lower (12 - k) k ts x (omega (arith, h)) (rw z at p)

-- An operand after an operator joins what stands before it, as tightly as the operator binds.
joined_even : (k : ℕ) (ls rs : List Token) (l r : NormalExpr) (o : Op) → k ≡ level o → 0 < level o → Spells k ls l → Spells 12 rs r → IsAt k (ls ++ (Operator o ∷ rs))
joined_even k ls rs l r o e pos p q =
    let s : level o ≤ 11 = level_small o in
    let w : IsAt (level o) (ls ++ (Operator o ∷ rs)) = (_, binary o pos (rw e at p) (from_12 (suc (level o)) rs r (omega (arith, s)) q)) in rw e w

joined : {k : ℕ} {ls : List Token} {l : NormalExpr} → Spells k ls l → (rs : List Token) (r : NormalExpr) (o : Op) → 1 ≤ k → k ≤ level o → 0 < level o → Spells 12 rs r → IsAt k (ls ++ (Operator o ∷ rs))
joined {ls = ls} {l = l} (up {k = k} small e) rs r o one h pos q = go (nat_eq k (level o)) refl (λ less. joined e rs r o (omega (arith, one)) less pos q)
  where
    go : (b : Bool) → nat_eq k (level o) ≡ b → (suc k ≤ level o → IsAt (suc k) (ls ++ (Operator o ∷ rs))) → IsAt k (ls ++ (Operator o ∷ rs))
    go true f inner = joined_even k ls rs l r o (eqb-true k (level o) f) pos (up small e) q
    go false f inner = let n : k ≢ level o = eqb-false k (level o) f in let x = inner (omega (arith, h, n)) in (x.0, up small x.1)
joined (binary {ls = cs} {rs = bs} {l = a} {r = b} op at x y) rs r o one h pos q = go (nat_eq (level op) (level o)) refl (λ less. joined y rs r o (omega (arith, one)) less pos q)
  where
    go : (c : Bool) → nat_eq (level op) (level o) ≡ c → (suc (level op) ≤ level o → IsAt (suc (level op)) (bs ++ (Operator o ∷ rs))) → IsAt (level op) ((cs ++ (Operator op ∷ bs)) ++ (Operator o ∷ rs))
    go true f inner = joined_even (level op) (cs ++ (Operator op ∷ bs)) rs _ r o (eqb-true (level op) (level o) f) pos (binary op at x y) q
    go false f inner = let n : level op ≢ level o = eqb-false (level op) (level o) f in let z = inner (omega (arith, h, n)) in
        (Binary op a z.0, rw (append_assoc cs (Operator op ∷ bs) (Operator o ∷ rs)) (binary op at x z.1))
joined (ternary c a b) rs r o one h pos q = absurd (let z : ⊥ = omega (arith, one) in z)
joined (unary op u e) rs r o one h pos q = absurd (let s : level o ≤ 11 = level_small o in let z : ⊥ = omega (arith, h, s) in z)
joined (index a b) rs r o one h pos q = absurd (let s : level o ≤ 11 = level_small o in let z : ⊥ = omega (arith, h, s) in z)
joined (slice a b c) rs r o one h pos q = absurd (let s : level o ≤ 11 = level_small o in let z : ⊥ = omega (arith, h, s) in z)
joined (part_select n a b) rs r o one h pos q = absurd (let s : level o ≤ 11 = level_small o in let z : ⊥ = omega (arith, h, s) in z)
joined (member_of m a) rs r o one h pos q = absurd (let s : level o ≤ 11 = level_small o in let z : ⊥ = omega (arith, h, s) in z)
joined (name w) rs r o one h pos q = absurd (let s : level o ≤ 11 = level_small o in let z : ⊥ = omega (arith, h, s) in z)
joined (number w) rs r o one h pos q = absurd (let s : level o ≤ 11 = level_small o in let z : ⊥ = omega (arith, h, s) in z)
joined (based w) rs r o one h pos q = absurd (let s : level o ≤ 11 = level_small o in let z : ⊥ = omega (arith, h, s) in z)
joined (quoted w) rs r o one h pos q = absurd (let s : level o ≤ 11 = level_small o in let z : ⊥ = omega (arith, h, s) in z)
joined (paren e) rs r o one h pos q = absurd (let s : level o ≤ 11 = level_small o in let z : ⊥ = omega (arith, h, s) in z)
joined (call f es) rs r o one h pos q = absurd (let s : level o ≤ 11 = level_small o in let z : ⊥ = omega (arith, h, s) in z)
joined (system_call f es) rs r o one h pos q = absurd (let s : level o ≤ 11 = level_small o in let z : ⊥ = omega (arith, h, s) in z)
joined (concat es) rs r o one h pos q = absurd (let s : level o ≤ 11 = level_small o in let z : ⊥ = omega (arith, h, s) in z)
joined (replicated n es) rs r o one h pos q = absurd (let s : level o ≤ 11 = level_small o in let z : ⊥ = omega (arith, h, s) in z)
joined (array_pattern es) rs r o one h pos q = absurd (let s : level o ≤ 11 = level_small o in let z : ⊥ = omega (arith, h, s) in z)
joined (system_alone f) rs r o one h pos q = absurd (let s : level o ≤ 11 = level_small o in let z : ⊥ = omega (arith, h, s) in z)
joined (macro_alone m) rs r o one h pos q = absurd (let s : level o ≤ 11 = level_small o in let z : ⊥ = omega (arith, h, s) in z)
joined (macro_call m es) rs r o one h pos q = absurd (let s : level o ≤ 11 = level_small o in let z : ⊥ = omega (arith, h, s) in z)
joined (number_cast n e) rs r o one h pos q = absurd (let s : level o ≤ 11 = level_small o in let z : ⊥ = omega (arith, h, s) in z)
joined (name_cast w e) rs r o one h pos q = absurd (let s : level o ≤ 11 = level_small o in let z : ⊥ = omega (arith, h, s) in z)
joined (package_cast p w e) rs r o one h pos q = absurd (let s : level o ≤ 11 = level_small o in let z : ⊥ = omega (arith, h, s) in z)
joined (paren_cast a e) rs r o one h pos q = absurd (let s : level o ≤ 11 = level_small o in let z : ⊥ = omega (arith, h, s) in z)
joined (word_cast w hh e) rs r o one h pos q = absurd (let s : level o ≤ 11 = level_small o in let z : ⊥ = omega (arith, h, s) in z)

-- Rows.

sign : (o : Op) → IsTrue (is_unary o) → Meant part.Sign (Operator o ∷ [])
sign o h us x = (_, unary o h x.1)

joins : (k : ℕ) (o : Op) → 1 ≤ k → k ≤ level o → Joins k (Operator o ∷ [])
joins k o one below ls rs l r = let pos : 0 < level o = omega (arith, one, below) in joined l.1 rs r.0 o one below pos r.1

infix_of : (o : Op) → 0 < level o → Joins 1 (Operator o ∷ [])
infix_of o pos = joins 1 o (lit≤ tt) (omega (arith, pos))

tight : (o : Op) → 8 ≤ level o → Joins 8 (Operator o ∷ [])
tight o below = joins 8 o (lit≤ tt) below

cast_word : (k : Key) → IsTrue (is_cast_word k) → Meant part.CastWord (Reserved k ∷ [])
cast_word k h es x = (_, word_cast k h x.1)

rest_more : (k j : ℕ) (ts : List Token) → Joins k ts → (us : List Token) → Meant part.Operand us → (vs : List Token) → ((cs : List Token) → IsAt k cs → IsAt j (cs ++ vs)) →
    (cs : List Token) → IsAt k cs → IsAt j (cs ++ (ts ++ (us ++ vs)))
rest_more k j ts i us o vs r cs c =
    let x : IsAt j ((cs ++ (ts ++ us)) ++ vs) = r (cs ++ (ts ++ us)) (i cs us c o) in
    rw (← append_assoc ts us vs, ← append_assoc cs (ts ++ us) vs) x

rest_choice : (ts : List Token) → IsAt 0 ts → (us : List Token) → IsAt 0 us → Meant part.Rest (Mark Question ∷ (ts ++ (Mark Colon ∷ us)))
rest_choice ts a us b cs c = (_, ternary c.1 a.1 b.1)

selects_more : (ts : List Token) → IsAt 0 ts → (us : List Token) → Meant part.SelectEnd us → (vs : List Token) → Meant part.Selects vs → Meant part.Selects (Mark OpenBracket ∷ (ts ++ (us ++ vs)))
selects_more ts i us e vs more ss s =
    let x : IsAt 13 ((ss ++ (Mark OpenBracket ∷ (ts ++ us))) ++ vs) = more (ss ++ (Mark OpenBracket ∷ (ts ++ us))) (e ss ts s i) in
    rw (← append_assoc ts us vs, ← append_assoc ss (Mark OpenBracket ∷ (ts ++ us)) vs) x

member_more : (w : List ℕ) (ts : List Token) → Meant part.Selects ts → Meant part.Selects (Mark Dot ∷ (Word w ∷ ts))
member_more w ts more ss s =
    let x : IsAt 13 ((ss ++ (Mark Dot ∷ (Word w ∷ []))) ++ ts) = more (ss ++ (Mark Dot ∷ (Word w ∷ []))) (_, member_of w s.1) in
    rw (← append_assoc ss (Mark Dot ∷ (Word w ∷ [])) ts) x

maybe_none : Meant part.MaybeCast []
maybe_none = (λ w. (_, name w), λ n. (_, number n), λ hs h. (_, paren h.1))

maybe_cast : (ts : List Token) → Meant part.Cast ts → Meant part.MaybeCast ts
maybe_cast ts c = rw c.2 (λ w. (_, name_cast w (c.1).1), λ n. (_, number_cast n (c.1).1), λ hs h. (_, paren_cast h.1 (c.1).1))

of_package : (w : List ℕ) (ts : List Token) → Meant part.Cast ts → Meant part.AfterName (Mark DoubleColon ∷ (Word w ∷ ts))
of_package w ts c = rw c.2 (λ p. (_, package_cast p w (c.1).1))

more_last : Meant part.More []
more_last es e = rw (append-nil es) (_, last e.1)

more_next : (ts : List Token) → IsAt 0 ts → (us : List Token) → Meant part.More us → Meant part.More (Mark Comma ∷ (ts ++ us))
more_next ts x us more es e = let r = more ts x in (_, next e.1 r.1)

casts : (ts : List Token) → Meant part.CastWord ts → (us : List Token) → Meant part.Cast us → IsAt 14 (ts ++ us)
casts ts w us c = rw c.2 (w c.0 c.1)

pub makes : AllMake MeantBy expression_page
unfolding is_unary is_cast_word level
makes =
    (λ ts o us r. r ts (_, up (lit< tt) (up (lit< tt) (up (lit< tt) (up (lit< tt) (up (lit< tt) (up (lit< tt) (up (lit< tt) (up (lit< tt) (up (lit< tt) (up (lit< tt) (up (lit< tt) o.1)))))))))))) &
    (λ ts p us s. s ts (_, up (lit< tt) p.1)) &
    (λ ts s us o. s us o) &
    (λ ts p us s. let x = s ts (_, up (lit< tt) p.1) in (x.0, up (lit< tt) x.1)) &
    sign Minus refl & sign BitNot refl & sign LogicNot refl & sign BitAnd refl & sign BitOr refl & sign BitXor refl &
    (λ cs c. rw (append-nil cs) (c.0, up (lit< tt) c.1)) &
    rest_more 1 0 & rest_choice &
    infix_of LogicOr (lit< tt) & infix_of LogicAnd (lit< tt) & infix_of BitOr (lit< tt) & infix_of BitXor (lit< tt) & infix_of BitAnd (lit< tt) &
    infix_of NotEqual (lit< tt) & infix_of CaseNotEqual (lit< tt) & infix_of Equal (lit< tt) & infix_of CaseEqual (lit< tt) & infix_of GreaterEqual (lit< tt) &
    infix_of Greater (lit< tt) & infix_of LessEqual (lit< tt) & infix_of Less (lit< tt) & infix_of ShiftLeft (lit< tt) & infix_of ShiftRightSigned (lit< tt) &
    infix_of ShiftRight (lit< tt) & infix_of Plus (lit< tt) & infix_of Minus (lit< tt) & infix_of Times (lit< tt) & infix_of Divide (lit< tt) &
    infix_of Modulo (lit< tt) & infix_of Power (lit< tt) &
    (λ ss s. rw (append-nil ss) s) &
    selects_more &
    member_more &
    (λ ss is s i. (_, index s.1 i.1)) &
    (λ ts x ss is s i. (_, slice s.1 i.1 x.1)) &
    (λ n ss is s i. (_, part_select n s.1 i.1)) &
    (λ w ts a. a w) &
    (λ n ts m. m.1 n) &
    (λ n. (_, based n)) &
    (λ w. (_, quoted w)) &
    (λ f ts l. l.1 f) &
    (λ ts m us l. m us l.0) &
    (λ ts x us m. m.2 ts x) &
    (λ ts es. (_, array_pattern es.1)) &
    (λ ts b. b) &
    casts &
    (λ ts x. (ts, x, refl)) &
    (λ m us f. f m) &
    (λ us f. f (codes "include")) &
    ((λ m. (_, macro_alone m)), (λ f. (_, system_alone f))) &
    (λ ts es. ((λ m. (_, macro_call m es.1)), (λ f. (_, system_call f es.1)))) &
    (λ ts m w. m.0 w) &
    (λ ts es w. (_, call w es.1)) &
    of_package &
    maybe_none &
    maybe_cast &
    (_, none) &
    (λ ts x us more. let r = more ts x in (_, some r.1)) &
    more_last & more_next &
    (_, concat none) &
    (λ ts x us b. b ts x) &
    (λ ts more es e. let r = more es e in let x : IsAt 14 (Mark OpenBrace ∷ ((es ++ ts) ++ (Mark CloseBrace ∷ []))) = (_, concat (some r.1)) in rw append_assoc at x) &
    (λ ts es ns n. (_, replicated n.1 es.1)) &
    cast_word LogicKey refl & cast_word SignedKey refl & cast_word UnsignedKey refl & cast_word IntegerKey refl & cast_word IntKey refl &
    (λ ts o us r. r ts (o.0, from_12 8 ts o.0 (lit≤ tt) o.1)) &
    (λ cs c. rw (append-nil cs) c) &
    rest_more 8 8 &
    tight ShiftLeft (lit≤ tt) & tight ShiftRightSigned (lit≤ tt) & tight ShiftRight (lit≤ tt) & tight Plus (lit≤ tt) & tight Minus (lit≤ tt) & tight Times (lit≤ tt) & tight Divide (lit≤ tt) &
    tight Modulo (lit≤ tt) & tight Power (lit≤ tt) & tt
