-- Expressions are spelled by their rows.
use Rattle.std.proofs.Common.{◌≡◌, Some, ℕ, suc, ◌<◌, ◌≤◌, List, [], ◌∷◌, ◌++◌, Bool, true, false, codes, IsTrue, refl, arith, append_assoc, append-nil, lit<, lit≤, bytes_eq}
use Rattle.std.specs.List.{slice_get}
use Rattle.vast_literal.specs.Tokens.{level, is_unary, Token, Word, SystemWord, MacroWord, Number, Based, Quoted, Operator, Mark, Reserved}
use Rattle.vast_literal.specs.NormalExpr.{NormalExpr, NormalExprs}
use Rattle.vast_literal.specs.Grammar.{is_cast_word, Spells, up, ternary, binary, unary, index, slice, part_select, member_of, name, number, based, quoted, paren, call, system_alone, system_call, concat, replicated, array_pattern, macro_alone, macro_call, number_cast, name_cast, package_cast, paren_cast, word_cast, SpellsList, none, some, SpellsJoined, last, next}
use Rattle.vast_literal.proofs.Levels.{level_small}
use Rattle.vast_rows.specs.declared.grammar.Item.{Item}
use Rattle.vast_rows.specs.declared.grammar.Item.TheVariants as item
use Rattle.vast_rows.specs.Events.{Event, name_of, made_by, named_by}
use Rattle.vast_rows.specs.Kinds.{token_kind}
use Rattle.vast_rows.specs.Numbers.{Op, Punct, LogicOr, LogicAnd, BitOr, BitXor, BitAnd, NotEqual, CaseNotEqual, Equal, CaseEqual, GreaterEqual, Greater, LessEqual, Less, ShiftLeft, ShiftRightSigned, ShiftRight, Plus, Minus, Times, Divide, Modulo, Power, BitNot, LogicNot, OpenParen, CloseParen, OpenBracket, CloseBracket, OpenBrace, CloseBrace, Comma, Colon, Dot, Question, DoubleColon, PlusColon, Apostrophe, Key, IfKey, LogicKey, SignedKey, UnsignedKey, IntegerKey, IntKey}
use Rattle.vast_rows.specs.Internal.ExpressionPage.{expression_page, Part, part_number, rule}
use Rattle.vast_rows.specs.Internal.ExpressionPage as part
use Rattle.vast_rows.specs.Rows.{Row}
use Rattle.vast_rows.specs.Telling.{Spells as Rowed, no_items, a_token, a_rule}
use Rattle.vast_rows.proofs.Ending.{joined}

-- Items spell the tokens, whatever else is told.
abbrev Fit : List Item → List Token → Type 0
Fit s ts = (fs : List Event) → (es : List Event) × Rowed expression_page s ts es fs

nil : Fit [] []
nil fs = (fs, no_items)

infixr 4 ◌then◌
abbrev ◌then◌ : {a b : List Item} {ts us : List Token} → Fit a ts → Fit b us → Fit (a ++ b) (ts ++ us)
p then q = λ fs. let y = q fs in let x = p y.0 in (x.0, joined x.1 y.1)

-- One token of its kind, before others.
tok : {s : List Item} {ts : List Token} (t : Token) → Fit s ts → Fit (item.Token (token_kind t) ∷ s) (t ∷ ts)
tok t p fs = let x = p fs in (named_by (name_of t) x.0, a_token t refl x.1)

-- A row of the page.
by_row : {ts : List Token} (p : Part) (n : ℕ) (row : Row) → slice_get expression_page n ≡ Some row → row.rule ≡ part_number p → Fit row.items ts → Fit (rule p ∷ []) ts
by_row {ts} p n row at ruled q fs = let x = q fs in (made_by row.action x.0, rw (← append-nil ts) (a_rule n row at ruled x.1 no_items))

-- What operators join operands from a level on, and how the rows call it.
data Chain : Type 0 where
  Loose Tight : Chain

abbrev from_level : Chain → ℕ
from_level Loose = 1
from_level Tight = 8

abbrev rest_of : Chain → Part
rest_of Loose = part.Rest
rest_of Tight = part.TightRest

chained : (c : Chain) → (1 ≤ from_level c) × (from_level c ≤ 12)
chained Loose = (lit≤ tt, lit≤ tt)
chained Tight = (lit≤ tt, lit≤ tt)

abbrev Chains : Chain → List Token → Type 0
Chains c ts = (us : List Token) → Fit (rule (rest_of c) ∷ []) us → Fit (rule part.Operand ∷ rule (rest_of c) ∷ []) (ts ++ us)

-- What the grammar spells at a level, by rows.
record Fits (k : ℕ) (ts : List Token) : Type 0 where
  primary : 14 ≤ k → Fit (rule part.Primary ∷ []) ts
  selects : 13 ≤ k → (us : List Token) → Fit (rule part.Selects ∷ []) us → Fit (rule part.Primary ∷ rule part.Selects ∷ []) (ts ++ us)
  operand : 12 ≤ k → Fit (rule part.Operand ∷ []) ts
  chain : (c : Chain) → from_level c ≤ k → Chains c ts
  whole : Fit (rule part.Expression ∷ []) ts

by_whole : (k : ℕ) (ts : List Token) → k < 1 → Fit (rule part.Expression ∷ []) ts → Fits k ts
by_whole k ts h w = record { primary = λ l. absurd (omega (arith, h, l)); selects = λ l us q. absurd (omega (arith, h, l)); operand = λ l. absurd (omega (arith, h, l)); chain = λ c l us q. absurd (let one = (chained c).0 in omega (arith, h, l, one)); whole = w }

by_chain : (k : ℕ) (ts : List Token) → k < 12 → 1 ≤ k → ((c : Chain) → from_level c ≤ k → Chains c ts) → Fits k ts
by_chain k ts h one c = record {
  primary = λ l. absurd (omega (arith, h, l));
  selects = λ l us q. absurd (omega (arith, h, l));
  operand = λ l. absurd (omega (arith, h, l));
  chain = c;
  whole = by_row part.Expression 0 _ refl refl (let d : Fit (rule part.Operand ∷ rule part.Rest ∷ []) (ts ++ []) = c Loose one [] (by_row part.Rest 10 _ refl refl nil) in rw (append-nil ts) at d);
}

by_operand : (k : ℕ) (ts : List Token) → k < 13 → Fit (rule part.Operand ∷ []) ts → Fits k ts
by_operand k ts h o = let w : Fits 1 ts = by_chain 1 ts (lit< tt) (lit≤ tt) (λ c l us q. o then q) in record {
  primary = λ l. absurd (omega (arith, h, l));
  selects = λ l us q. absurd (omega (arith, h, l));
  operand = λ l. o;
  chain = λ c l us q. o then q;
  whole = w.whole;
}

by_selects : (k : ℕ) (ts : List Token) → k < 14 → ((us : List Token) → Fit (rule part.Selects ∷ []) us → Fit (rule part.Primary ∷ rule part.Selects ∷ []) (ts ++ us)) → Fits k ts
by_selects k ts h c =
    let o : Fits 12 ts = by_operand 12 ts (lit< tt) (by_row part.Operand 3 _ refl refl (let d : Fit (rule part.Primary ∷ rule part.Selects ∷ []) (ts ++ []) = c [] (by_row part.Selects 35 _ refl refl nil) in rw (append-nil ts) at d)) in record {
      primary = λ l. absurd (omega (arith, h, l));
      selects = λ l us q. c us q;
      operand = λ l. o.operand (lit≤ tt);
      chain = λ c l. o.chain c (chained c).1;
      whole = o.whole;
    }

by_primary : (k : ℕ) (ts : List Token) → Fit (rule part.Primary ∷ []) ts → Fits k ts
by_primary k ts p = let s : Fits 13 ts = by_selects 13 ts (lit< tt) (λ us q. p then q) in record {
  primary = λ l. p;
  selects = λ l us q. s.selects (lit≤ tt) us q;
  operand = λ l. s.operand (lit≤ tt);
  chain = λ c l. s.chain c (let small = (chained c).1 in omega (arith, small));
  whole = s.whole;
}

by_up : (k : ℕ) (ts : List Token) → k < 14 → Fits (suc k) ts → Fits k ts
by_up k ts h f = record {
  primary = λ l. absurd (omega (arith, h, l));
  selects = λ l us q. f.selects (omega (arith, l)) us q;
  operand = λ l. f.operand (omega (arith, l));
  chain = λ c l. f.chain c (omega (arith, l));
  whole = f.whole;
}

infixes : (o : Op) → 0 < level o → Fit (rule part.Infix ∷ []) (Operator o ∷ [])
unfolding level
infixes LogicOr h = by_row part.Infix 13 _ refl refl (tok (Operator LogicOr) nil)
infixes LogicAnd h = by_row part.Infix 14 _ refl refl (tok (Operator LogicAnd) nil)
infixes BitOr h = by_row part.Infix 15 _ refl refl (tok (Operator BitOr) nil)
infixes BitXor h = by_row part.Infix 16 _ refl refl (tok (Operator BitXor) nil)
infixes BitAnd h = by_row part.Infix 17 _ refl refl (tok (Operator BitAnd) nil)
infixes NotEqual h = by_row part.Infix 18 _ refl refl (tok (Operator NotEqual) nil)
infixes CaseNotEqual h = by_row part.Infix 19 _ refl refl (tok (Operator CaseNotEqual) nil)
infixes Equal h = by_row part.Infix 20 _ refl refl (tok (Operator Equal) nil)
infixes CaseEqual h = by_row part.Infix 21 _ refl refl (tok (Operator CaseEqual) nil)
infixes GreaterEqual h = by_row part.Infix 22 _ refl refl (tok (Operator GreaterEqual) nil)
infixes Greater h = by_row part.Infix 23 _ refl refl (tok (Operator Greater) nil)
infixes LessEqual h = by_row part.Infix 24 _ refl refl (tok (Operator LessEqual) nil)
infixes Less h = by_row part.Infix 25 _ refl refl (tok (Operator Less) nil)
infixes ShiftLeft h = by_row part.Infix 26 _ refl refl (tok (Operator ShiftLeft) nil)
infixes ShiftRightSigned h = by_row part.Infix 27 _ refl refl (tok (Operator ShiftRightSigned) nil)
infixes ShiftRight h = by_row part.Infix 28 _ refl refl (tok (Operator ShiftRight) nil)
infixes Plus h = by_row part.Infix 29 _ refl refl (tok (Operator Plus) nil)
infixes Minus h = by_row part.Infix 30 _ refl refl (tok (Operator Minus) nil)
infixes Times h = by_row part.Infix 31 _ refl refl (tok (Operator Times) nil)
infixes Divide h = by_row part.Infix 32 _ refl refl (tok (Operator Divide) nil)
infixes Modulo h = by_row part.Infix 33 _ refl refl (tok (Operator Modulo) nil)
infixes Power h = by_row part.Infix 34 _ refl refl (tok (Operator Power) nil)
infixes BitNot h = absurd (omega (arith, h))
infixes LogicNot h = absurd (omega (arith, h))

tight_infixes : (o : Op) → 8 ≤ level o → Fit (rule part.TightInfix ∷ []) (Operator o ∷ [])
unfolding level
tight_infixes ShiftLeft h = by_row part.TightInfix 77 _ refl refl (tok (Operator ShiftLeft) nil)
tight_infixes ShiftRightSigned h = by_row part.TightInfix 78 _ refl refl (tok (Operator ShiftRightSigned) nil)
tight_infixes ShiftRight h = by_row part.TightInfix 79 _ refl refl (tok (Operator ShiftRight) nil)
tight_infixes Plus h = by_row part.TightInfix 80 _ refl refl (tok (Operator Plus) nil)
tight_infixes Minus h = by_row part.TightInfix 81 _ refl refl (tok (Operator Minus) nil)
tight_infixes Times h = by_row part.TightInfix 82 _ refl refl (tok (Operator Times) nil)
tight_infixes Divide h = by_row part.TightInfix 83 _ refl refl (tok (Operator Divide) nil)
tight_infixes Modulo h = by_row part.TightInfix 84 _ refl refl (tok (Operator Modulo) nil)
tight_infixes Power h = by_row part.TightInfix 85 _ refl refl (tok (Operator Power) nil)
tight_infixes LogicOr h = absurd (omega (arith, h))
tight_infixes _ h = absurd (omega (arith, h))

-- An operator, an operand and more after it.
linked : {ts : List Token} (c : Chain) (o : Op) → from_level c ≤ level o → 0 < level o → Fit (rule part.Operand ∷ rule (rest_of c) ∷ []) ts → Fit (rule (rest_of c) ∷ []) (Operator o ∷ ts)
linked Loose o low pos p = by_row part.Rest 11 _ refl refl (infixes o pos then p)
linked Tight o low pos p = by_row part.TightRest 76 _ refl refl (tight_infixes o low then p)

signs : (o : Op) → IsTrue (is_unary o) → Fit (rule part.Sign ∷ []) (Operator o ∷ [])
unfolding is_unary
signs Minus h = by_row part.Sign 4 _ refl refl (tok (Operator Minus) nil)
signs BitNot h = by_row part.Sign 5 _ refl refl (tok (Operator BitNot) nil)
signs LogicNot h = by_row part.Sign 6 _ refl refl (tok (Operator LogicNot) nil)
signs BitAnd h = by_row part.Sign 7 _ refl refl (tok (Operator BitAnd) nil)
signs BitOr h = by_row part.Sign 8 _ refl refl (tok (Operator BitOr) nil)
signs BitXor h = by_row part.Sign 9 _ refl refl (tok (Operator BitXor) nil)
signs LogicOr h = absurd (cc h)
signs _ h = absurd (cc h)

cast_words : (k : Key) → IsTrue (is_cast_word k) → Fit (rule part.CastWord ∷ []) (Reserved k ∷ [])
unfolding is_cast_word
cast_words LogicKey h = by_row part.CastWord 69 _ refl refl (tok (Reserved LogicKey) nil)
cast_words SignedKey h = by_row part.CastWord 70 _ refl refl (tok (Reserved SignedKey) nil)
cast_words UnsignedKey h = by_row part.CastWord 71 _ refl refl (tok (Reserved UnsignedKey) nil)
cast_words IntegerKey h = by_row part.CastWord 72 _ refl refl (tok (Reserved IntegerKey) nil)
cast_words IntKey h = by_row part.CastWord 73 _ refl refl (tok (Reserved IntKey) nil)
cast_words IfKey h = absurd (cc h)
cast_words _ h = absurd (cc h)

macros : (m : List ℕ) → Fit (rule part.AnyMacro ∷ []) (MacroWord m ∷ [])
macros m = go (bytes_eq m (codes "include")) refl
  where
    go : (b : Bool) → bytes_eq m (codes "include") ≡ b → Fit (rule part.AnyMacro ∷ []) (MacroWord m ∷ [])
    go true e = by_row part.AnyMacro 53 _ refl refl (λ fs. (named_by (name_of (MacroWord m)) fs, a_token (MacroWord m) (rw e refl) no_items))
    go false e = by_row part.AnyMacro 52 _ refl refl (λ fs. (named_by (name_of (MacroWord m)) fs, a_token (MacroWord m) (rw e refl) no_items))

-- A mark after items.
ending : {s : List Item} {ts : List Token} (m : Punct) → Fit s ts → Fit (s ++ item.Token (token_kind (Mark m)) ∷ []) (ts ++ (Mark m ∷ []))
ending m p = p then tok (Mark m) nil

casts : {ts : List Token} → Fit (rule part.Expression ∷ []) ts → Fit (rule part.Cast ∷ []) (Mark Apostrophe ∷ (Mark OpenParen ∷ (ts ++ (Mark CloseParen ∷ []))))
casts p = by_row part.Cast 51 _ refl refl (tok (Mark Apostrophe) (tok (Mark OpenParen) (ending CloseParen p)))

maybe : {ts : List Token} → Fit (rule part.Cast ∷ []) ts → Fit (rule part.MaybeCast ∷ []) ts
maybe p = by_row part.MaybeCast 60 _ refl refl p

no_cast : Fit (rule part.MaybeCast ∷ []) []
no_cast = by_row part.MaybeCast 59 _ refl refl nil

mutual
  fits : {k : ℕ} {ts : List Token} {x : NormalExpr} → Spells k ts x → Fits k ts
  fits {ts = ts} (up {k = k} small e) = by_up k ts small (fits e)
  fits (ternary {cs = cs} {us = us} {bs = bs} c a b) = by_whole 0 _ (lit< tt) (by_row part.Expression 0 _ refl refl ((fits c).chain Loose (lit≤ tt) (Mark Question ∷ (us ++ (Mark Colon ∷ bs))) (by_row part.Rest 12 _ refl refl (tok (Mark Question) ((fits a).whole then tok (Mark Colon) (fits b).whole)))))
  fits (binary {ls = ls} {rs = rs} o pos l r) = let small : level o ≤ 11 = level_small o in
      by_chain (level o) _ (omega (arith, small)) (omega (arith, pos)) (λ c low us q.
      rw (append_assoc ls (Operator o ∷ rs) us) ((fits l).chain c low (Operator o ∷ (rs ++ us)) (linked c o low pos ((fits r).chain c (omega (arith, low)) us q))))
  fits (unary o h e) = by_operand 12 _ (lit< tt) (by_row part.Operand 2 _ refl refl (signs o h then (fits e).operand (lit≤ tt)))
  fits (index {ss = ss} {is = is} s i) = by_selects 13 _ (lit< tt) (λ us q. rw append_assoc ((fits s).selects (lit≤ tt) (Mark OpenBracket ∷ ((is ++ (Mark CloseBracket ∷ [])) ++ us))
      (let z : Fit (rule part.Selects ∷ []) (Mark OpenBracket ∷ (is ++ (Mark CloseBracket ∷ us))) = by_row part.Selects 36 _ refl refl (tok (Mark OpenBracket) ((fits i).whole then by_row part.SelectEnd 38 _ refl refl (tok (Mark CloseBracket) nil) then q)) in rw (append_assoc is (Mark CloseBracket ∷ []) us) z)))
  fits (slice {ss = ss} {hs = hs} {ls = ls} s h l) = by_selects 13 _ (lit< tt) (λ us q. rw append_assoc ((fits s).selects (lit≤ tt) (Mark OpenBracket ∷ ((hs ++ (Mark Colon ∷ (ls ++ (Mark CloseBracket ∷ [])))) ++ us))
      (let z : Fit (rule part.Selects ∷ []) (Mark OpenBracket ∷ (hs ++ ((Mark Colon ∷ (ls ++ (Mark CloseBracket ∷ []))) ++ us))) = by_row part.Selects 36 _ refl refl (tok (Mark OpenBracket) ((fits h).whole then by_row part.SelectEnd 39 _ refl refl (tok (Mark Colon) (ending CloseBracket (fits l).whole)) then q)) in rw (append_assoc hs (Mark Colon ∷ (ls ++ (Mark CloseBracket ∷ []))) us) z)))
  fits (part_select {ss = ss} {is = is} n s i) = by_selects 13 _ (lit< tt) (λ us q. rw append_assoc ((fits s).selects (lit≤ tt) (Mark OpenBracket ∷ ((is ++ (Mark PlusColon ∷ (Number n ∷ (Mark CloseBracket ∷ [])))) ++ us))
      (let z : Fit (rule part.Selects ∷ []) (Mark OpenBracket ∷ (is ++ (Mark PlusColon ∷ (Number n ∷ (Mark CloseBracket ∷ us))))) = by_row part.Selects 36 _ refl refl (tok (Mark OpenBracket) ((fits i).whole then by_row part.SelectEnd 40 _ refl refl (tok (Mark PlusColon) (tok (Number n) (tok (Mark CloseBracket) nil))) then q)) in rw (append_assoc is (Mark PlusColon ∷ (Number n ∷ (Mark CloseBracket ∷ []))) us) z)))
  fits (member_of m s) = by_selects 13 _ (lit< tt) (λ us q. rw append_assoc ((fits s).selects (lit≤ tt) (Mark Dot ∷ (Word m ∷ us)) (by_row part.Selects 37 _ refl refl (tok (Mark Dot) (tok (Word m) q)))))
  fits (name w) = by_primary 14 _ (by_row part.Primary 41 _ refl refl (tok (Word w) (by_row part.AfterName 56 _ refl refl no_cast)))
  fits (number w) = by_primary 14 _ (by_row part.Primary 42 _ refl refl (tok (Number w) no_cast))
  fits (based w) = by_primary 14 _ (by_row part.Primary 43 _ refl refl (tok (Based w) nil))
  fits (quoted w) = by_primary 14 _ (by_row part.Primary 44 _ refl refl (tok (Quoted w) nil))
  fits (paren e) = by_primary 14 _ (by_row part.Primary 47 _ refl refl (tok (Mark OpenParen) ((fits e).whole then tok (Mark CloseParen) no_cast)))
  fits (call f es) = by_primary 14 _ (by_row part.Primary 41 _ refl refl (tok (Word f) (by_row part.AfterName 57 _ refl refl (tok (Mark OpenParen) (ending CloseParen (lists es))))))
  fits (system_alone f) = by_primary 14 _ (by_row part.Primary 45 _ refl refl (tok (SystemWord f) (by_row part.MacroList 54 _ refl refl nil)))
  fits (system_call f es) = by_primary 14 _ (by_row part.Primary 45 _ refl refl (tok (SystemWord f) (by_row part.MacroList 55 _ refl refl (tok (Mark OpenParen) (ending CloseParen (lists es))))))
  fits (concat es) = by_primary 14 _ (by_row part.Primary 49 _ refl refl (tok (Mark OpenBrace) (braced es)))
  fits (replicated n es) = by_primary 14 _ (by_row part.Primary 49 _ refl refl (tok (Mark OpenBrace) (by_row part.Braces 66 _ refl refl ((fits n).whole then by_row part.BraceEnd 68 _ refl refl (tok (Mark OpenBrace) (lists es then tok (Mark CloseBrace) (tok (Mark CloseBrace) nil)))))))
  fits (array_pattern es) = by_primary 14 _ (by_row part.Primary 48 _ refl refl (tok (Mark Apostrophe) (tok (Mark OpenBrace) (ending CloseBrace (lists es)))))
  fits (macro_alone m) = by_primary 14 _ (by_row part.Primary 46 _ refl refl (macros m then by_row part.MacroList 54 _ refl refl nil))
  fits (macro_call m es) = by_primary 14 _ (by_row part.Primary 46 _ refl refl (macros m then by_row part.MacroList 55 _ refl refl (tok (Mark OpenParen) (ending CloseParen (lists es)))))
  fits (number_cast n e) = by_primary 14 _ (by_row part.Primary 42 _ refl refl (tok (Number n) (maybe (casts (fits e).whole))))
  fits (name_cast w e) = by_primary 14 _ (by_row part.Primary 41 _ refl refl (tok (Word w) (by_row part.AfterName 56 _ refl refl (maybe (casts (fits e).whole)))))
  fits (package_cast p w e) = by_primary 14 _ (by_row part.Primary 41 _ refl refl (tok (Word p) (by_row part.AfterName 58 _ refl refl (tok (Mark DoubleColon) (tok (Word w) (casts (fits e).whole))))))
  fits (paren_cast h e) = by_primary 14 _ (by_row part.Primary 47 _ refl refl (tok (Mark OpenParen) ((fits h).whole then tok (Mark CloseParen) (maybe (casts (fits e).whole)))))
  fits (word_cast w h e) = by_primary 14 _ (by_row part.Primary 50 _ refl refl (cast_words w h then casts (fits e).whole))

  lists : {ts : List Token} {xs : NormalExprs} → SpellsList ts xs → Fit (rule part.Listed ∷ []) ts
  lists none = by_row part.Listed 61 _ refl refl nil
  lists (some p) = by_row part.Listed 62 _ refl refl (seq p)

  -- An expression, and more.
  seq : {ts : List Token} {xs : NormalExprs} → SpellsJoined ts xs → Fit (rule part.Expression ∷ rule part.More ∷ []) ts
  seq (last {ts = ts} e) = let z : Fit (rule part.Expression ∷ rule part.More ∷ []) (ts ++ []) = (fits e).whole then by_row part.More 63 _ refl refl nil in rw (append-nil ts) at z
  seq (next e p) = (fits e).whole then by_row part.More 64 _ refl refl (tok (Mark Comma) (seq p))

  braced : {ts : List Token} {xs : NormalExprs} → SpellsList ts xs → Fit (rule part.Braces ∷ []) (ts ++ (Mark CloseBrace ∷ []))
  braced none = by_row part.Braces 65 _ refl refl (tok (Mark CloseBrace) nil)
  braced (some (last {ts = ts} e)) = by_row part.Braces 66 _ refl refl ((fits e).whole then by_row part.BraceEnd 67 _ refl refl (by_row part.More 63 _ refl refl nil then tok (Mark CloseBrace) nil))
  braced (some (next {ts = ts} {us = us} e p)) = let z : Fit (rule part.Braces ∷ []) (ts ++ ((Mark Comma ∷ us) ++ (Mark CloseBrace ∷ []))) = by_row part.Braces 66 _ refl refl ((fits e).whole then by_row part.BraceEnd 67 _ refl refl (by_row part.More 64 _ refl refl (tok (Mark Comma) (seq p)) then tok (Mark CloseBrace) nil)) in rw (append_assoc ts (Mark Comma ∷ us) (Mark CloseBrace ∷ [])) z

-- Expressions and targets.
pub expression_spelled : {ts : List Token} {x : NormalExpr} → Spells 0 ts x → (es : List Event) × Rowed expression_page (rule part.Expression ∷ []) ts es []
expression_spelled e = (fits e).whole []

pub target_spelled : {ts : List Token} {x : NormalExpr} → Spells 13 ts x → (es : List Event) × Rowed expression_page (rule part.Target ∷ []) ts es []
target_spelled {ts} e =
    let d : Fit (rule part.Primary ∷ rule part.Selects ∷ []) (ts ++ []) = (fits e).selects (lit≤ tt) [] (by_row part.Selects 35 _ refl refl nil) in
    let f : Fit (rule part.Primary ∷ rule part.Selects ∷ []) ts = rw (append-nil ts) at d in
    let g : Fit (rule part.Target ∷ []) ts = by_row part.Target 1 _ refl refl f in g []

pub bound_spelled : {ts : List Token} {x : NormalExpr} → Spells 8 ts x → (es : List Event) × Rowed expression_page (rule part.Bound ∷ []) ts es []
bound_spelled {ts} e =
    let d : Fit (rule part.Operand ∷ rule part.TightRest ∷ []) (ts ++ []) = (fits e).chain Tight (lit≤ tt) [] (by_row part.TightRest 75 _ refl refl nil) in
    let f : Fit (rule part.Operand ∷ rule part.TightRest ∷ []) ts = rw (append-nil ts) at d in
    let g : Fit (rule part.Bound ∷ []) ts = by_row part.Bound 74 _ refl refl f in g []
