-- What the grammar derives runs, whatever quiet tokens follow.
use Rattle.std.proofs.Common.{◌≡◌, ℕ, suc, ◌≤◌, ◌<◌, List, [], ◌∷◌, ◌++◌, refl, arith, append_assoc, IsTrue}
use Rattle.vast_literal.specs.Tokens.{level, is_unary, Token, Reserved, Word, SystemWord, MacroWord, Number, Based, Quoted, Operator, Mark}
use Rattle.vast_literal.proofs.Levels.{level_small}
use Rattle.vast_expressions.specs.Signs.{Op, Punct, OpenParen, CloseParen, OpenBracket, CloseBracket, OpenBrace, CloseBrace, Comma, Colon, Dot, Question, DoubleColon, PlusColon, Apostrophe, Key}
use Rattle.vast_literal.specs.NormalExpr.{NormalExpr, Name, Literal, Text, MacroAlone, Unary, Binary, Ternary, Index, Slice, PartSelect, MemberOf, Concat, Pattern, Replicated, Call, MacroCall, Cast, PackageCast, WordCast, NormalExprs, NoNormals, MoreNormals}
use Rattle.vast_literal.specs.Grammar.{is_cast_word, Spells, up, ternary, binary, unary, index, slice, part_select, member_of, name, number, based, quoted, paren, call, system_alone, system_call, concat, replicated, array_pattern, macro_alone, macro_call, number_cast, name_cast, package_cast, paren_cast, word_cast, SpellsList, none, some, SpellsJoined, last, next}
use Rattle.vast_expressions.specs.Events.{UnaryT, BinaryT, TernaryT, IndexT, SliceT, OneT, PushT, ConcatT, PatternT, ReplicatedT, CallT, MacroCallT, CastT, PackageCastT, WordCastT, Event, PartSelectE, MemberOfE, Made, trace, traces, mores}
use Rattle.vast_expressions.specs.Phrases.{Quiet}
use Rattle.vast_expressions.specs.Rows.{Item, Emit, Expression, Operand, Rest, Right, Selects, Primary, MaybeCast, Arguments, More, Braces, BraceNext, Goes, code, operand_row, rest_row, selects_row, select_end_row, member_name_row, primary_row, word_row, system_row, macro_row, maybe_cast_row, type_name_row, arguments_row, more_row, braces_row, brace_next_row, Runs, done, goes, tells}
use Rattle.vast_expressions.proofs.Determined.{then}
use Rattle.vast_expressions.proofs.Moves.{quieter, Binds, at_rest, at_right, binds_more, stop_rest, stop_right, unary_more, stop_selects, taken, emitted, stop_cast, word_runs, system_runs, macro_runs, word_cast_row}

-- no unary operator comes first
abbrev pub Plain : List Token → Type 0
Plain ts = (rest : List Token) → operand_row (ts ++ rest) ≡ Goes (Primary ∷ Selects ∷ []) (ts ++ rest)

abbrev pub PrimaryRuns : List Token → NormalExpr → Type 0
PrimaryRuns ts t = (rest : List Token) (es : List Event) → Quiet 14 rest → Runs (Primary ∷ []) (ts ++ rest) (trace t es) rest es

abbrev pub SelectsRun : List Token → NormalExpr → Type 0
SelectsRun ts t = (rest us : List Token) (es fs : List Event) → Quiet 14 rest → Runs (Selects ∷ []) rest es us fs → Runs (Primary ∷ Selects ∷ []) (ts ++ rest) (trace t es) us fs

abbrev pub OperandRuns : List Token → NormalExpr → Type 0
OperandRuns ts t = (rest : List Token) (es : List Event) → Quiet 13 rest → Runs (Operand ∷ []) (ts ++ rest) (trace t es) rest es

-- operators above the level j are left to what comes after, those below b stop it
abbrev pub BinaryRuns : ℕ → List Token → NormalExpr → Type 0
BinaryRuns k ts t = (i : Item) (j b : ℕ) (rs us : List Token) (es fs : List Event) → Binds i j → j < k → b ≤ suc k → b ≤ 13 → Quiet b rs →
    Runs (i ∷ []) rs es us fs → Runs (Operand ∷ i ∷ []) (ts ++ rs) (trace t es) us fs

abbrev pub ExpressionRuns : List Token → NormalExpr → Type 0
ExpressionRuns ts t = (rest : List Token) (es : List Event) → Quiet 0 rest → Runs (Expression ∷ []) (ts ++ rest) (trace t es) rest es

-- the tokens, with any after them, do not close a list
pub record Starts (ts : List Token) : Type 0 where
  pub paren : (rest : List Token) → arguments_row CloseParen (ts ++ rest) ≡ Goes (Expression ∷ Emit OneT ∷ More CloseParen ∷ []) (ts ++ rest)
  pub brace : (rest : List Token) → arguments_row CloseBrace (ts ++ rest) ≡ Goes (Expression ∷ Emit OneT ∷ More CloseBrace ∷ []) (ts ++ rest)
  pub braces : (rest : List Token) → braces_row (ts ++ rest) ≡ Goes (Expression ∷ BraceNext ∷ []) (ts ++ rest)

pub record IsRun (k : ℕ) (ts : List Token) (t : NormalExpr) : Type 0 where
  pub starts : Starts ts
  pub plain : 13 ≤ k → Plain ts
  pub selects : 13 ≤ k → SelectsRun ts t
  pub operand : 12 ≤ k → OperandRuns ts t
  pub binary : 1 ≤ k → BinaryRuns k ts t
  pub expression : ExpressionRuns ts t

-- each form from the one below

of_expression : (ts : List Token) (t : NormalExpr) → Starts ts → ExpressionRuns ts t → IsRun 0 ts t
of_expression ts t s h = record {
  starts = s;
  plain = λ big. absurd (omega arith);
  selects = λ big. absurd (omega arith);
  operand = λ big. absurd (omega arith);
  binary = λ big. absurd (omega arith);
  expression = h;
}

expression_of : (k : ℕ) (ts : List Token) (t : NormalExpr) → 1 ≤ k → BinaryRuns k ts t → ExpressionRuns ts t
expression_of k ts t one h us es q = goes refl (h Rest 0 0 us us es es at_rest one (omega arith) (omega arith) q (stop_rest us es q)) done

of_binary : (k : ℕ) (ts : List Token) (t : NormalExpr) → k ≤ 11 → 1 ≤ k → Starts ts → BinaryRuns k ts t → IsRun k ts t
of_binary k ts t small one s h = record {
  starts = s;
  plain = λ big. absurd (omega arith);
  selects = λ big. absurd (omega arith);
  operand = λ big. absurd (omega arith);
  binary = λ _. h;
  expression = expression_of k ts t one h;
}

binary_of : (k : ℕ) (ts : List Token) (t : NormalExpr) → OperandRuns ts t → BinaryRuns k ts t
binary_of k ts t h i j b rs us es fs n jk bk small q r = then (h rs es (quieter b 13 rs small q)) r

of_operand : (ts : List Token) (t : NormalExpr) → Starts ts → OperandRuns ts t → IsRun 12 ts t
of_operand ts t s h = record {
  starts = s;
  plain = λ big. absurd (omega arith);
  selects = λ big. absurd (omega arith);
  operand = λ _. h;
  binary = λ _. binary_of 12 ts t h;
  expression = expression_of 12 ts t (omega arith) (binary_of 12 ts t h);
}

operand_of : (ts : List Token) (t : NormalExpr) → Plain ts → SelectsRun ts t → OperandRuns ts t
operand_of ts t f h rest es q = goes (f rest) (h rest rest es es (quieter 13 14 rest (omega arith) q) (stop_selects rest es q)) done

of_selects : (k : ℕ) (ts : List Token) (t : NormalExpr) → 12 ≤ k → Starts ts → Plain ts → SelectsRun ts t → IsRun k ts t
of_selects k ts t big s f h = record {
  starts = s;
  plain = λ _. f;
  selects = λ _. h;
  operand = λ _. operand_of ts t f h;
  binary = λ _. binary_of k ts t (operand_of ts t f h);
  expression = expression_of k ts t (omega arith) (binary_of k ts t (operand_of ts t f h));
}

of_primary : (ts : List Token) (t : NormalExpr) → Starts ts → Plain ts → PrimaryRuns ts t → IsRun 14 ts t
of_primary ts t s f h = of_selects 14 ts t (omega arith) s f (λ rest us es fs q r. then (h rest es q) r)

plain_front : (ss us : List Token) → Plain ss → Plain (ss ++ us)
plain_front ss us h rest = simp append_assoc (h (us ++ rest))

starts_front : (ss us : List Token) → Starts ss → Starts (ss ++ us)
starts_front ss us h = record { paren = λ rest. simp append_assoc (h.paren (us ++ rest)); brace = λ rest. simp append_assoc (h.brace (us ++ rest)); braces = λ rest. simp append_assoc (h.braces (us ++ rest)) }

-- each constructor

up_runs : (k : ℕ) (ts : List Token) (t : NormalExpr) → IsRun (suc k) ts t → IsRun k ts t
up_runs k ts t h = record {
  starts = h.starts;
  plain = λ big. h.plain (omega arith);
  selects = λ big. h.selects (omega arith);
  operand = λ big. h.operand (omega arith);
  binary = λ one i j b rs us es fs n jk bk small q r. h.binary (omega arith) i j b rs us es fs n (omega arith) (omega arith) small q r;
  expression = h.expression;
}

ternary_runs : (cs us bs : List Token) (c a b : NormalExpr) → IsRun 1 cs c → IsRun 0 us a → IsRun 0 bs b → IsRun 0 (cs ++ (Mark Question ∷ (us ++ (Mark Colon ∷ bs)))) (Ternary c a b)
unfolding trace rest_row
ternary_runs cs us bs c a b hc ha hb = of_expression _ _ (starts_front cs _ hc.starts) (λ vs es q. simp append_assoc
    (goes refl (hc.binary (omega arith) Rest 0 1 (Mark Question ∷ (us ++ (Mark Colon ∷ (bs ++ vs)))) vs (trace a (trace b (Made TernaryT ∷ es))) es at_rest (omega arith) (omega arith) (omega arith) (omega arith)
    (goes refl (then (ha.expression (Mark Colon ∷ (bs ++ vs)) (trace b (Made TernaryT ∷ es)) tt) (taken Colon (then (hb.expression vs (Made TernaryT ∷ es) q) (emitted TernaryT done)))) done)) done))

binary_runs : (ls rs : List Token) (l r : NormalExpr) (op : Op) → 0 < level op → level op ≤ 11 → IsRun (level op) ls l → IsRun (suc (level op)) rs r → IsRun (level op) (ls ++ (Operator op ∷ rs)) (Binary op l r)
unfolding trace
binary_runs ls rs l r op pos small hl hr = of_binary (level op) _ _ small (omega arith) (starts_front ls _ hl.starts) (λ i j b vs us es fs n jk bk low q k. simp append_assoc
    (hl.binary (omega arith) i j (suc (level op)) (Operator op ∷ (rs ++ vs)) us (trace r (Made (BinaryT op) ∷ es)) fs n jk (omega arith) (omega arith) (omega arith)
    (goes (binds_more i j op (rs ++ vs) n jk) (then (hr.binary (omega arith) (Right op) (level op) b vs vs (Made (BinaryT op) ∷ es) es (at_right op pos) (omega arith) (omega arith) low q
    (stop_right op vs es (quieter b (suc (level op)) vs bk q))) k) done)))

unary_runs : (ts : List Token) (t : NormalExpr) (op : Op) → IsTrue (is_unary op) → IsRun 12 ts t → IsRun 12 (Operator op ∷ ts) (Unary op t)
unfolding trace arguments_row braces_row
unary_runs ts t op u h = of_operand _ _ (record { paren = λ rest. refl; brace = λ rest. refl; braces = λ rest. refl }) (λ rest es q. goes (unary_more op (ts ++ rest) u) (then (h.operand (omega arith) rest (Made (UnaryT op) ∷ es) q) (emitted (UnaryT op) done)) done)

index_runs : (ss is : List Token) (s i : NormalExpr) → IsRun 13 ss s → IsRun 0 is i → IsRun 13 (ss ++ (Mark OpenBracket ∷ (is ++ (Mark CloseBracket ∷ [])))) (Index s i)
unfolding trace selects_row select_end_row
index_runs ss is s i hs hi = of_selects 13 _ _ (omega arith) (starts_front ss _ hs.starts) (plain_front ss _ (hs.plain (omega arith))) (λ rest us es fs q r. simp append_assoc
    (hs.selects (omega arith) (Mark OpenBracket ∷ (is ++ (Mark CloseBracket ∷ rest))) us (trace i (Made IndexT ∷ es)) fs (omega arith)
    (goes refl (then (hi.expression (Mark CloseBracket ∷ rest) (Made IndexT ∷ es) tt) (goes refl (emitted IndexT r) done)) done)))

slice_runs : (ss hs ls : List Token) (s h l : NormalExpr) → IsRun 13 ss s → IsRun 0 hs h → IsRun 0 ls l →
    IsRun 13 (ss ++ (Mark OpenBracket ∷ (hs ++ (Mark Colon ∷ (ls ++ (Mark CloseBracket ∷ [])))))) (Slice s h l)
unfolding trace selects_row select_end_row
slice_runs ss hs ls s h l rs rh rl = of_selects 13 _ _ (omega arith) (starts_front ss _ rs.starts) (plain_front ss _ (rs.plain (omega arith))) (λ rest us es fs q r. simp append_assoc
    (rs.selects (omega arith) (Mark OpenBracket ∷ (hs ++ (Mark Colon ∷ (ls ++ (Mark CloseBracket ∷ rest))))) us (trace h (trace l (Made SliceT ∷ es))) fs (omega arith)
    (goes refl (then (rh.expression (Mark Colon ∷ (ls ++ (Mark CloseBracket ∷ rest))) (trace l (Made SliceT ∷ es)) tt)
    (goes refl (then (rl.expression (Mark CloseBracket ∷ rest) (Made SliceT ∷ es) tt) (taken CloseBracket (emitted SliceT r))) done)) done)))

part_runs : (ss is : List Token) (s i : NormalExpr) (n : List ℕ) → IsRun 13 ss s → IsRun 0 is i →
    IsRun 13 (ss ++ (Mark OpenBracket ∷ (is ++ (Mark PlusColon ∷ (Number n ∷ (Mark CloseBracket ∷ [])))))) (PartSelect s i n)
unfolding trace selects_row select_end_row
part_runs ss is s i n hs hi = of_selects 13 _ _ (omega arith) (starts_front ss _ hs.starts) (plain_front ss _ (hs.plain (omega arith))) (λ rest us es fs q r. simp append_assoc
    (hs.selects (omega arith) (Mark OpenBracket ∷ (is ++ (Mark PlusColon ∷ (Number n ∷ (Mark CloseBracket ∷ rest))))) us (trace i (PartSelectE n ∷ es)) fs (omega arith)
    (goes refl (then (hi.expression (Mark PlusColon ∷ (Number n ∷ (Mark CloseBracket ∷ rest))) (PartSelectE n ∷ es) tt) (tells refl (taken CloseBracket r) done)) done)))

member_runs : (ss : List Token) (s : NormalExpr) (m : List ℕ) → IsRun 13 ss s → IsRun 13 (ss ++ (Mark Dot ∷ (Word m ∷ []))) (MemberOf s m)
unfolding trace selects_row member_name_row
member_runs ss s m hs = of_selects 13 _ _ (omega arith) (starts_front ss _ hs.starts) (plain_front ss _ (hs.plain (omega arith))) (λ rest us es fs q r. simp append_assoc
    (hs.selects (omega arith) (Mark Dot ∷ (Word m ∷ rest)) us (MemberOfE m ∷ es) fs (omega arith)
    (goes refl (tells refl r done) done)))

name_runs : (w : List ℕ) → IsRun 14 (Word w ∷ []) (Name w)
unfolding trace operand_row arguments_row braces_row code primary_row
name_runs w = of_primary _ _ (record { paren = λ rest. refl; brace = λ rest. refl; braces = λ rest. refl }) (λ rest. refl) (λ rest es q. word_runs w rest es q)

number_runs : (w : List ℕ) → IsRun 14 (Number w ∷ []) (Literal w)
unfolding trace operand_row arguments_row braces_row code primary_row
number_runs w = of_primary _ _ (record { paren = λ rest. refl; brace = λ rest. refl; braces = λ rest. refl }) (λ rest. refl) (λ rest es q. tells refl (stop_cast rest es q) done)

based_runs : (w : List ℕ) → IsRun 14 (Based w ∷ []) (Literal w)
unfolding trace operand_row arguments_row braces_row code primary_row
based_runs w = of_primary _ _ (record { paren = λ rest. refl; brace = λ rest. refl; braces = λ rest. refl }) (λ rest. refl) (λ rest es q. tells refl done done)

quoted_runs : (w : List ℕ) → IsRun 14 (Quoted w ∷ []) (Text w)
unfolding trace operand_row arguments_row braces_row code primary_row
quoted_runs w = of_primary _ _ (record { paren = λ rest. refl; brace = λ rest. refl; braces = λ rest. refl }) (λ rest. refl) (λ rest es q. tells refl done done)

macro_alone_runs : (w : List ℕ) → IsRun 14 (MacroWord w ∷ []) (MacroAlone w)
unfolding trace operand_row arguments_row braces_row code primary_row
macro_alone_runs w = of_primary _ _ (record { paren = λ rest. refl; brace = λ rest. refl; braces = λ rest. refl }) (λ rest. refl) (λ rest es q. macro_runs w rest es q)

system_alone_runs : (w : List ℕ) → IsRun 14 (SystemWord w ∷ []) (Call w NoNormals)
unfolding trace operand_row arguments_row braces_row code primary_row
system_alone_runs w = of_primary _ _ (record { paren = λ rest. refl; brace = λ rest. refl; braces = λ rest. refl }) (λ rest. refl) (λ rest es q. system_runs w rest es q)

paren_runs : (ts : List Token) (t : NormalExpr) → IsRun 0 ts t → IsRun 14 (Mark OpenParen ∷ (ts ++ (Mark CloseParen ∷ []))) (t)
unfolding trace operand_row arguments_row braces_row code primary_row
paren_runs ts t h = of_primary _ _ (record { paren = λ rest. refl; brace = λ rest. refl; braces = λ rest. refl }) (λ rest. refl) (λ rest es q. simp append_assoc (goes refl (then (h.expression (Mark CloseParen ∷ rest) es tt) (taken CloseParen (stop_cast rest es q))) done))

-- ' ( x ) after what it casts
cast_runs : (ts rest : List Token) (x : NormalExpr) (es : List Event) → IsRun 0 ts x → Runs (MaybeCast ∷ []) (Mark Apostrophe ∷ (Mark OpenParen ∷ (ts ++ (Mark CloseParen ∷ rest)))) (trace x (Made CastT ∷ es)) rest es
unfolding maybe_cast_row
cast_runs ts rest x es h = goes refl (taken OpenParen (then (h.expression (Mark CloseParen ∷ rest) (Made CastT ∷ es) tt) (taken CloseParen (emitted CastT done)))) done

number_cast_runs : (ts : List Token) (x : NormalExpr) (n : List ℕ) → IsRun 0 ts x → IsRun 14 (Number n ∷ (Mark Apostrophe ∷ (Mark OpenParen ∷ (ts ++ (Mark CloseParen ∷ []))))) (Cast (Literal n) x)
unfolding trace operand_row arguments_row braces_row code primary_row
number_cast_runs ts x n h = of_primary _ _ (record { paren = λ rest. refl; brace = λ rest. refl; braces = λ rest. refl }) (λ rest. refl) (λ rest es q. simp append_assoc (tells refl (cast_runs ts rest x es h) done))

name_cast_runs : (ts : List Token) (x : NormalExpr) (n : List ℕ) → IsRun 0 ts x → IsRun 14 (Word n ∷ (Mark Apostrophe ∷ (Mark OpenParen ∷ (ts ++ (Mark CloseParen ∷ []))))) (Cast (Name n) x)
unfolding trace operand_row arguments_row braces_row code primary_row word_row
name_cast_runs ts x n h = of_primary _ _ (record { paren = λ rest. refl; brace = λ rest. refl; braces = λ rest. refl }) (λ rest. refl) (λ rest es q. simp append_assoc (tells refl (cast_runs ts rest x es h) done))

paren_cast_runs : (hs ts : List Token) (h x : NormalExpr) → IsRun 0 hs h → IsRun 0 ts x → IsRun 14 (Mark OpenParen ∷ (hs ++ (Mark CloseParen ∷ (Mark Apostrophe ∷ (Mark OpenParen ∷ (ts ++ (Mark CloseParen ∷ []))))))) (Cast h x)
unfolding trace operand_row arguments_row braces_row code primary_row
paren_cast_runs hs ts h x rh rx = of_primary _ _ (record { paren = λ rest. refl; brace = λ rest. refl; braces = λ rest. refl }) (λ rest. refl) (λ rest es q. simp append_assoc (goes refl (then (rh.expression (Mark CloseParen ∷ (Mark Apostrophe ∷ (Mark OpenParen ∷ (ts ++ (Mark CloseParen ∷ rest))))) (trace x (Made CastT ∷ es)) tt) (taken CloseParen (cast_runs ts rest x es rx))) done))

package_cast_runs : (ts : List Token) (x : NormalExpr) (n w : List ℕ) → IsRun 0 ts x → IsRun 14 (Word n ∷ (Mark DoubleColon ∷ (Word w ∷ (Mark Apostrophe ∷ (Mark OpenParen ∷ (ts ++ (Mark CloseParen ∷ []))))))) (PackageCast n w x)
unfolding trace operand_row arguments_row braces_row code primary_row word_row type_name_row
package_cast_runs ts x n w h = of_primary _ _ (record { paren = λ rest. refl; brace = λ rest. refl; braces = λ rest. refl }) (λ rest. refl) (λ rest es q. simp append_assoc (tells refl (tells refl done (taken Apostrophe (taken OpenParen (then (h.expression (Mark CloseParen ∷ rest) (Made PackageCastT ∷ es) tt) (taken CloseParen (emitted PackageCastT done)))))) done))

word_cast_runs : (ts : List Token) (x : NormalExpr) (w : Key) → IsTrue (is_cast_word w) → IsRun 0 ts x → IsRun 14 (Reserved w ∷ (Mark Apostrophe ∷ (Mark OpenParen ∷ (ts ++ (Mark CloseParen ∷ []))))) (WordCast w x)
unfolding trace operand_row arguments_row braces_row code primary_row
word_cast_runs ts x w k h = of_primary _ _ (record { paren = λ rest. refl; brace = λ rest. refl; braces = λ rest. refl }) (λ rest. refl) (λ rest es q. simp append_assoc (goes (word_cast_row w _ k) (taken Apostrophe (taken OpenParen (then (h.expression (Mark CloseParen ∷ rest) (Made (WordCastT w) ∷ es) tt) (taken CloseParen (emitted (WordCastT w) done))))) done))

-- lists

-- a mark that closes a list
pub record Closer (q : Punct) : Type 0 where
  pub quiet : (rest : List Token) → Quiet 0 (Mark q ∷ rest)
  pub closes : (rest : List Token) → more_row q (Mark q ∷ rest) ≡ Goes [] rest

paren_closes : Closer CloseParen
unfolding more_row code
paren_closes = record { quiet = λ rest. tt; closes = λ rest. refl }

brace_closes : Closer CloseBrace
unfolding more_row code
brace_closes = record { quiet = λ rest. tt; closes = λ rest. refl }

pub record ListRuns (ts : List Token) (xs : NormalExprs) : Type 0 where
  pub starts : Starts ts
  pub first : (q : Punct) (rest : List Token) (es : List Event) → Closer q → Runs (Expression ∷ Emit OneT ∷ More q ∷ []) (ts ++ (Mark q ∷ rest)) (traces xs es) rest es
  pub later : (q : Punct) (rest : List Token) (es : List Event) → Closer q → Runs (Expression ∷ Emit PushT ∷ More q ∷ []) (ts ++ (Mark q ∷ rest)) (mores xs es) rest es
  pub concat : (rest : List Token) (es : List Event) → Runs (Expression ∷ BraceNext ∷ []) (ts ++ (Mark CloseBrace ∷ rest)) (traces xs (Made ConcatT ∷ es)) rest es

last_runs : (ts : List Token) (t : NormalExpr) → IsRun 0 ts t → ListRuns ts (MoreNormals t NoNormals)
unfolding trace brace_next_row
last_runs ts t h = record {
  starts = h.starts;
  first = λ q rest es c. then (h.expression (Mark q ∷ rest) (Made OneT ∷ es) (c.quiet rest)) (emitted OneT (goes (c.closes rest) done done));
  later = λ q rest es c. then (h.expression (Mark q ∷ rest) (Made PushT ∷ es) (c.quiet rest)) (emitted PushT (goes (c.closes rest) done done));
  concat = λ rest es. then (h.expression (Mark CloseBrace ∷ rest) (Made OneT ∷ (Made ConcatT ∷ es)) tt)
      (goes refl (emitted OneT (goes (brace_closes.closes rest) done (emitted ConcatT done))) done);
}

next_runs : (ts us : List Token) (t : NormalExpr) (xs : NormalExprs) → IsRun 0 ts t → ListRuns us xs → ListRuns (ts ++ (Mark Comma ∷ us)) (MoreNormals t xs)
unfolding trace brace_next_row more_row
next_runs ts us t xs h hs = record {
  starts = starts_front ts _ h.starts;
  first = λ q rest es c. simp append_assoc (then (h.expression (Mark Comma ∷ (us ++ (Mark q ∷ rest))) (Made OneT ∷ mores xs es) tt) (emitted OneT (goes refl (hs.later q rest es c) done)));
  later = λ q rest es c. simp append_assoc (then (h.expression (Mark Comma ∷ (us ++ (Mark q ∷ rest))) (Made PushT ∷ mores xs es) tt) (emitted PushT (goes refl (hs.later q rest es c) done)));
  concat = λ rest es. simp append_assoc (then (h.expression (Mark Comma ∷ (us ++ (Mark CloseBrace ∷ rest))) (Made OneT ∷ mores xs (Made ConcatT ∷ es)) tt)
      (goes refl (emitted OneT (goes refl (hs.later CloseBrace rest (Made ConcatT ∷ es) brace_closes) (emitted ConcatT done))) done));
}

pub record ArgumentRuns (ts : List Token) (xs : NormalExprs) : Type 0 where
  pub paren : (rest : List Token) (es : List Event) → Runs (Arguments CloseParen ∷ []) (ts ++ (Mark CloseParen ∷ rest)) (traces xs es) rest es
  pub brace : (rest : List Token) (es : List Event) → Runs (Arguments CloseBrace ∷ []) (ts ++ (Mark CloseBrace ∷ rest)) (traces xs es) rest es
  pub braces : (rest : List Token) (es : List Event) → Runs (Braces ∷ []) (ts ++ (Mark CloseBrace ∷ rest)) (traces xs (Made ConcatT ∷ es)) rest es

none_runs : ArgumentRuns [] NoNormals
unfolding trace arguments_row braces_row code
none_runs = record { paren = λ rest es. tells refl done done; brace = λ rest es. tells refl done done; braces = λ rest es. tells refl (emitted ConcatT done) done }

some_runs : (ts : List Token) (xs : NormalExprs) → ListRuns ts xs → ArgumentRuns ts xs
some_runs ts xs h = record {
  paren = λ rest es. goes (h.starts.paren (Mark CloseParen ∷ rest)) (h.first CloseParen rest es paren_closes) done;
  brace = λ rest es. goes (h.starts.brace (Mark CloseBrace ∷ rest)) (h.first CloseBrace rest es brace_closes) done;
  braces = λ rest es. goes (h.starts.braces (Mark CloseBrace ∷ rest)) (h.concat rest es) done;
}

call_runs : (ts : List Token) (xs : NormalExprs) (f : List ℕ) → ArgumentRuns ts xs → IsRun 14 (Word f ∷ (Mark OpenParen ∷ (ts ++ (Mark CloseParen ∷ [])))) (Call f xs)
unfolding trace operand_row arguments_row braces_row code primary_row word_row
call_runs ts xs f h = of_primary _ _ (record { paren = λ rest. refl; brace = λ rest. refl; braces = λ rest. refl }) (λ rest. refl) (λ rest es q. simp append_assoc (tells refl (then (h.paren rest (Made CallT ∷ es)) (emitted CallT done)) done))

system_call_runs : (ts : List Token) (xs : NormalExprs) (f : List ℕ) → ArgumentRuns ts xs → IsRun 14 (SystemWord f ∷ (Mark OpenParen ∷ (ts ++ (Mark CloseParen ∷ [])))) (Call f xs)
unfolding trace operand_row arguments_row braces_row code primary_row system_row
system_call_runs ts xs f h = of_primary _ _ (record { paren = λ rest. refl; brace = λ rest. refl; braces = λ rest. refl }) (λ rest. refl) (λ rest es q. simp append_assoc (tells refl (then (h.paren rest (Made CallT ∷ es)) (emitted CallT done)) done))

macro_call_runs : (ts : List Token) (xs : NormalExprs) (f : List ℕ) → ArgumentRuns ts xs → IsRun 14 (MacroWord f ∷ (Mark OpenParen ∷ (ts ++ (Mark CloseParen ∷ [])))) (MacroCall f xs)
unfolding trace operand_row arguments_row braces_row code primary_row macro_row
macro_call_runs ts xs f h = of_primary _ _ (record { paren = λ rest. refl; brace = λ rest. refl; braces = λ rest. refl }) (λ rest. refl) (λ rest es q. simp append_assoc (tells refl (then (h.paren rest (Made MacroCallT ∷ es)) (emitted MacroCallT done)) done))

pattern_runs : (ts : List Token) (xs : NormalExprs) → ArgumentRuns ts xs → IsRun 14 (Mark Apostrophe ∷ (Mark OpenBrace ∷ (ts ++ (Mark CloseBrace ∷ [])))) (Pattern xs)
unfolding trace operand_row arguments_row braces_row code primary_row
pattern_runs ts xs h = of_primary _ _ (record { paren = λ rest. refl; brace = λ rest. refl; braces = λ rest. refl }) (λ rest. refl) (λ rest es q. simp append_assoc (goes refl (taken OpenBrace (then (h.brace rest (Made PatternT ∷ es)) (emitted PatternT done))) done))

concat_runs : (ts : List Token) (xs : NormalExprs) → ArgumentRuns ts xs → IsRun 14 (Mark OpenBrace ∷ (ts ++ (Mark CloseBrace ∷ []))) (Concat xs)
unfolding trace operand_row arguments_row braces_row code primary_row
concat_runs ts xs h = of_primary _ _ (record { paren = λ rest. refl; brace = λ rest. refl; braces = λ rest. refl }) (λ rest. refl) (λ rest es q. simp append_assoc (goes refl (h.braces rest es) done))

replicated_runs : (ns ts : List Token) (n : NormalExpr) (xs : NormalExprs) → IsRun 0 ns n → ArgumentRuns ts xs → IsRun 14 (Mark OpenBrace ∷ (ns ++ (Mark OpenBrace ∷ (ts ++ (Mark CloseBrace ∷ (Mark CloseBrace ∷ [])))))) (Replicated n xs)
unfolding trace operand_row arguments_row braces_row code primary_row brace_next_row
replicated_runs ns ts n xs rn h = of_primary _ _ (record { paren = λ rest. refl; brace = λ rest. refl; braces = λ rest. refl }) (λ rest. refl) (λ rest es q. simp append_assoc (goes refl (goes (rn.starts.braces _) (then (rn.expression (Mark OpenBrace ∷ (ts ++ (Mark CloseBrace ∷ (Mark CloseBrace ∷ rest)))) (traces xs (Made ReplicatedT ∷ es)) tt) (goes refl (then (h.brace (Mark CloseBrace ∷ rest) (Made ReplicatedT ∷ es)) (taken CloseBrace (emitted ReplicatedT done))) done)) done) done))

mutual
  pub runs : (k : ℕ) (ts : List Token) (t : NormalExpr) → Spells k ts t → IsRun k ts t
  runs k ts t (up small e) = up_runs k ts t (runs _ _ _ e)
  runs k ts t (ternary c a b) = ternary_runs _ _ _ _ _ _ (runs _ _ _ c) (runs _ _ _ a) (runs _ _ _ b)
  runs k ts t (binary op pos l r) = binary_runs _ _ _ _ op pos (level_small op) (runs _ _ _ l) (runs _ _ _ r)
  runs k ts t (unary op h e) = unary_runs _ _ op h (runs _ _ _ e)
  runs k ts t (index s i) = index_runs _ _ _ _ (runs _ _ _ s) (runs _ _ _ i)
  runs k ts t (slice s h l) = slice_runs _ _ _ _ _ _ (runs _ _ _ s) (runs _ _ _ h) (runs _ _ _ l)
  runs k ts t (part_select n s i) = part_runs _ _ _ _ n (runs _ _ _ s) (runs _ _ _ i)
  runs k ts t (member_of m s) = member_runs _ _ m (runs _ _ _ s)
  runs k ts t (name w) = name_runs w
  runs k ts t (number w) = number_runs w
  runs k ts t (based w) = based_runs w
  runs k ts t (quoted w) = quoted_runs w
  runs k ts t (paren e) = paren_runs _ _ (runs _ _ _ e)
  runs k ts t (macro_alone w) = macro_alone_runs w
  runs k ts t (call f es) = call_runs _ _ f (argument_runs _ _ es)
  runs k ts t (system_call f es) = system_call_runs _ _ f (argument_runs _ _ es)
  runs k ts t (system_alone f) = system_alone_runs f
  runs k ts t (macro_call f es) = macro_call_runs _ _ f (argument_runs _ _ es)
  runs k ts t (concat es) = concat_runs _ _ (argument_runs _ _ es)
  runs k ts t (replicated n es) = replicated_runs _ _ _ _ (runs _ _ _ n) (argument_runs _ _ es)
  runs k ts t (array_pattern es) = pattern_runs _ _ (argument_runs _ _ es)
  runs k ts t (number_cast n e) = number_cast_runs _ _ n (runs _ _ _ e)
  runs k ts t (name_cast w e) = name_cast_runs _ _ w (runs _ _ _ e)
  runs k ts t (package_cast p w e) = package_cast_runs _ _ p w (runs _ _ _ e)
  runs k ts t (paren_cast h e) = paren_cast_runs _ _ _ _ (runs _ _ _ h) (runs _ _ _ e)
  runs k ts t (word_cast w h e) = word_cast_runs _ _ w h (runs _ _ _ e)

  argument_runs : (ts : List Token) (xs : NormalExprs) → SpellsList ts xs → ArgumentRuns ts xs
  argument_runs ts xs none = none_runs
  argument_runs ts xs (some j) = some_runs _ _ (list_runs _ _ j)

  list_runs : (ts : List Token) (xs : NormalExprs) → SpellsJoined ts xs → ListRuns ts xs
  list_runs ts xs (last e) = last_runs _ _ (runs _ _ _ e)
  list_runs ts xs (next e j) = next_runs _ _ _ _ (runs _ _ _ e) (list_runs _ _ j)
