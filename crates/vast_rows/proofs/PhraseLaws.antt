-- The phrases of the grammar: how they begin, and that those that stand at one place are one.
use Rattle.std.proofs.Common.{◌≡◌, ℕ, ◌≤◌, List, [], ◌∷◌, ◌++◌, Bool, true, false, codes, IsTrue, refl, ap, arith, append_assoc}
use Rattle.std.specs.Str.{bytes_eq}
use Rattle.std.proofs.lemmas.List.{append_cancel_right}
use Rattle.vast_literal.specs.Tokens.{level, is_unary, Token, Reserved, Word, MacroWord, Number, Operator, Mark}
use Rattle.vast_literal.specs.NormalExpr.{NormalExpr, Name, Binary}
use Rattle.vast_literal.specs.Grammar.{is_cast_word, Spells, up, ternary, binary, unary, index, slice, part_select, member_of, name, number, based, quoted, paren, call, system_alone, system_call, concat, replicated, array_pattern, macro_alone, macro_call, number_cast, name_cast, package_cast, paren_cast, word_cast}
use Rattle.vast_literal.proofs.Levels.{level_small}
use Rattle.vast_expressions.specs.Rows as item
use Rattle.vast_expressions.specs.Phrases.{Quiet}
use Rattle.vast_expressions.specs.Phrases as part
use Rattle.vast_expressions.proofs.Phrases.{one_phrase}
use Rattle.vast_rows.specs.declared.grammar.Phrase.{Phrase}
use Rattle.vast_rows.specs.declared.grammar.Phrase.TheVariants.{Expression, Target}
use Rattle.vast_rows.specs.Kinds.{has}
use Rattle.vast_rows.specs.Internal.Sources.{head_kind}
use Rattle.vast_rows.specs.Numbers.{Op, LogicOr, BitOr, BitXor, BitAnd, LessEqual, Less, Plus, Minus, BitNot, LogicNot, OpenParen, CloseParen, OpenBracket, Dot, Semicolon, Question, DoubleColon, Assign, Apostrophe, Key, IfKey, LogicKey, SignedKey, UnsignedKey, IntegerKey, IntKey}
use Rattle.vast_rows.specs.Phrases.{IsPhrase, expression, target, loop_head, path, Meaning, IsExpression, IsLoop, IsPath}
use Rattle.vast_rows.specs.Internal.PhraseKinds.{firsts, stops}

-- How an expression begins: at the upper levels with no sign.
record Begins (k : ℕ) (ts : List Token) : Type 0 where
  signed : (rest : List Token) → has (firsts Expression) (head_kind (ts ++ rest)) ≡ true
  bare : 13 ≤ k → (rest : List Token) → has (firsts Target) (head_kind (ts ++ rest)) ≡ true

-- What begins with something that begins so.
before : (k j : ℕ) (ts us : List Token) → (13 ≤ j → 13 ≤ k) → Begins k ts → Begins j (ts ++ us)
before k j ts us high b = record {
  signed = λ rest. rw (append_assoc ts us rest) (b.signed (us ++ rest));
  bare = λ h rest. rw (append_assoc ts us rest) (b.bare (high h) (us ++ rest));
}

-- What begins with a token of an operand.
operand : (k : ℕ) (t : Token) (ts : List Token) → has (firsts Expression) (head_kind (t ∷ [])) ≡ true → has (firsts Target) (head_kind (t ∷ [])) ≡ true → Begins k (t ∷ ts)
operand k t ts e b = record { signed = λ rest. e; bare = λ h rest. b }

sign : (op : Op) → IsTrue (is_unary op) → has (firsts Expression) (head_kind (Operator op ∷ [])) ≡ true
unfolding is_unary
sign Minus h = refl
sign BitNot h = refl
sign LogicNot h = refl
sign BitAnd h = refl
sign BitOr h = refl
sign BitXor h = refl
sign LogicOr h = absurd (cc h)
sign _ h = absurd (cc h)

cast_word : (k : Key) → IsTrue (is_cast_word k) → (has (firsts Expression) (head_kind (Reserved k ∷ [])) ≡ true) × (has (firsts Target) (head_kind (Reserved k ∷ [])) ≡ true)
unfolding is_cast_word
cast_word LogicKey h = (refl, refl)
cast_word SignedKey h = (refl, refl)
cast_word UnsignedKey h = (refl, refl)
cast_word IntegerKey h = (refl, refl)
cast_word IntKey h = (refl, refl)
cast_word IfKey h = absurd (cc h)
cast_word _ h = absurd (cc h)

macro : (k : ℕ) (m : List ℕ) (ts : List Token) → Begins k (MacroWord m ∷ ts)
macro k m ts = go (bytes_eq m (codes "include")) refl
  where
    go : (b : Bool) → bytes_eq m (codes "include") ≡ b → Begins k (MacroWord m ∷ ts)
    go true e = operand k (MacroWord m) ts (rw e refl) (rw e refl)
    go false e = operand k (MacroWord m) ts (rw e refl) (rw e refl)

begins_so : (k : ℕ) (ts : List Token) (x : NormalExpr) → Spells k ts x → Begins k ts
begins_so k ts x (up small e) = let b = begins_so _ ts x e in record { signed = b.signed; bare = λ h. b.bare (omega arith) }
begins_so k ts x (ternary c a b) = before 1 0 _ _ (λ h. absurd (omega arith)) (begins_so 1 _ _ c)
begins_so k ts x (binary op pos l r) = let small : level op ≤ 11 = level_small op in before (level op) (level op) _ _ (λ h. h) (begins_so (level op) _ _ l)
begins_so k ts x (unary op h e) = record { signed = λ rest. sign op h; bare = λ big rest. absurd (omega arith) }
begins_so k ts x (index s i) = before 13 13 _ _ (λ h. h) (begins_so 13 _ _ s)
begins_so k ts x (slice s h l) = before 13 13 _ _ (λ h. h) (begins_so 13 _ _ s)
begins_so k ts x (part_select n s i) = before 13 13 _ _ (λ h. h) (begins_so 13 _ _ s)
begins_so k ts x (member_of m s) = before 13 13 _ _ (λ h. h) (begins_so 13 _ _ s)
begins_so k ts x (name w) = operand 14 _ _ refl refl
begins_so k ts x (number w) = operand 14 _ _ refl refl
begins_so k ts x (based w) = operand 14 _ _ refl refl
begins_so k ts x (quoted w) = operand 14 _ _ refl refl
begins_so k ts x (paren e) = operand 14 _ _ refl refl
begins_so k ts x (call f es) = operand 14 _ _ refl refl
begins_so k ts x (system_call f es) = operand 14 _ _ refl refl
begins_so k ts x (system_alone f) = operand 14 _ _ refl refl
begins_so k ts x (concat es) = operand 14 _ _ refl refl
begins_so k ts x (replicated n es) = operand 14 _ _ refl refl
begins_so k ts x (array_pattern es) = operand 14 _ _ refl refl
begins_so k ts x (macro_alone m) = macro 14 m _
begins_so k ts x (macro_call m es) = macro 14 m _
begins_so k ts x (number_cast n e) = operand 14 _ _ refl refl
begins_so k ts x (name_cast w e) = operand 14 _ _ refl refl
begins_so k ts x (package_cast p w e) = operand 14 _ _ refl refl
begins_so k ts x (paren_cast h e) = operand 14 _ _ refl refl
begins_so k ts x (word_cast w h e) = let b = cast_word w h in operand 14 _ _ b.0 b.1

pub begins : (phrase : Phrase) (ts rest : List Token) (m : Meaning) → IsPhrase phrase ts m → has (firsts phrase) (head_kind (ts ++ rest)) ≡ true
begins phrase ts rest m (expression e) = (begins_so 0 _ _ e).signed rest
begins phrase ts rest m (target e) = (begins_so 13 _ _ e).bare (omega arith) rest
begins phrase ts rest m (loop_head i s c) = refl
begins phrase ts rest m (path p) = refl

-- What stands after them goes on with none.

pub quiet_expression : (rest : List Token) → has (stops Expression) (head_kind rest) ≡ true → Quiet 0 rest
quiet_expression [] h = tt
quiet_expression (Operator LogicOr ∷ us) h = absurd (cc h)
quiet_expression (Operator _ ∷ us) h = absurd (cc h)
quiet_expression (Mark OpenParen ∷ us) h = absurd (cc h)
quiet_expression (Mark Apostrophe ∷ us) h = absurd (cc h)
quiet_expression (Mark DoubleColon ∷ us) h = absurd (cc h)
quiet_expression (Mark OpenBracket ∷ us) h = absurd (cc h)
quiet_expression (Mark Dot ∷ us) h = absurd (cc h)
quiet_expression (Mark Question ∷ us) h = absurd (cc h)
quiet_expression (Mark _ ∷ us) h = tt
quiet_expression (_ ∷ us) h = tt

pub quiet_target : (rest : List Token) → has (stops Target) (head_kind rest) ≡ true → Quiet 13 rest
unfolding level
quiet_target [] h = tt
quiet_target (Operator LessEqual ∷ us) h = omega arith
quiet_target (Operator LogicOr ∷ us) h = absurd (cc h)
quiet_target (Operator _ ∷ us) h = absurd (cc h)
quiet_target (Mark OpenParen ∷ us) h = absurd (cc h)
quiet_target (Mark Apostrophe ∷ us) h = absurd (cc h)
quiet_target (Mark DoubleColon ∷ us) h = absurd (cc h)
quiet_target (Mark OpenBracket ∷ us) h = absurd (cc h)
quiet_target (Mark Dot ∷ us) h = absurd (cc h)
quiet_target (Mark Question ∷ us) h = absurd (cc h)
quiet_target (Mark _ ∷ us) h = tt
quiet_target (_ ∷ us) h = tt

one_expression : (ts us r q : List Token) (x y : NormalExpr) → Spells 0 ts x → Spells 0 us y → ts ++ r ≡ us ++ q → Quiet 0 r → Quiet 0 q → (x ≡ y) × (r ≡ q)
one_expression ts us r q x y a b e h k = one_phrase item.Expression 0 ts us r q x y part.whole a b e h k

-- What stands after the condition of a loop.
abbrev pub step_of : List ℕ → List Token → List Token
step_of i r = Word i ∷ (Mark Assign ∷ (Word i ∷ (Operator Plus ∷ (Number (codes "1") ∷ (Mark CloseParen ∷ r)))))

one_loop : (xs cs us ds r q : List Token) (i j : List ℕ) (x c y d e f : NormalExpr) → Spells 0 xs x → Spells 0 cs (Binary Less (Name i) e) → Spells 0 us y → Spells 0 ds (Binary Less (Name j) f) → i ≡ j →
    xs ++ (Mark Semicolon ∷ (cs ++ (Mark Semicolon ∷ step_of i r))) ≡ us ++ (Mark Semicolon ∷ (ds ++ (Mark Semicolon ∷ step_of j q))) → (IsLoop i x e ≡ IsLoop j y f) × (r ≡ q)
one_loop xs cs us ds r q i j x c y d e f a b a' b' same h =
    let s = one_expression xs us _ _ x y a a' h tt tt in
    let tails = s.1 in
    let t : cs ++ (Mark Semicolon ∷ step_of i r) ≡ ds ++ (Mark Semicolon ∷ step_of j q) = cc tails in
    let z = one_expression cs ds _ _ _ _ b b' t tt tt in
    let conditions = z.0 in let rests = z.1 in
    let w : e ≡ f = cc conditions in
    let v : r ≡ q = cc rests in
    (rw (same, s.0, w) refl, v)

pub apart : (phrase : Phrase) (ts us r q : List Token) (m n : Meaning) → IsPhrase phrase ts m → IsPhrase phrase us n → ts ++ r ≡ us ++ q →
    has (stops phrase) (head_kind r) ≡ true → has (stops phrase) (head_kind q) ≡ true → (m ≡ n) × (r ≡ q)
apart phrase ts us r q m n (expression {x = x} a) (expression {x = y} b) e h k =
    let s = one_expression ts us r q x y a b e (quiet_expression r h) (quiet_expression q k) in (ap IsExpression s.0, s.1)
apart phrase ts us r q m n (target {x = x} a) (target {x = y} b) e h k =
    let s = one_phrase item.Target 13 ts us r q x y part.target a b e (quiet_target r h) (quiet_target q k) in (ap IsExpression s.0, s.1)
apart phrase ts us r q m n (loop_head {xs = xs} {cs = cs} {x = x} {e = d} i a b) (loop_head {xs = ys} {cs = ds} {x = y} {e = f} j a' b') e h k =
    let same : i ≡ j = cc e in
    let inner : (xs ++ (Mark Semicolon ∷ (cs ++ (Mark Semicolon ∷ step_of i [])))) ++ r ≡ (ys ++ (Mark Semicolon ∷ (ds ++ (Mark Semicolon ∷ step_of j [])))) ++ q = cc e in
    one_loop xs cs ys ds r q i j x x y y d f a b a' b' same (simp append_assoc at inner)
apart phrase ts us r q m n (path p) (path o) e h k =
    let quotes : p ++ (34 ∷ []) ≡ o ++ (34 ∷ []) = cc e in
    let rests : r ≡ q = cc e in
    (ap IsPath (append_cancel_right p o (34 ∷ []) quotes), rests)
