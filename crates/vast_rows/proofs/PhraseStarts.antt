-- Phrases of each sort and with each first token, and that none goes on with what may stand after one.
use Rattle.std.proofs.Common.{◌≡◌, ℕ, suc, ◌≤◌, ◌+◌, List, [], ◌∷◌, ◌++◌, length, true, codes, refl, sym, ap, ◌⊎◌, inl, inr, arith, append_assoc, length-append, lit<}
use Rattle.std.specs.Int.Bits.{bit_or}
use Rattle.vast_literal.specs.Tokens.{Token, Word, SystemWord, MacroWord, Number, Based, Quoted, Operator, Mark, Reserved, is_unary, level}
use Rattle.vast_literal.specs.NormalExpr.{NormalExpr, Name, Literal, Binary}
use Rattle.vast_literal.specs.Grammar.{Spells, binary, unary, name, number, based, quoted, paren, system_call, concat, array_pattern, macro_alone, word_cast, none, is_cast_word}
use Rattle.vast_literal.proofs.Levels.{lower}
use Rattle.vast_rows.specs.declared.grammar.Phrase.{Phrase}
use Rattle.vast_rows.specs.declared.grammar.Phrase.TheVariants.{Expression, Target, LoopHead, Path}
use Rattle.vast_rows.specs.Internal.Headers.{IsAt}
use Rattle.vast_rows.specs.Internal.PhraseKinds.{firsts, stops}
use Rattle.vast_rows.specs.Internal.Sets.{only}
use Rattle.vast_rows.specs.Internal.Sources.{SpellsPhrase}
use Rattle.vast_rows.specs.Kinds.{has, token_kind}
use Rattle.vast_rows.specs.Numbers.{Less, Minus, BitNot, LogicNot, BitAnd, BitOr, BitXor, OpenParen, OpenBrace, Apostrophe, Key, LogicKey, SignedKey, UnsignedKey, IntegerKey, IntKey}
use Rattle.vast_rows.specs.Phrases.{IsExpression, IsPath, expression, target, loop_head, path}
use Rattle.vast_rows.proofs.PhraseLaws.{apart}
use Rattle.vast_rows.proofs.Sets.{has_or, only_has, no_kind}

-- What stands at a level stands at lower ones.
from_14 : (k : ℕ) {ts : List Token} {x : NormalExpr} → k ≤ 14 → Spells 14 ts x → Spells k ts x
from_14 k small p = lower 14 k _ _ small (omega arith) p

from_13 : (k : ℕ) {ts : List Token} {x : NormalExpr} → k ≤ 13 → Spells 13 ts x → Spells k ts x
from_13 k small p = lower 13 k _ _ small (omega arith) p

from_12 : (k : ℕ) {ts : List Token} {x : NormalExpr} → k ≤ 12 → Spells 12 ts x → Spells k ts x
from_12 k small p = lower 12 k _ _ small (omega arith) p

high : {ts : List Token} {x : NormalExpr} → Spells 14 ts x → Spells 13 ts x
high p = from_14 13 (omega arith) p

-- A name, and its bound: i < 0.
a_name : Spells 13 (Word [] ∷ []) (Name [])
a_name = high (name [])

a_bound : Spells 0 (Word [] ∷ (Operator Less ∷ (Number [] ∷ []))) (Binary Less (Name []) (Literal []))
unfolding level
a_bound = lower 7 0 _ _ (omega arith) (omega arith) (binary Less (lit< tt) (from_13 7 (omega arith) a_name) (from_14 8 (omega arith) (number [])))

-- An operand.
pub an_operand : (k : ℕ) → k ≤ 13 → IsAt k (Word [] ∷ [])
an_operand k small = (Name [], from_13 k small a_name)

an_expression : Spells 0 (Word [] ∷ []) (Name [])
an_expression = from_13 0 (omega arith) a_name

a_number : Spells 0 (Number [] ∷ []) (Literal [])
a_number = from_14 0 (omega arith) (number [])

-- A phrase of each sort.
pub one_phrase : (p : Phrase) → (ts : List Token) × SpellsPhrase p ts
one_phrase Expression = (Word [] ∷ [], (IsExpression (Name []), expression an_expression))
one_phrase Target = (Word [] ∷ [], (IsExpression (Name []), target a_name))
one_phrase LoopHead = (_, (_, loop_head [] a_number a_bound))
one_phrase Path = (_, (IsPath [], path []))

-- The tokens with which operands begin, and an operand with each; and the same of signs.
abbrev Headed : (k : ℕ) → Token → Type 0
Headed k t = (us : List Token) × (x : NormalExpr) × Spells k (t ∷ us) x

abbrev Heads : (k : ℕ) → List Token → Type 0
Heads k [] = Unit {0}
Heads k (t ∷ ts) = Headed k t × Heads k ts

abbrev kinds : List Token → ℕ
kinds [] = 0
kinds (t ∷ ts) = bit_or (only (token_kind t)) (kinds ts)

-- A token of the kind, and what it begins.
abbrev Begins : (level kind : ℕ) → Type 0
Begins k kind = (t : Token) × (token_kind t ≡ kind) × Headed k t

headed : (k : ℕ) (ts : List Token) → Heads k ts → (kind : ℕ) → has (kinds ts) kind ≡ true → Begins k kind
headed k [] hs kind h = absurd (no_kind kind h)
headed k (t ∷ ts) hs kind h = go (has_or (only (token_kind t)) (kinds ts) kind h) (headed k ts hs.1 kind)
  where
    go : (has (only (token_kind t)) kind ≡ true) ⊎ (has (kinds ts) kind ≡ true) → (has (kinds ts) kind ≡ true → Begins k kind) → Begins k kind
    go (inl a) next = (t, only_has (token_kind t) kind a, hs.0)
    go (inr a) next = next a

abbrev operands : List Token
operands =
    Word [] ∷ Number [] ∷ Based [] ∷ Quoted [] ∷ SystemWord [] ∷ MacroWord [] ∷ MacroWord (codes "include") ∷ Mark OpenParen ∷ Mark OpenBrace ∷ Mark Apostrophe
    ∷ Reserved LogicKey ∷ Reserved SignedKey ∷ Reserved UnsignedKey ∷ Reserved IntegerKey ∷ Reserved IntKey ∷ []

cast : (k : Key) → is_cast_word k ≡ true → Headed 13 (Reserved k)
cast k h = (_, _, high (word_cast k h an_expression))

operand_heads : Heads 13 operands
unfolding is_cast_word
operand_heads = (
  (_, _, a_name),
  (
    (_, _, high (number [])),
    (
      (_, _, high (based [])),
      (
        (_, _, high (quoted [])),
        (
          (_, _, high (system_call [] none)),
          (
            (_, _, high (macro_alone [])),
            (
              (_, _, high (macro_alone (codes "include"))),
              (
                (_, _, high (paren an_expression)),
                (
                  (_, _, high (concat none)),
                  (
                    (_, _, high (array_pattern none)),
                    (cast LogicKey refl, (cast SignedKey refl, (cast UnsignedKey refl, (cast IntegerKey refl, (cast IntKey refl, tt))))),
                  ),
                ),
              ),
            ),
          ),
        ),
      ),
    ),
  ),
)

abbrev signs : List Token
signs = Operator Minus ∷ Operator BitNot ∷ Operator LogicNot ∷ Operator BitAnd ∷ Operator BitOr ∷ Operator BitXor ∷ []

sign_heads : Heads 12 signs
unfolding is_unary
sign_heads = (
  (_, _, unary Minus refl (from_13 12 (omega arith) a_name)),
  (
    (_, _, unary BitNot refl (from_13 12 (omega arith) a_name)),
    (
      (_, _, unary LogicNot refl (from_13 12 (omega arith) a_name)),
      ((_, _, unary BitAnd refl (from_13 12 (omega arith) a_name)), ((_, _, unary BitOr refl (from_13 12 (omega arith) a_name)), ((_, _, unary BitXor refl (from_13 12 (omega arith) a_name)), tt))),
    ),
  ),
)

-- Something of a language that begins with a token of the kind.
pub record Starts (Q : List Token → Type 0) (kind : ℕ) : Type 0 where
  pub first : Token
  pub others : List Token
  pub kinds : token_kind first ≡ kind
  pub spelled : Q (first ∷ others)

pub operand_starts : (k : ℕ) → k ≤ 12 → (kind : ℕ) → has (firsts Expression) kind ≡ true → Starts (IsAt k) kind
operand_starts k small kind h = go (has_or (kinds operands) (kinds signs) kind h)
  where
    go : (has (kinds operands) kind ≡ true) ⊎ (has (kinds signs) kind ≡ true) → Starts (IsAt k) kind
    go (inl a) = let b = headed 13 operands operand_heads kind a in record { first = b.0; others = (b.2).0; kinds = b.1; spelled = ((b.2).1, from_13 k (omega (arith, small)) (b.2).2) }
    go (inr a) = let b = headed 12 signs sign_heads kind a in record { first = b.0; others = (b.2).0; kinds = b.1; spelled = ((b.2).1, from_12 k small (b.2).2) }

pub starts : (p : Phrase) (kind : ℕ) → has (firsts p) kind ≡ true → Starts (SpellsPhrase p) kind
starts Expression kind h = let o = operand_starts 0 (omega arith) kind h in record { first = o.first; others = o.others; kinds = o.kinds; spelled = (IsExpression (o.spelled).0, expression (o.spelled).1) }
starts Target kind h = let b = headed 13 operands operand_heads kind h in record { first = b.0; others = (b.2).0; kinds = b.1; spelled = (IsExpression (b.2).1, target (b.2).2) }
starts LoopHead kind h = record { first = Word []; others = _; kinds = only_has (token_kind (Word [])) kind h; spelled = (_, loop_head [] a_number a_bound) }
starts Path kind h = record { first = _; others = _; kinds = only_has 8 kind h; spelled = (IsPath [], path []) }

-- No phrase begins with the end.
pub no_end : (p : Phrase) → has (firsts p) 0 ≡ true → ⊥
no_end Expression h = absurd (cc h)
no_end Target h = absurd (cc h)
no_end LoopHead h = absurd (cc h)
no_end Path h = absurd (cc h)

-- None goes on with what may stand after one.
pub none_longer : (p : Phrase) (ts us : List Token) (t : Token) → has (stops p) (token_kind t) ≡ true → SpellsPhrase p ts → SpellsPhrase p (ts ++ (t ∷ us)) → ⊥
none_longer p ts us t h a b =
    let e : ts ++ ((t ∷ us) ++ (t ∷ [])) ≡ (ts ++ (t ∷ us)) ++ (t ∷ []) = sym (append_assoc ts (t ∷ us) (t ∷ [])) in
    let s = apart p ts (ts ++ (t ∷ us)) ((t ∷ us) ++ (t ∷ [])) (t ∷ []) a.0 b.0 a.1 b.1 e h h in
    let n : suc (length (us ++ (t ∷ []))) ≡ 1 = ap length s.1 in
    let m : length (us ++ (t ∷ [])) ≡ length us + 1 = length-append us (t ∷ []) in
    omega (arith, n, m)
