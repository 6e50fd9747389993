-- The grammar of expressions: which token lists spell which normal expression, at which level.
use Rattle.std.specs.Prelude.{◌≡◌, ℕ, suc, ◌<◌, List, [], ◌∷◌, ◌++◌, Bool, true, false, IsTrue}
use Rattle.vast_literal.specs.Tokens.{Op, level, is_unary, Key, LogicKey, SignedKey, UnsignedKey, IntegerKey, IntKey}
use Rattle.vast_literal.specs.Tokens.{OpenParen, CloseParen, OpenBracket, CloseBracket, OpenBrace, CloseBrace, Comma, Colon, Dot, Question, DoubleColon, PlusColon, Apostrophe}
use Rattle.vast_literal.specs.Tokens.{Token, Reserved, Word, SystemWord, MacroWord, Number, Based, Quoted, Operator, Mark}
use Rattle.vast_literal.specs.Lexemes.{Lexes}
use Rattle.vast_literal.specs.NormalExpr.{NormalExpr, Name, Literal, Text, MacroAlone, Unary, Binary, Ternary, Index, Slice, PartSelect, MemberOf, Concat, Pattern, Replicated, Call, MacroCall, Cast, PackageCast, WordCast, NormalExprs, NoNormals, MoreNormals}

-- The keywords that head a cast.
unfoldable pub is_cast_word : Key → Bool
is_cast_word key = elim key [ LogicKey ↦ true | SignedKey ↦ true | UnsignedKey ↦ true | IntegerKey ↦ true | IntKey ↦ true | _ ↦ false ]

mutual
  -- The tokens spell the normal expression at the level: 0 a ternary, 1 to 11 an infix operator, 12 a unary operator, 13 a select, 14 a primary.
  pub data Spells : ℕ → List Token → NormalExpr → Type 0 where
    -- What stands at a level stands at each lower one.
    up : {k : ℕ} {ts : List Token} {t : NormalExpr} → k < 14 → Spells (suc k) ts t → Spells k ts t
    -- c ? a : b
    ternary : {cs us bs : List Token} {c a b : NormalExpr} → Spells 1 cs c → Spells 0 us a → Spells 0 bs b →
        Spells 0 (cs ++ (Mark Question ∷ (us ++ (Mark Colon ∷ bs)))) (Ternary c a b)
    -- l op r, grouped from the left
    binary : {ls rs : List Token} {l r : NormalExpr} (op : Op) → 0 < level op → Spells (level op) ls l → Spells (suc (level op)) rs r →
        Spells (level op) (ls ++ (Operator op ∷ rs)) (Binary op l r)
    -- op x
    unary : {ts : List Token} {t : NormalExpr} (op : Op) → IsTrue (is_unary op) → Spells 12 ts t → Spells 12 (Operator op ∷ ts) (Unary op t)
    -- s [ i ]
    index : {ss is : List Token} {s i : NormalExpr} → Spells 13 ss s → Spells 0 is i →
        Spells 13 (ss ++ (Mark OpenBracket ∷ (is ++ (Mark CloseBracket ∷ [])))) (Index s i)
    -- s [ h : l ]
    slice : {ss hs ls : List Token} {s h l : NormalExpr} → Spells 13 ss s → Spells 0 hs h → Spells 0 ls l →
        Spells 13 (ss ++ (Mark OpenBracket ∷ (hs ++ (Mark Colon ∷ (ls ++ (Mark CloseBracket ∷ [])))))) (Slice s h l)
    -- s [ i +: n ]
    part_select : {ss is : List Token} {s i : NormalExpr} (n : List ℕ) → Spells 13 ss s → Spells 0 is i →
        Spells 13 (ss ++ (Mark OpenBracket ∷ (is ++ (Mark PlusColon ∷ (Number n ∷ (Mark CloseBracket ∷ [])))))) (PartSelect s i n)
    -- s . m
    member_of : {ss : List Token} {s : NormalExpr} (m : List ℕ) → Spells 13 ss s → Spells 13 (ss ++ (Mark Dot ∷ (Word m ∷ []))) (MemberOf s m)
    name : (w : List ℕ) → Spells 14 (Word w ∷ []) (Name w)
    number : (w : List ℕ) → Spells 14 (Number w ∷ []) (Literal w)
    based : (w : List ℕ) → Spells 14 (Based w ∷ []) (Literal w)
    quoted : (w : List ℕ) → Spells 14 (Quoted w ∷ []) (Text w)
    -- ( x ), which has the tree of x
    paren : {ts : List Token} {t : NormalExpr} → Spells 0 ts t → Spells 14 (Mark OpenParen ∷ (ts ++ (Mark CloseParen ∷ []))) t
    -- f ( es )
    call : {ts : List Token} {xs : NormalExprs} (f : List ℕ) → SpellsList ts xs → Spells 14 (Word f ∷ (Mark OpenParen ∷ (ts ++ (Mark CloseParen ∷ [])))) (Call f xs)
    system_call : {ts : List Token} {xs : NormalExprs} (f : List ℕ) → SpellsList ts xs → Spells 14 (SystemWord f ∷ (Mark OpenParen ∷ (ts ++ (Mark CloseParen ∷ [])))) (Call f xs)
    system_alone : (f : List ℕ) → Spells 14 (SystemWord f ∷ []) (Call f NoNormals)
    -- { es }
    concat : {ts : List Token} {xs : NormalExprs} → SpellsList ts xs → Spells 14 (Mark OpenBrace ∷ (ts ++ (Mark CloseBrace ∷ []))) (Concat xs)
    -- { n { es } }
    replicated : {ns ts : List Token} {n : NormalExpr} {xs : NormalExprs} → Spells 0 ns n → SpellsList ts xs →
        Spells 14 (Mark OpenBrace ∷ (ns ++ (Mark OpenBrace ∷ (ts ++ (Mark CloseBrace ∷ (Mark CloseBrace ∷ [])))))) (Replicated n xs)
    -- ' { es }
    array_pattern : {ts : List Token} {xs : NormalExprs} → SpellsList ts xs → Spells 14 (Mark Apostrophe ∷ (Mark OpenBrace ∷ (ts ++ (Mark CloseBrace ∷ [])))) (Pattern xs)
    -- ` m and ` m ( es )
    macro_alone : (m : List ℕ) → Spells 14 (MacroWord m ∷ []) (MacroAlone m)
    macro_call : {ts : List Token} {xs : NormalExprs} (m : List ℕ) → SpellsList ts xs → Spells 14 (MacroWord m ∷ (Mark OpenParen ∷ (ts ++ (Mark CloseParen ∷ [])))) (MacroCall m xs)
    -- head ' ( x ), the head being a number, a name, p :: T, ( h ) or a keyword of a type or of signedness
    number_cast : {ts : List Token} {x : NormalExpr} (n : List ℕ) → Spells 0 ts x →
        Spells 14 (Number n ∷ (Mark Apostrophe ∷ (Mark OpenParen ∷ (ts ++ (Mark CloseParen ∷ []))))) (Cast (Literal n) x)
    name_cast : {ts : List Token} {x : NormalExpr} (w : List ℕ) → Spells 0 ts x →
        Spells 14 (Word w ∷ (Mark Apostrophe ∷ (Mark OpenParen ∷ (ts ++ (Mark CloseParen ∷ []))))) (Cast (Name w) x)
    package_cast : {ts : List Token} {x : NormalExpr} (p w : List ℕ) → Spells 0 ts x →
        Spells 14 (Word p ∷ (Mark DoubleColon ∷ (Word w ∷ (Mark Apostrophe ∷ (Mark OpenParen ∷ (ts ++ (Mark CloseParen ∷ []))))))) (PackageCast p w x)
    paren_cast : {hs ts : List Token} {h x : NormalExpr} → Spells 0 hs h → Spells 0 ts x →
        Spells 14 (Mark OpenParen ∷ (hs ++ (Mark CloseParen ∷ (Mark Apostrophe ∷ (Mark OpenParen ∷ (ts ++ (Mark CloseParen ∷ []))))))) (Cast h x)
    word_cast : {ts : List Token} {x : NormalExpr} (w : Key) → IsTrue (is_cast_word w) → Spells 0 ts x →
        Spells 14 (Reserved w ∷ (Mark Apostrophe ∷ (Mark OpenParen ∷ (ts ++ (Mark CloseParen ∷ []))))) (WordCast w x)

  -- Nothing, or expressions with commas between them.
  pub data SpellsList : List Token → NormalExprs → Type 0 where
    none : SpellsList [] NoNormals
    some : {ts : List Token} {xs : NormalExprs} → SpellsJoined ts xs → SpellsList ts xs

  pub data SpellsJoined : List Token → NormalExprs → Type 0 where
    last : {ts : List Token} {t : NormalExpr} → Spells 0 ts t → SpellsJoined ts (MoreNormals t NoNormals)
    next : {ts us : List Token} {t : NormalExpr} {xs : NormalExprs} → Spells 0 ts t → SpellsJoined us xs → SpellsJoined (ts ++ (Mark Comma ∷ us)) (MoreNormals t xs)

-- The grammar derives the expression from the text: these are the tokens of its lexemes, and they spell it.
pub record DerivesExpression (text : List ℕ) (t : NormalExpr) : Type 0 where
  pub parts : List Token
  pub lexed : Lexes text parts
  pub spelled : Spells 0 parts t

-- Each token list spells at most one expression.
pub record OneExpression : Type 0 where
  pub same : (ts : List Token) (a b : NormalExpr) → Spells 0 ts a → Spells 0 ts b → a ≡ b
