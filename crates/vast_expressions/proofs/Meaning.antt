-- What an item reads: the front of the tokens, and what it spells.
use Rattle.std.proofs.Common.{◌≡◌, ℕ, suc, ◌≤◌, ◌<◌, ◌⊎◌, inl, inr, Bool, true, false, List, [], ◌∷◌, ◌++◌, refl, ap, arith, append-nil, IsTrue}
use Rattle.vast_literal.specs.Tokens.{level, Token, Word, Operator, Mark}
use Rattle.vast_literal.proofs.Levels.{level_small}
use Rattle.vast_expressions.specs.Signs.{Punct, OpenParen, CloseParen, OpenBracket, OpenBrace, Dot, Apostrophe}
use Rattle.vast_literal.specs.NormalExpr.{NormalExpr, Cast, NormalExprs, MoreNormals}
use Rattle.vast_literal.specs.Grammar.{Spells, SpellsList, SpellsJoined}
use Rattle.vast_expressions.specs.Events.{BinaryT, Event, WordE, Made, trace, traces, mores}
use Rattle.vast_expressions.specs.Rows.{Item, Take, Emit, Expression, Target, Rest, Right, Operand, Selects, SelectEnd, MemberName, Primary, MaybeCast, TypeName, Arguments, More, Braces, BraceNext, Row, Stuck, Goes, Tells, only_if, or_else}

-- After `head`, the tokens' front goes on to a tree of the level, which the events tell.
pub record Extends (k : ℕ) (head ts : List Token) (es : List Event) (us : List Token) (fs : List Event) : Type 0 where
  pub front : List Token
  pub tree : NormalExpr
  pub whole : ts ≡ (front ++ us)
  pub told : es ≡ trace tree fs
  pub spelled : Spells k (head ++ front) tree

-- no infix operator above the level stands next
abbrev pub Below : ℕ → List Token → Type 0
Below k (Operator o ∷ us) = level o ≤ k
Below k _ = Unit {0}

-- The tree goes on with what binds more tightly than the level.
pub record Climbs (k : ℕ) (head ts : List Token) (es : List Event) (us : List Token) (fs : List Event) : Type 0 where
  pub whole : Extends (suc k) head ts es us fs
  pub below : Below k us

-- What may stand before `' ( x )`.
pub record IsHead (head : List Token) (h : NormalExpr) : Type 0 where
  pub plain : Spells 14 head h
  pub cast : (xs : List Token) (x : NormalExpr) → Spells 0 xs x → Spells 14 (head ++ (Mark Apostrophe ∷ (Mark OpenParen ∷ (xs ++ (Mark CloseParen ∷ []))))) (Cast h x)

-- The tokens' front is a list of expressions and the mark that closes it.
pub record Lists (q : Punct) (ts : List Token) (es : List Event) (us : List Token) (fs : List Event) : Type 0 where
  pub front : List Token
  pub trees : NormalExprs
  pub whole : ts ≡ (front ++ (Mark q ∷ us))
  pub told : es ≡ traces trees fs
  pub spelled : SpellsList front trees

-- The same after a first expression.
pub record Joins (q : Punct) (ts : List Token) (es : List Event) (us : List Token) (fs : List Event) : Type 0 where
  pub front : List Token
  pub trees : NormalExprs
  pub whole : ts ≡ (front ++ (Mark q ∷ us))
  pub told : es ≡ mores trees fs
  pub spelled : (head : List Token) (x : NormalExpr) → Spells 0 head x → SpellsJoined (head ++ front) (MoreNormals x trees)

abbrev pub Means : Item → List Token → List Event → List Token → List Event → Type 0
Means (Take q) ts es us fs = (ts ≡ (Mark q ∷ us)) × (es ≡ fs)
Means (Emit t) ts es us fs = (ts ≡ us) × (es ≡ (Made t ∷ fs))
Means Expression ts es us fs = Extends 0 [] ts es us fs
Means Target ts es us fs = Extends 13 [] ts es us fs
Means Operand ts es us fs = Extends 12 [] ts es us fs
Means Primary ts es us fs = Extends 14 [] ts es us fs
Means Rest ts es us fs = (m : ℕ) (head : List Token) (l : NormalExpr) → 0 < m → m ≤ 12 → Spells m head l → Below m ts → Extends 0 head ts (trace l es) us fs
Means (Right p) ts es us fs = (m : ℕ) (head : List Token) (r : NormalExpr) → level p < m → m ≤ 12 → Spells m head r → Below m ts → Climbs (level p) head ts (trace r es) us (Made (BinaryT p) ∷ fs)
Means Selects ts es us fs = (head : List Token) (s : NormalExpr) → Spells 13 head s → Extends 13 head ts (trace s es) us fs
Means SelectEnd ts es us fs = (head is : List Token) (s i : NormalExpr) → Spells 13 head s → Spells 0 is i → Extends 13 (head ++ (Mark OpenBracket ∷ is)) ts (trace s (trace i es)) us fs
Means MemberName ts es us fs = (head : List Token) (s : NormalExpr) → Spells 13 head s → Extends 13 (head ++ (Mark Dot ∷ [])) ts (trace s es) us fs
Means MaybeCast ts es us fs = (head : List Token) (h : NormalExpr) → IsHead head h → Extends 14 head ts (trace h es) us fs
Means TypeName ts es us fs = (w : List ℕ) × (ts ≡ (Word w ∷ us)) × (es ≡ (WordE w ∷ fs))
Means (Arguments q) ts es us fs = Lists q ts es us fs
Means (More q) ts es us fs = Joins q ts es us fs
Means Braces ts es us fs = Extends 14 (Mark OpenBrace ∷ []) ts es us fs
Means BraceNext ts es us fs = (head : List Token) (x : NormalExpr) → Spells 0 head x → Extends 14 (Mark OpenBrace ∷ head) ts (trace x es) us fs

abbrev pub MeansAll : List Item → List Token → List Event → List Token → List Event → Type 0
MeansAll [] ts es us fs = (ts ≡ us) × (es ≡ fs)
MeansAll (i ∷ is) ts es vs gs = (us : List Token) × (fs : List Event) × Means i ts es us fs × MeansAll is us fs vs gs

abbrev pub RowMeans : Row → List Event → List Token → List Event → Type 0
RowMeans Stuck es us fs = ⊥
RowMeans (Goes is ts) es us fs = MeansAll is ts es us fs
RowMeans (Tells e is ts) es us fs = (ds : List Event) × (es ≡ (e ∷ ds)) × MeansAll is ts ds us fs

pub only_if_means : (b : Bool) (r : Row) (es fs : List Event) (us : List Token) → RowMeans (only_if b r) es us fs → IsTrue b × RowMeans r es us fs
only_if_means true r es fs us m = (refl, m)
only_if_means false r es fs us m = absurd m

pub or_else_means : (b : Bool) (r s : Row) (es fs : List Event) (us : List Token) → RowMeans (or_else b r s) es us fs → ((b ≡ true) × RowMeans r es us fs) ⊎ ((b ≡ false) × RowMeans s es us fs)
or_else_means true r s es fs us m = inl (refl, m)
or_else_means false r s es fs us m = inr (refl, m)

pub below_all : (ts : List Token) → Below 12 ts
below_all (Operator o ∷ ts) = let h = level_small o in omega arith
below_all _ = tt

-- the tree as it stands, with nothing more
pub stays : (k : ℕ) (head ts us : List Token) (es fs : List Event) (t : NormalExpr) → ts ≡ us → es ≡ fs → Spells k head t → Extends k head ts (trace t es) us fs
stays k head ts us es fs t p q e = record { front = []; tree = t; whole = p; told = ap (trace t) q; spelled = simp append-nil e }
