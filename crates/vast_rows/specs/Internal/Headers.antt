-- The header of a loop part by part, and what is still to come of it.
use Rattle.std.specs.Prelude.{◌≡◌, ◌<◌, ℕ, List, [], ◌∷◌, ◌++◌, length, Bool, ◌&&◌, nat_lt, true, false, codes, Option, Some, None}
use Rattle.std.specs.Int.Bits.{bit_or}
use Rattle.vast_literal.specs.Grammar.{Spells}
use Rattle.vast_literal.specs.NormalExpr.{NormalExpr}
use Rattle.vast_literal.specs.Tokens as tokens
use Rattle.vast_rows.specs.declared.grammar.Phrase.TheVariants.{Expression, LoopHead}
use Rattle.vast_rows.specs.declared.header.Part.{Part}
use Rattle.vast_rows.specs.declared.header.Part.TheVariants as part
use Rattle.vast_rows.specs.declared.kind.Kind.{Kind}
use Rattle.vast_rows.specs.declared.kind.Kind.TheVariants.{Word, Number, Mark, Operator}
use Rattle.vast_rows.specs.declared.reach.Reach.{Reach}
use Rattle.vast_rows.specs.declared.reach.Reach.TheVariants as reach
use Rattle.vast_rows.specs.Fronts.{GoesOn, LongestFront}
use Rattle.vast_rows.specs.Internal.Sources.{SpellsPhrase}
use Rattle.vast_rows.specs.Internal.PhraseKinds.{firsts, stops}
use Rattle.vast_rows.specs.Internal.Reaches.{IsQuiet, Refuses}
use Rattle.vast_rows.specs.Internal.Sets.{only}
use Rattle.vast_rows.specs.Kinds.{has, number, token_kind}
use Rattle.vast_rows.specs.Numbers.{Less, Plus, OpenParen, CloseParen, Semicolon, Assign}

-- An expression of the level.
abbrev pub IsAt : ℕ → List tokens.Token → Type 0
IsAt k ts = (x : NormalExpr) × Spells k ts x

-- The variable has this name, or none yet.
abbrev pub may_be : Option (List ℕ) → (name : List ℕ) → Type 0
may_be None w = Unit {0}
may_be (Some v) w = v ≡ w

-- What a token of a header may be: one of a kind, the variable, the number 1.

abbrev pub HasKind : Kind → tokens.Token → Type 0
HasKind k t = token_kind t ≡ number k

abbrev pub MayBe : (variable : Option (List ℕ)) → tokens.Token → Type 0
MayBe v t = (w : List ℕ) × (t ≡ tokens.Word w) × may_be v w

abbrev pub IsOne : tokens.Token → Type 0
IsOne t = t ≡ tokens.Number (codes "1")

-- The next token was such a one and was left behind, or there is none such.
abbrev pub Eaten : (is : tokens.Token → Type 0) → (before left : List tokens.Token) → Bool → Type 0
Eaten is before left true = (t : tokens.Token) × (before ≡ t ∷ left) × is t
Eaten is before left false = (left ≡ before) × ((t : tokens.Token) (us : List tokens.Token) → before ≡ t ∷ us → is t → ⊥)

-- What is still to come, where the variable has that name or none yet. A condition's parentheses are closed behind its variable, or
-- behind all of it.
pub data Coming : (variable : Option (List ℕ)) → List Part → List tokens.Token → Type 0 where
  nothing : {v : Option (List ℕ)} → Coming v [] []
  token : {v : Option (List ℕ)} {s : List Part} {ts : List tokens.Token} {k : Kind} (t : tokens.Token) → token_kind t ≡ number k → Coming v s ts → Coming v (part.Token k ∷ s) (t ∷ ts)
  variable : {v : Option (List ℕ)} {s : List Part} {ts : List tokens.Token} (w : List ℕ) → may_be v w → Coming (Some w) s ts → Coming v (part.Variable ∷ s) (tokens.Word w ∷ ts)
  one : {v : Option (List ℕ)} {s : List Part} {ts : List tokens.Token} → Coming v s ts → Coming v (part.One ∷ s) (tokens.Number (codes "1") ∷ ts)
  expression : {v : Option (List ℕ)} {s : List Part} {all ts : List tokens.Token} (xs : List tokens.Token) → all ≡ xs ++ ts → IsAt 0 xs → Coming v s ts → Coming v (part.Expression ∷ s) all
  bound : {v : Option (List ℕ)} {s : List Part} {all ts : List tokens.Token} (xs : List tokens.Token) → all ≡ xs ++ ts → IsAt 8 xs → Coming v s ts → Coming v (part.Bound ∷ s) all
  opens : {v : Option (List ℕ)} {s : List Part} {ts : List tokens.Token} (t : tokens.Token) → token_kind t ≡ number (Mark OpenParen) → Coming v (part.Condition ∷ (part.Closing ∷ s)) ts → Coming v (part.Condition ∷ s) (t ∷ ts)
  named : {v : Option (List ℕ)} {s : List Part} {ts : List tokens.Token} (w : List ℕ) → may_be v w → Coming (Some w) (part.Comparison ∷ s) ts → Coming v (part.Condition ∷ s) (tokens.Word w ∷ ts)
  closes : {v : Option (List ℕ)} {s : List Part} {ts : List tokens.Token} (t : tokens.Token) → token_kind t ≡ number (Mark CloseParen) → Coming v (part.Comparison ∷ s) ts → Coming v (part.Comparison ∷ (part.Closing ∷ s)) (t ∷ ts)
  compares : {v : Option (List ℕ)} {s : List Part} {ts : List tokens.Token} (t : tokens.Token) → token_kind t ≡ number (Operator Less) → Coming v (part.Bound ∷ s) ts → Coming v (part.Comparison ∷ s) (t ∷ ts)
  closing : {v : Option (List ℕ)} {s : List Part} {ts : List tokens.Token} (t : tokens.Token) → token_kind t ≡ number (Mark CloseParen) → Coming v s ts → Coming v (part.Closing ∷ s) (t ∷ ts)

-- A header, behind the variable that it begins with.
abbrev pub header : List Part
header =
    part.Token (Mark Assign) ∷ part.Expression ∷ part.Token (Mark Semicolon) ∷ part.Condition ∷ part.Token (Mark Semicolon)
    ∷ part.Variable ∷ part.Token (Mark Assign) ∷ part.Variable ∷ part.Token (Operator Plus) ∷ part.One ∷ part.Token (Mark CloseParen) ∷ []

-- The kinds with which the parts begin.
abbrev pub closing_kinds : List Part → ℕ
closing_kinds (part.Closing ∷ s) = only (number (Mark CloseParen))
closing_kinds _ = 0

abbrev pub part_kinds : List Part → ℕ
part_kinds [] = 0
part_kinds (part.Token k ∷ s) = only (number k)
part_kinds (part.Variable ∷ s) = only (number Word)
part_kinds (part.One ∷ s) = only (number Number)
part_kinds (part.Expression ∷ s) = firsts Expression
part_kinds (part.Bound ∷ s) = firsts Expression
part_kinds (part.Condition ∷ s) = bit_or (only (number Word)) (only (number (Mark OpenParen)))
part_kinds (part.Comparison ∷ s) = bit_or (only (number (Operator Less))) (closing_kinds s)
part_kinds (part.Closing ∷ s) = only (number (Mark CloseParen))

-- The parts begin with a token that goes on with no expression. They do so behind each that ends with one, and no token that is due
-- is the end.
abbrev pub stop_it : List Part → Bool
stop_it (part.Token k ∷ s) = has (stops Expression) (number k)
stop_it (part.Closing ∷ s) = true
stop_it _ = false

abbrev pub are_good : List Part → Bool
are_good [] = true
are_good (part.Token k ∷ s) = nat_lt 0 (number k) && are_good s
are_good (part.Variable ∷ s) = are_good s
are_good (part.One ∷ s) = are_good s
are_good (_ ∷ s) = stop_it s && are_good s

-- A front of a language was read. What begins with none of the kinds goes on with it so where it may come; each of the kinds goes
-- on with it.
pub record Residue (L R : List tokens.Token → Type 0) (all left : List tokens.Token) (more : ℕ) : Type 0 where
  pub before : List tokens.Token
  pub split : all ≡ before ++ left
  pub onto : (rest : List tokens.Token) → IsQuiet rest more → R rest → L (before ++ rest)
  pub back : (rest : List tokens.Token) → IsQuiet rest more → L (before ++ rest) → R rest
  pub longer : (k : ℕ) → has more k ≡ true → GoesOn L before k
  pub quiet : IsQuiet left more

-- A front of headers was read, and those parts are still to come.
pub record InHeader (variable : Option (List ℕ)) (parts : List Part) (all left : List tokens.Token) (more : ℕ) : Type 0 where
  pub residue : Residue (SpellsPhrase LoopHead) (Coming variable parts) all left more
  pub good : are_good parts ≡ true

-- From some parts to others.
abbrev pub Leads : (v : Option (List ℕ)) (parts : List Part) (left : List tokens.Token) (w : Option (List ℕ)) (others : List Part) (after : List tokens.Token) → Reach → Type 0
Leads v parts left w others after reach.Nowhere = (after ≡ left) × Refuses (Coming v parts) left
Leads v parts left w others after (reach.Part kinds) = (length after < length left) × ((all : List tokens.Token) (more : ℕ) → InHeader v parts all left more → LongestFront (SpellsPhrase LoopHead) all after kinds false)
Leads v parts left w others after (reach.Whole kinds) = (length after < length left) × ((all : List tokens.Token) (more : ℕ) → InHeader v parts all left more → InHeader w others all after kinds)
