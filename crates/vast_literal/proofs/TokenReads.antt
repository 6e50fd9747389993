-- What a piece of text brings: its tokens, then those of whatever follows.
use Rattle.std.proofs.Common.{◌≡◌, ℕ, List, [], ◌∷◌, ◌++◌, Bool, true, false, not, ◌&&◌, ◌||◌, eqb}
use Rattle.vast_literal.specs.Tokens.{Token}
use Rattle.vast_literal.specs.Scan.{scan, add_tokens, Gap, is_word_byte, is_based_digit}

-- A byte that goes on with no word, number or based literal before it.
abbrev pub stop : ℕ → Bool
stop c = not (is_word_byte c || (eqb c 39 || is_based_digit c))

-- A text whose first byte does.
abbrev pub stops : List ℕ → Bool
stops [] = true
stops (c ∷ cs) = stop c

-- A text whose first byte makes no colon before it longer and, where `tight`, no unary operator.
abbrev pub opens : (tight : Bool) → List ℕ → Bool
opens tight [] = false
opens tight (c ∷ cs) = not (eqb c 61 || eqb c 58) && (not tight || not (eqb c 38 || eqb c 124))

-- The text `a` brings the tokens `ts`, whatever follows.
pub record Free (a : List ℕ) (ts : List Token) : Type 0 where
  pub at : (rest : List ℕ) → scan Gap (a ++ rest) ≡ add_tokens ts (scan Gap rest)

-- The same of a text that no lexeme before it goes on into.
pub record Divides (a : List ℕ) (ts : List Token) : Type 0 where
  pub free : Free a ts
  pub stop : (rest : List ℕ) → stops (a ++ rest) ≡ true

-- The text brings the tokens where what follows does not go on with its last lexeme.
pub record Reads (a : List ℕ) (ts : List Token) : Type 0 where
  pub at : (rest : List ℕ) → stops rest ≡ true → scan Gap (a ++ rest) ≡ add_tokens ts (scan Gap rest)
