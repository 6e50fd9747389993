-- What is left of a text after some of its lexemes.
use Rattle.std.specs.Prelude.{ℕ, List, [], ◌∷◌, ◌++◌, codes}
use Rattle.vast_literal.specs.Tokens.{Token, Mark}
use Rattle.vast_literal.specs.declared.token.Mark.TheVariants.{Apostrophe}
use Rattle.vast_literal.specs.Lexemes.{IsLexeme, IsLongest}

-- The rest of a text after some of its lexemes, from the left and at each place the longest.
pub data Behind : (text rest : List ℕ) → Type 0 where
  none_before : {text : List ℕ} → Behind text text
  lexeme : {front behind rest : List ℕ} {ts : List Token} → IsLexeme front ts → IsLongest front behind → Behind behind rest →
      Behind (front ++ behind) rest
  -- the apostrophe of a cast or of a pattern is a token of its own, apart from what it opens
  apostrophe : {c : ℕ} {behind rest : List ℕ} {t : Token} → IsLexeme (codes "'" ++ (c ∷ [])) (Mark Apostrophe ∷ t ∷ []) →
      Behind (c ∷ behind) rest → Behind (codes "'" ++ (c ∷ behind)) rest
