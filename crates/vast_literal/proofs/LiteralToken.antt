-- Beside `specs/LiteralToken.antt`: what proofs alone say.
use Rattle.std.specs.Prelude.{ℕ, List, [], ◌∷◌, cond, eqb}
use Rattle.vast_literal.specs.Tokens.{Minus, Token, Number, Based, Operator}
use Rattle.vast_literal.specs.LiteralToken.{is_number}

-- The token of a literal without a minus.
abbrev pub bare_token : List ℕ → Token
bare_token text = cond (is_number text) (Number text) (Based text)

-- The tokens of a literal's text.
abbrev pub literal_tokens : List ℕ → List Token
literal_tokens [] = Based [] ∷ []
literal_tokens (c ∷ cs) = cond (eqb c 45) (Operator Minus ∷ bare_token cs ∷ []) (bare_token (c ∷ cs) ∷ [])
