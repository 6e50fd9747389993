-- The tokens from a place of a text on.
use Rattle.std.specs.Prelude.{ℕ, List, [], ◌∷◌, ⊤}
use Rattle.vast_literal.specs.Tokens as to
use Rattle.vast_literal.specs.Scan.{Gap}
use Rattle.vast_read.specs.Behind.{Behind}
use Rattle.vast_read.specs.Lexed.{lex, unspelled}
use Rattle.vast_expressions.specs.Internal.Views.{token_view}
use Rattle.vast_read.specs.declared.scanner.front.Position.{Position}
use Rattle.vast_read.specs.declared.scanner.front.Position.TheVariants as position

-- The tokens from what stands next on.
abbrev pub position_view : Position → List to.Token
position_view (position.Token t behind) = token_view t ∷ lex Gap behind.now
position_view position.Unspelled = unspelled ∷ []
position_view position.End = []

-- What is after the next token stands after some of the text's lexemes.
abbrev pub IsBehind : (text : List ℕ) → Position → Type 0
IsBehind text (position.Token t behind) = Behind text behind.now
IsBehind text _ = ⊤
