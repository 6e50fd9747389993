-- The tokens of any text, one after the other: where none fits, one stands for what is left that no rule of the grammar takes.
use Rattle.std.specs.Prelude.{ℕ, List, [], ◌∷◌, ◌++◌, Option, Some, None}
use Rattle.vast_literal.specs.Tokens.{Token, Keyword}
use Rattle.vast_literal.specs.Scan.{State, AfterTick, before_tick, step, flush}

-- What stands for a text that no token fits: a keyword of no letters, which no text has.
abbrev pub unspelled : Token
unspelled = Keyword []

abbrev pub listed : Option (List Token) → List Token
listed None = []
listed (Some ts) = ts

-- The tokens that are whole where what follows fits in no way.
abbrev pub whole : State → List Token
whole (AfterTick d) = before_tick d
whole s = listed (flush s)

-- The tokens of a step and those after it, or where the step fails those that were whole.
abbrev pub lex_on : (before : List Token) → Option (List Token) → (behind : List Token) → List Token
lex_on before None behind = before ++ (unspelled ∷ [])
lex_on before (Some ts) behind = ts ++ behind

-- The tokens of a text, from a state on.
unfoldable pub lex : State → List ℕ → List Token
lex s [] = lex_on (whole s) (flush s) []
lex s (c ∷ cs) = let r = step s c in lex_on (whole s) r.out (lex r.state cs)
