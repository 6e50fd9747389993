-- The scan of a text into tokens, from the left, always taking the longest lexeme.
use Rattle.std.specs.Prelude.{ℕ, List, [], ◌∷◌, ◌++◌, Bool, cond, ◌&&◌, ◌||◌, eqb, leb, Option, Some, None}
use Rattle.vast_literal.specs.Tokens.{LogicOr, LogicAnd, BitOr, BitXor, BitAnd, NotEqual, CaseNotEqual, Equal, CaseEqual, GreaterEqual, Greater, LessEqual, Less, ShiftLeft, ShiftRightSigned, ShiftRight, Plus, Minus, Times, Divide, Modulo, Power, BitNot, LogicNot}
use Rattle.vast_literal.specs.Tokens.{OpenParen, CloseParen, OpenBracket, CloseBracket, OpenBrace, CloseBrace, Comma, Colon, Semicolon, Dot, Hash, At, Question, DoubleColon, PlusColon, Assign, Apostrophe}
use Rattle.vast_literal.specs.Tokens.{Token, SystemWord, MacroWord, Number, Based, Quoted, Operator, Mark, word_token}

-- A byte from `low` to `high`.
abbrev pub is_within : (low high byte : ℕ) → Bool
is_within low high byte = leb low byte && leb byte high

-- An ASCII letter or `_`.
abbrev pub is_letter : ℕ → Bool
is_letter c = is_within 97 122 c || is_within 65 90 c || eqb c 95

-- An ASCII digit.
abbrev pub is_digit : ℕ → Bool
is_digit c = is_within 48 57 c

-- A letter, a digit, `_` or `$`.
abbrev pub is_word_byte : ℕ → Bool
is_word_byte c = is_letter c || is_digit c || eqb c 36

-- A digit of a based literal: `0` to `9`, `a` to `f`, `_` or `?`.
abbrev pub is_based_digit : ℕ → Bool
is_based_digit c = is_digit c || is_within 97 102 c || eqb c 95 || eqb c 63

-- The radix of a based literal: `b`, `d` or `h`.
abbrev pub is_radix : ℕ → Bool
is_radix c = eqb c 98 || eqb c 100 || eqb c 104

-- What fills all bits after an apostrophe: `0`, `1` or `X`.
abbrev pub is_filler : ℕ → Bool
is_filler c = eqb c 48 || eqb c 49 || eqb c 88

-- A space, a line feed, a tab or a carriage return.
abbrev pub is_space : ℕ → Bool
is_space c = eqb c 32 || eqb c 10 || eqb c 9 || eqb c 13

-- What stands pending: the lexeme so far, where a further byte may still go into it.
pub data State : Type 0 where
  Gap : State
  InWord InSystemWord InMacroWord InNumber AfterTick InSigned InRadix InBased InString InEscape : (bytes : List ℕ) → State
  Pending : Token → State
  InComment : State

-- A token before those of what follows, where that has tokens.
abbrev pub cons_token : Token → Option (List Token) → Option (List Token)
cons_token t None = None
cons_token t (Some ts) = Some (t ∷ ts)

-- Tokens before those of what follows.
abbrev pub add_tokens : List Token → Option (List Token) → Option (List Token)
add_tokens [] rest = rest
add_tokens (t ∷ ts) rest = cons_token t (add_tokens ts rest)

-- The tokens of two texts one after the other, where both have some.
abbrev pub join_tokens : Option (List Token) → Option (List Token) → Option (List Token)
join_tokens None rest = None
join_tokens (Some ts) rest = add_tokens ts rest

-- What a byte leads to: the next state, and the tokens that are whole now; none where no token fits.
pub record Step : Type 0 where
  pub state : State
  pub out : Option (List Token)

-- The lexeme goes on.
abbrev pub keep : State → Step
keep s = record { state = s; out = Some [] }

-- The lexeme is whole, with this byte.
abbrev pub give : List Token → Step
give ts = record { state = Gap; out = Some ts }

-- No token is spelled so.
abbrev pub fail : Step
fail = record { state = Gap; out = None }

-- The lexeme was whole before this byte, which begins another.
abbrev pub follow : List Token → Step → Step
follow ts s = record { state = s.state; out = join_tokens (Some ts) s.out }

-- The operators and marks of one byte that no byte makes longer.
abbrev pub whole_signs : List (ℕ × Token)
whole_signs =
    (40, Mark OpenParen) ∷ (41, Mark CloseParen) ∷ (91, Mark OpenBracket) ∷ (93, Mark CloseBracket) ∷ (123, Mark OpenBrace) ∷ (125, Mark CloseBrace) ∷
    (44, Mark Comma) ∷ (59, Mark Semicolon) ∷ (46, Mark Dot) ∷ (35, Mark Hash) ∷ (64, Mark At) ∷ (63, Mark Question) ∷
    (94, Operator BitXor) ∷ (45, Operator Minus) ∷ (37, Operator Modulo) ∷ (126, Operator BitNot) ∷ []

-- The operators and marks of one byte that may grow.
abbrev pub growing_signs : List (ℕ × Token)
growing_signs =
    (58, Mark Colon) ∷ (61, Mark Assign) ∷ (33, Operator LogicNot) ∷ (60, Operator Less) ∷ (62, Operator Greater) ∷
    (38, Operator BitAnd) ∷ (124, Operator BitOr) ∷ (43, Operator Plus) ∷ (42, Operator Times) ∷ (47, Operator Divide) ∷ []

-- The operator or mark of a byte.
abbrev pub find_sign : List (ℕ × Token) → ℕ → Option Token
find_sign [] c = None
find_sign (sign ∷ signs) c = cond (eqb c sign.0) (Some sign.1) (find_sign signs c)

abbrev pub start_growing : Option Token → Step
start_growing None = fail
start_growing (Some sign) = keep (Pending sign)

abbrev pub start_sign : Option Token → ℕ → Step
start_sign (Some sign) c = give (sign ∷ [])
start_sign None c = start_growing (find_sign growing_signs c)

abbrev pub start_other : ℕ → Step
start_other c =
    cond (is_space c) (keep Gap)
    (cond (eqb c 36) (keep (InSystemWord []))
    (cond (eqb c 96) (keep (InMacroWord []))
    (cond (eqb c 34) (keep (InString (34 ∷ [])))
    (cond (eqb c 39) (keep (AfterTick [])) (start_sign (find_sign whole_signs c) c)))))

-- A byte where nothing is pending.
abbrev pub start : ℕ → Step
start c = cond (is_letter c) (keep (InWord (c ∷ []))) (cond (is_digit c) (keep (InNumber (c ∷ []))) (start_other c))

-- The growth of an operator by a byte; `//` begins a comment.
abbrev pub grown : Token → ℕ → Option Step
grown (Mark Colon) c = cond (eqb c 58) (Some (give (Mark DoubleColon ∷ []))) None
grown (Mark Assign) c = cond (eqb c 61) (Some (keep (Pending (Operator Equal)))) None
grown (Operator Equal) c = cond (eqb c 61) (Some (give (Operator CaseEqual ∷ []))) None
grown (Operator LogicNot) c = cond (eqb c 61) (Some (keep (Pending (Operator NotEqual)))) None
grown (Operator NotEqual) c = cond (eqb c 61) (Some (give (Operator CaseNotEqual ∷ []))) None
grown (Operator Less) c = cond (eqb c 61) (Some (give (Operator LessEqual ∷ []))) (cond (eqb c 60) (Some (give (Operator ShiftLeft ∷ []))) None)
grown (Operator Greater) c = cond (eqb c 61) (Some (give (Operator GreaterEqual ∷ []))) (cond (eqb c 62) (Some (keep (Pending (Operator ShiftRight)))) None)
grown (Operator ShiftRight) c = cond (eqb c 62) (Some (give (Operator ShiftRightSigned ∷ []))) None
grown (Operator BitAnd) c = cond (eqb c 38) (Some (give (Operator LogicAnd ∷ []))) None
grown (Operator BitOr) c = cond (eqb c 124) (Some (give (Operator LogicOr ∷ []))) None
grown (Operator Plus) c = cond (eqb c 58) (Some (give (Mark PlusColon ∷ []))) None
grown (Operator Times) c = cond (eqb c 42) (Some (give (Operator Power ∷ []))) None
grown (Operator Divide) c = cond (eqb c 47) (Some (keep InComment)) None
grown _ c = None

abbrev pub grow_or : Option Step → Step → Step
grow_or (Some longer) other = longer
grow_or None other = other

-- After `$` and after a backtick a letter must come; `token` is made of the letters.
abbrev pub named : (List ℕ → State) → (List ℕ → Token) → List ℕ → ℕ → Step
named more token [] c = cond (is_letter c) (keep (more (c ∷ []))) fail
named more token (b ∷ w) c = cond (is_word_byte c) (keep (more ((b ∷ w) ++ (c ∷ [])))) (follow (token (b ∷ w) ∷ []) (start c))

-- A system word keeps its `$`.
abbrev pub system_token : List ℕ → Token
system_token w = SystemWord (36 ∷ w)

-- The number before an apostrophe, where there is one.
abbrev pub before_tick : List ℕ → List Token
before_tick [] = []
before_tick (d ∷ ds) = Number (d ∷ ds) ∷ []

-- A byte after an apostrophe: a radix, a sign, a filler, or what a cast or a pattern opens with.
abbrev pub after_tick : List ℕ → ℕ → Step
after_tick d c =
    cond (is_radix c) (keep (InRadix (d ++ (39 ∷ c ∷ []))))
    (cond (eqb c 115) (keep (InSigned (d ++ (39 ∷ c ∷ []))))
    (cond (is_filler c) (give (before_tick d ++ (Based (39 ∷ c ∷ []) ∷ [])))
    (cond (eqb c 40) (give (before_tick d ++ (Mark Apostrophe ∷ Mark OpenParen ∷ [])))
    (cond (eqb c 123) (give (before_tick d ++ (Mark Apostrophe ∷ Mark OpenBrace ∷ []))) fail))))

-- The next byte of a text.
abbrev pub step : State → ℕ → Step
step Gap c = start c
step (InWord w) c = cond (is_word_byte c) (keep (InWord (w ++ (c ∷ [])))) (follow (word_token w ∷ []) (start c))
step (InSystemWord w) c = named InSystemWord system_token w c
step (InMacroWord w) c = named InMacroWord MacroWord w c
step (InNumber d) c = cond (is_digit c) (keep (InNumber (d ++ (c ∷ [])))) (cond (eqb c 39) (keep (AfterTick d)) (follow (Number d ∷ []) (start c)))
step (AfterTick d) c = after_tick d c
step (InSigned b) c = cond (is_radix c) (keep (InRadix (b ++ (c ∷ [])))) fail
step (InRadix b) c = cond (is_based_digit c) (keep (InBased (b ++ (c ∷ [])))) fail
step (InBased b) c = cond (is_based_digit c) (keep (InBased (b ++ (c ∷ [])))) (follow (Based b ∷ []) (start c))
step (InString t) c = cond (eqb c 34) (give (Quoted (t ++ (34 ∷ [])) ∷ [])) (cond (eqb c 92) (keep (InEscape t)) (cond (eqb c 10) fail (keep (InString (t ++ (c ∷ []))))))
step (InEscape t) c = cond (eqb c 10) fail (keep (InString (t ++ (92 ∷ c ∷ []))))
step (Pending sign) c = grow_or (grown sign c) (follow (sign ∷ []) (start c))
step InComment c = cond (eqb c 10) (keep Gap) (keep InComment)

abbrev pub named_end : (List ℕ → Token) → List ℕ → Option (List Token)
named_end token [] = None
named_end token (b ∷ w) = Some (token (b ∷ w) ∷ [])

-- The tokens of what stands pending where the text ends.
abbrev pub flush : State → Option (List Token)
flush Gap = Some []
flush (InWord w) = Some (word_token w ∷ [])
flush (InSystemWord w) = named_end system_token w
flush (InMacroWord w) = named_end MacroWord w
flush (InNumber d) = Some (Number d ∷ [])
flush (InBased b) = Some (Based b ∷ [])
flush (Pending sign) = Some (sign ∷ [])
flush InComment = Some []
flush _ = None

-- The tokens of a text, from a state on.
unfoldable pub scan : State → List ℕ → Option (List Token)
scan s [] = flush s
scan s (c ∷ cs) = let r = step s c in join_tokens r.out (scan r.state cs)

-- The tokens of a text, where it has some.
unfoldable pub tokens : List ℕ → Option (List Token)
unfolding scan
tokens text = scan Gap text
