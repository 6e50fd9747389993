-- What stands at the front of a text, as the scan of the text says it.
use Rattle.std.specs.Prelude.{◌≡◌, ◌<◌, ◌≤◌, ◌+◌, ◌-◌, ⊤, ℕ, List, [], ◌∷◌, ◌++◌, length, take, drop, Bool, true, not, ◌||◌, ◌&&◌, cond, eqb, get_or, Option, Some, None}
use Rattle.std.specs.Str.{IsUtf8, IsCharBoundary}
use Rattle.vast_literal.specs.Tokens as to
use Rattle.vast_literal.specs.Scan.{is_letter, is_word_byte, is_digit, is_based_digit, is_radix, is_space, Gap, AfterTick, InComment, Pending, Step, keep, give, fail}
use Rattle.vast_literal.specs.LiteralToken.{every}
use Rattle.vast_literal.proofs.LexemeShapes.{one, sign_goes}
use Rattle.vast_read.specs.Behind.{Behind}
use Rattle.vast_read.specs.Lexed.{lex, lex_on, unspelled}
use Rattle.vast_expressions.specs.Internal.Views.{token_view}
use Rattle.vast_read.specs.declared.scanner.class.Class.{Class}
use Rattle.vast_read.specs.declared.scanner.class.Class.TheVariants as class
use Rattle.vast_read.specs.declared.scanner.front.Front.{Front}
use Rattle.vast_read.specs.declared.scanner.front.Front.TheVariants as front
use Rattle.vast_read.specs.declared.scanner.sign.Growth.{Growth}
use Rattle.vast_read.specs.declared.scanner.sign.Growth.TheVariants as growth

-- The byte at a place; after the end a line feed, which goes into no lexeme.
abbrev pub byte_at : List ℕ → ℕ → ℕ
byte_at text place = get_or text place 10

-- Whether a byte may stand in a run.
abbrev pub passes : Class → ℕ → Bool
passes class.Space c = is_space c
passes class.Word c = is_word_byte c
passes class.Digit c = is_digit c
passes class.BasedDigit c = is_based_digit c
passes class.Line c = not (eqb c 10)

-- The tokens of a text are the token at its front and those after it, those after a gap, or none fits; what is after is shorter
-- and stands after some of the text's lexemes.
abbrev pub Fronts : Front → List ℕ → Type 0
Fronts (front.Token t rest) text =
    (lex Gap text ≡ (token_view t ∷ lex Gap rest.now)) × (length rest.now < length text) × Behind text rest.now
Fronts (front.Gap rest) text = (lex Gap text ≡ lex Gap rest.now) × (length rest.now < length text) × Behind text rest.now
Fronts front.Unspelled text = lex Gap text ≡ (unspelled ∷ [])

-- It is white space or a comment.
abbrev pub IsGap : Front → Type 0
IsGap (front.Token t rest) = ⊥
IsGap (front.Gap rest) = ⊤
IsGap front.Unspelled = ⊥

-- Whether a byte begins a sign or nothing.
abbrev pub starts_sign : ℕ → Bool
starts_sign c = not (is_letter c || is_digit c || is_space c || eqb c 36 || eqb c 96 || eqb c 34 || eqb c 39)

-- The step of the scan that a sign's growth is.
abbrev pub growth_step : Growth → Step
growth_step (growth.Open t) = keep (Pending (token_view t))
growth_step (growth.Closed t) = give (token_view t ∷ [])
growth_step growth.Comment = keep InComment

-- The step at the first byte of a sign, where one begins so.
abbrev pub growth_or_fail : Option Growth → Step
growth_or_fail None = fail
growth_or_fail (Some g) = growth_step g

-- What may stand after the bytes before a place, in one lexeme with them.
abbrev pub GoesOn : (go : List ℕ → Bool) → (text : List ℕ) → (place : ℕ) → Type 0
GoesOn go text place = (v : List ℕ) → one (take place text ++ v) ≡ go v

-- The scan of the bytes before a place ends by this step, and the text may be cut there.
pub record Reaches (text : List ℕ) (place : ℕ) (last : Step) : Type 0 where
  pub scanned : lex Gap text ≡ lex_on [] last.out (lex last.state (drop place text))
  pub goes : GoesOn (sign_goes last.state) text place
  pub moved : 0 < place
  pub utf8 : IsUtf8 text
  pub boundary : IsCharBoundary text place

-- Whether a byte after an apostrophe opens the digits of a based literal: a radix, or the sign before it.
abbrev pub opens_based : ℕ → Bool
opens_based c = is_radix c || eqb c 115

-- Whether a based literal goes on at a place: an apostrophe, and after it a radix or a sign.
abbrev pub is_based_tick : List ℕ → ℕ → Bool
is_based_tick text tick = eqb (byte_at text tick) 39 && opens_based (byte_at text (tick + 1))

-- What stands after the apostrophe of a cast or a pattern: `(` or `{`.
abbrev pub opens_mark : ℕ → Bool
opens_mark c = eqb c 40 || eqb c 123

-- The place of a literal's radix, after its apostrophe and the sign, where it has one.
abbrev pub radix_place : (next tick : ℕ) → ℕ
radix_place next tick = cond (eqb next 115) (tick + 2) (tick + 1)

-- An apostrophe stands at a place, after digits or none.
pub record IsTick (text : List ℕ) (tick : ℕ) : Type 0 where
  pub scanned : lex Gap text ≡ lex (AfterTick (take tick text)) (drop (tick + 1) text)
  pub digits : every is_digit (take tick text) ≡ true
  pub within : tick < length text
  pub here : byte_at text tick ≡ 39

-- How many bytes go into a string at a byte that is no quote, by it and the byte after it: two at a backslash, none where the line ends.
abbrev pub string_part : ℕ → ℕ → ℕ
string_part c d = cond (eqb c 10) 0 (cond (eqb c 92) (cond (eqb d 10) 0 2) 1)

-- The string at the front of a text ends at a place, after its quote.
pub record EndsString (text : List ℕ) (end : ℕ) : Type 0 where
  pub scanned : lex Gap text ≡ (to.Quoted (take end text) ∷ lex Gap (drop end text))
  pub moved : 0 < end
  pub within : end ≤ length text
  pub closed : byte_at text (end - 1) ≡ 34
  pub behind : Behind text (drop end text)
