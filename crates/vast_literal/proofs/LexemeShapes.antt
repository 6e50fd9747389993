-- A test that each lexeme passes, by its first byte, in the order in which the scan tests it; and what the scan says of a lexeme alone.
use Rattle.std.proofs.Common.{◌≡◌, ◌≢◌, ℕ, List, [], ◌∷◌, ◌++◌, Bool, true, false, cond, ◌&&◌, ◌||◌, eqb, Option, Some, None, refl, ◌∙◌, arith}
use Rattle.std.proofs.lemmas.Bool.Decides.{nat_tests}
use Rattle.vast_literal.specs.Tokens.{Op, LogicOr, Punct, Apostrophe, Token}
use Rattle.vast_literal.specs.Scan.{is_letter, is_digit, is_word_byte, is_radix, is_filler, is_space, State, Gap, InString, InComment, Pending, Step, grown, find_sign, whole_signs, growing_signs}
use Rattle.vast_literal.specs.Tokens.{op_text}
use Rattle.vast_literal.specs.LiteralToken.{every, is_number, is_based_number, is_based_tail, is_based, is_done, is_string_rest}
use Rattle.vast_literal.specs.Plain.{is_identifier}
use Rattle.vast_literal.specs.Lexemes.{mark_text, is_in_line, is_bare, AreCharacters, IsBase, IsLexeme}
use Rattle.vast_literal.specs.Lexemes.AreCharacters.{no_character, bare, escaped}
use Rattle.vast_literal.specs.Lexemes.IsBase.{unsigned, signed}
use Rattle.vast_literal.specs.Lexemes.IsLexeme.{space, comment, word, system_word, macro_word, number, based, filled, string, operator, mark, cast, pattern}
use Rattle.vast_literal.proofs.ScanLaws.{and_left, and_right, digit_letter, not_or_left, not_or_right, or_left, or_right}
use Rattle.vast_literal.proofs.TokenTexts.{or_true, based_sized}

-- where a sign's growth leads to; a string with no quote where it doesn't grow, which nothing follows
abbrev pub grown_state : Option Step → State
grown_state None = InString []
grown_state (Some longer) = longer.state

abbrev pub sign_state : Option Token → Option Token → State
sign_state (Some sign) growing = Gap
sign_state None (Some sign) = Pending sign
sign_state None None = InString []

-- what may follow a sign in its lexeme
abbrev pub sign_goes : State → List ℕ → Bool
sign_goes InComment line = every is_in_line line
sign_goes Gap v = is_done v
sign_goes (Pending g) [] = true
sign_goes (Pending g) (c ∷ v) = sign_goes (grown_state (grown g c)) v
sign_goes _ v = false

-- a filler or what a cast or a pattern opens, alone
abbrev pub is_opened : List ℕ → Bool
is_opened [] = false
is_opened (c ∷ v) = (is_filler c || (eqb c 40 || eqb c 123)) && is_done v

-- what may follow an apostrophe in its lexeme
abbrev pub tick_goes : List ℕ → Bool
tick_goes v = is_opened v || is_based_tail v

-- what may follow a digit
abbrev pub digit_goes : List ℕ → Bool
digit_goes v = every is_digit v || is_based v

-- what may follow a byte that is no letter and no digit
abbrev pub other_goes : ℕ → List ℕ → Bool
other_goes b v =
    cond (is_space b) (is_done v)
    (cond (eqb b 36) (is_identifier v)
    (cond (eqb b 96) (is_identifier v)
    (cond (eqb b 34) (is_string_rest false v)
    (cond (eqb b 39) (tick_goes v) (sign_goes (sign_state (find_sign whole_signs b) (find_sign growing_signs b)) v)))))

abbrev pub one_goes : ℕ → List ℕ → Bool
one_goes b v = cond (is_letter b) (every is_word_byte v) (cond (is_digit b) (digit_goes v) (other_goes b v))

-- may be one lexeme
abbrev pub one : List ℕ → Bool
one [] = false
one (b ∷ v) = one_goes b v

pub space_letter : (c : ℕ) → is_space c ≡ true → is_letter c ≡ false
space_letter c h = grind (arith, nat_tests)

pub space_digit : (c : ℕ) → is_space c ≡ true → is_digit c ≡ false
space_digit c h = grind (arith, nat_tests)

pub radix_signed : (c : ℕ) → is_radix c ≡ true → eqb c 115 ≡ false
radix_signed c h = grind (arith, nat_tests)

pub base_tail : (base ds : List ℕ) → IsBase base → is_based_number ds ≡ true → is_based_tail (base ++ ds) ≡ true
base_tail base ds (unsigned {r} g) h = rw (radix_signed r g, g) h
base_tail base ds (signed g) h = rw g h

based_one : (size tail : List ℕ) → every is_digit size ≡ true → is_based_tail tail ≡ true → one (size ++ (39 ∷ tail)) ≡ true
based_one [] tail g h = rw h (or_true (is_opened tail))
based_one (c ∷ cs) tail g h =
    let d = and_left (is_digit c) (every is_digit cs) g in
    rw (digit_letter c d, d, based_sized cs tail (and_right (is_digit c) (every is_digit cs) g) h) (or_true (every is_digit (cs ++ (39 ∷ tail))))

word_one : (w : List ℕ) → is_identifier w ≡ true → one w ≡ true
word_one [] h = h
word_one (c ∷ w) h = rw (and_left (is_letter c) (every is_word_byte w) h) (and_right (is_letter c) (every is_word_byte w) h)

number_one : (ds : List ℕ) → is_number ds ≡ true → one ds ≡ true
number_one [] h = h
number_one (c ∷ ds) h =
    let d = and_left (is_digit c) (every is_digit ds) h in
    rw (digit_letter c d, d, and_right (is_digit c) (every is_digit ds) h)

bare_string : (c : ℕ) (rest : List ℕ) → is_bare c ≡ true → is_string_rest false (c ∷ rest) ≡ is_string_rest false rest
bare_string c rest h =
    let k = not_or_right (eqb c 34) (eqb c 92 || eqb c 10) h in
    rw (not_or_left (eqb c 34) (eqb c 92 || eqb c 10) h, or_left (eqb c 92) (eqb c 10) k, or_right (eqb c 92) (eqb c 10) k)

pub characters_rest : (cs : List ℕ) → AreCharacters cs → is_string_rest false (cs ++ (34 ∷ [])) ≡ true
characters_rest cs no_character = refl
characters_rest cs (bare {c} {cs = rest} h k) = bare_string c (rest ++ (34 ∷ [])) h ∙ characters_rest rest k
characters_rest cs (escaped {c} {cs = rest} h k) = rw h (characters_rest rest k)

operator_one : (op : Op) → one (op_text op) ≡ true
operator_one LogicOr = refl
operator_one _ = refl

mark_one : (m : Punct) → m ≢ Apostrophe → one (mark_text m) ≡ true
mark_one Apostrophe h = absurd (h refl)
mark_one _ h = refl

-- Each lexeme passes the test.
pub lexeme_one : (w : List ℕ) (ts : List Token) → IsLexeme w ts → one w ≡ true
lexeme_one w ts (space {c} h) = rw (space_letter c h, space_digit c h, h)
lexeme_one w ts (comment h) = h
lexeme_one w ts (word {w = v} h) = word_one v h
lexeme_one w ts (system_word h) = h
lexeme_one w ts (macro_word h) = h
lexeme_one w ts (number {ds} h) = number_one ds h
lexeme_one w ts (based size base ds g b h) = based_one size (base ++ ds) g (base_tail base ds b h)
lexeme_one w ts (filled h) = rw h
lexeme_one w ts (string cs h) = characters_rest cs h
lexeme_one w ts (operator op) = operator_one op
lexeme_one w ts (mark m h) = mark_one m h
lexeme_one w ts cast = refl
lexeme_one w ts pattern = refl
