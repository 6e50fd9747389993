-- The lexemes that the grammar uses, one rule for each kind (IEEE Std 1800, lexical tokens, among which are white space and
-- comments), and the tokens of a text by them: at each place the longest lexeme.
use Rattle.std.specs.Prelude.{◌≡◌, ◌≢◌, ◌↔◌, ◌≤◌, ℕ, List, [], ◌∷◌, ◌++◌, length, Bool, not, ◌||◌, eqb, codes, Some, IsTrue}
use Rattle.vast_literal.specs.Tokens.{Op, Punct, OpenParen, CloseParen, OpenBracket, CloseBracket, OpenBrace, CloseBrace, Comma, Colon, Semicolon, Dot, Hash, At, Question, DoubleColon, PlusColon, Assign, Apostrophe}
use Rattle.vast_literal.specs.Tokens.{Token, SystemWord, MacroWord, Number, Based, Quoted, Operator, Mark, word_token}
use Rattle.vast_literal.specs.Scan.{is_digit, is_radix, is_filler, is_space, tokens}
use Rattle.vast_literal.specs.Tokens.{op_text}
use Rattle.vast_literal.specs.LiteralToken.{every, is_number, is_based_number}
use Rattle.vast_literal.specs.Plain.{is_identifier}

-- A mark as it is written.
abbrev pub mark_text : Punct → List ℕ
mark_text OpenParen = codes "("
mark_text CloseParen = codes ")"
mark_text OpenBracket = codes "["
mark_text CloseBracket = codes "]"
mark_text OpenBrace = codes "{"
mark_text CloseBrace = codes "}"
mark_text Comma = codes ","
mark_text Colon = codes ":"
mark_text Semicolon = codes ";"
mark_text Dot = codes "."
mark_text Hash = codes "#"
mark_text At = codes "@"
mark_text Question = codes "?"
mark_text DoubleColon = codes "::"
mark_text PlusColon = codes "+:"
mark_text Assign = codes "="
mark_text Apostrophe = codes "'"

-- A byte that ends no line.
abbrev pub is_in_line : ℕ → Bool
is_in_line c = not (eqb c 10)

-- A byte of a string that stands for itself: no quote, no backslash, no line feed.
abbrev pub is_bare : ℕ → Bool
is_bare c = not (eqb c 34 || (eqb c 92 || eqb c 10))

-- What may stand between the quotes of a string: such bytes, and a backslash before any byte but a line feed.
pub data AreCharacters : List ℕ → Type 0 where
  no_character : AreCharacters []
  bare : {c : ℕ} {cs : List ℕ} → IsTrue (is_bare c) → AreCharacters cs → AreCharacters (c ∷ cs)
  escaped : {c : ℕ} {cs : List ℕ} → IsTrue (is_in_line c) → AreCharacters cs → AreCharacters (codes "\\" ++ (c ∷ cs))

-- The base of a based literal: a radix, perhaps with `s` before it.
pub data IsBase : List ℕ → Type 0 where
  unsigned : {r : ℕ} → IsTrue (is_radix r) → IsBase (r ∷ [])
  signed : {r : ℕ} → IsTrue (is_radix r) → IsBase (codes "s" ++ (r ∷ []))

-- A lexeme and its tokens; white space and comments have none.
pub data IsLexeme : List ℕ → List Token → Type 0 where
  space : {c : ℕ} → IsTrue (is_space c) → IsLexeme (c ∷ []) []
  -- two slashes and what stands after them in their line
  comment : {line : List ℕ} → IsTrue (every is_in_line line) → IsLexeme (codes "//" ++ line) []
  -- a keyword or a name
  word : {w : List ℕ} → IsTrue (is_identifier w) → IsLexeme w (word_token w ∷ [])
  system_word : {w : List ℕ} → IsTrue (is_identifier w) → IsLexeme (codes "$" ++ w) (SystemWord (codes "$" ++ w) ∷ [])
  macro_word : {w : List ℕ} → IsTrue (is_identifier w) → IsLexeme (codes "`" ++ w) (MacroWord w ∷ [])
  number : {ds : List ℕ} → IsTrue (is_number ds) → IsLexeme ds (Number ds ∷ [])
  -- a size or none, an apostrophe, a base and digits
  based : (size base ds : List ℕ) → IsTrue (every is_digit size) → IsBase base → IsTrue (is_based_number ds) →
      IsLexeme (size ++ (codes "'" ++ (base ++ ds))) (Based (size ++ (codes "'" ++ (base ++ ds))) ∷ [])
  -- an apostrophe and the byte that fills all bits
  filled : {c : ℕ} → IsTrue (is_filler c) → IsLexeme (codes "'" ++ (c ∷ [])) (Based (codes "'" ++ (c ∷ [])) ∷ [])
  string : (cs : List ℕ) → AreCharacters cs →
      IsLexeme (codes "\"" ++ (cs ++ codes "\"")) (Quoted (codes "\"" ++ (cs ++ codes "\"")) ∷ [])
  operator : (op : Op) → IsLexeme (op_text op) (Operator op ∷ [])
  mark : (m : Punct) → m ≢ Apostrophe → IsLexeme (mark_text m) (Mark m ∷ [])
  -- the apostrophe of a cast, and that of a pattern, with what they open
  cast : IsLexeme (codes "'(") (Mark Apostrophe ∷ Mark OpenParen ∷ [])
  pattern : IsLexeme (codes "'{") (Mark Apostrophe ∷ Mark OpenBrace ∷ [])

-- No longer front of the text is a lexeme: `>>>` is one, and `//` begins a comment and is no two operators.
abbrev pub IsLongest : (front rest : List ℕ) → Type 0
IsLongest front rest =
    (other behind : List ℕ) (ts : List Token) → front ++ rest ≡ other ++ behind → IsLexeme other ts → length other ≤ length front

-- A text and its tokens: those of the longest lexeme at its front, and then those of the rest.
pub data Lexes : List ℕ → List Token → Type 0 where
  no_text : Lexes [] []
  lexeme : {front rest : List ℕ} {ts us : List Token} → IsLexeme front ts → IsLongest front rest → Lexes rest us →
      Lexes (front ++ rest) (ts ++ us)

-- The scan gives a text exactly the tokens of its lexemes, and none where the text does not fall into lexemes.
abbrev pub TakesLongest : Type 0
TakesLongest = (text : List ℕ) (ts : List Token) → (tokens text ≡ Some ts) ↔ Lexes text ts
