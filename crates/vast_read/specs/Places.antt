-- Places of a text between its tokens.
use Rattle.std.specs.Prelude.{◌≡◌, ◌⊎◌, ℕ, List, [], ◌∷◌, ◌++◌, drop}
use Rattle.vast_literal.specs.Tokens.{Token}
use Rattle.vast_literal.specs.Scan.{Gap}
use Rattle.vast_literal.specs.Lexemes.{IsLexeme, Lexes}
use Rattle.vast_read.specs.Behind.{Behind}
use Rattle.vast_read.specs.Lexed.{lex}
use Rattle.vast_rows.specs.Fronts.{IsBegun, SpellsFile}

-- What stands in front of this place is some of the text's lexemes, so no token goes over it.
abbrev pub IsBetweenTokens : (text : List ℕ) → (place : ℕ) → Type 0
IsBetweenTokens text place = Behind text (drop place text)

-- The tokens of a text are some and those of what stands after such a place.
abbrev pub PlacesPartTokens : Type 0
PlacesPartTokens =
    (text : List ℕ) (place : ℕ) (ts : List Token) → IsBetweenTokens text place → Lexes text ts →
    (before behind : List Token) × (ts ≡ before ++ behind) × Lexes (drop place text) behind

-- The tokens of a text are its first and those of the rest; where it has none, nothing is left.
abbrev pub IsBehindFirst : (text rest : List ℕ) → Type 0
IsBehindFirst text rest = ((token : Token) × (lex Gap text ≡ token ∷ lex Gap rest)) ⊎ ((lex Gap text ≡ []) × (rest ≡ []))

-- Neither white space nor a comment stands at the front.
abbrev pub BeginsWithoutGap : List ℕ → Type 0
BeginsWithoutGap text = (front behind : List ℕ) → text ≡ front ++ behind → IsLexeme front [] → ⊥

-- What stands in front of this place begins a file, and no file goes on with the token that stands there.
abbrev pub EndsFront : (text : List ℕ) → (place : ℕ) → Type 0
EndsFront text place =
    (front : List Token) × (lex Gap text ≡ front ++ lex Gap (drop place text)) × IsBegun SpellsFile front
    × ((t : Token) (us rest : List Token) → lex Gap (drop place text) ≡ t ∷ us → SpellsFile (front ++ (t ∷ rest)) → ⊥)
