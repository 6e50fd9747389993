-- What a source of tokens does.
use Rattle.std.specs.Prelude.{◌≡◌, ◌<◌, ℕ, List, [], ◌∷◌, ◌++◌, length, true, Option, None, codes}
use Rattle.vast_literal.specs.Tokens.{Token, Word, Number, Quoted}
use Rattle.vast_rows.specs.declared.grammar.Phrase.{Phrase}
use Rattle.vast_rows.specs.Kinds.{has, number, kind_of}
use Rattle.vast_rows.specs.declared.kind.Kind.{Kind}
use Rattle.vast_rows.specs.declared.kind.Kind.TheVariants.{End}
use Rattle.vast_rows.specs.Events.{name_of}
use Rattle.vast_rows.specs.Phrases.{Meaning, IsPhrase}
use Rattle.vast_rows.specs.Internal.PhraseKinds.{stops}

-- What is after the first token.
abbrev pub tail : List Token → List Token
tail [] = []
tail (t ∷ ts) = ts

-- The kind of the first token, and its number; the text of the first, if it is a name.
abbrev pub kind_of_first : List Token → Kind
kind_of_first [] = End
kind_of_first (t ∷ ts) = kind_of t

abbrev pub head_kind : List Token → ℕ
head_kind ts = number (kind_of_first ts)

abbrev pub first_name : List Token → Option (List ℕ)
first_name [] = None
first_name (t ∷ ts) = name_of t

-- A phrase that was read: it stands there, and any that stands there before a kind that may follow it is this one.
pub record HasRead (phrase : Phrase) (before : List Token) (m : Meaning) (behind : List Token) : Type 0 where
  pub front : List Token
  pub reads : IsPhrase phrase front m
  pub split : before ≡ front ++ behind
  pub fewer : length behind < length before
  pub same : (ts rest : List Token) (n : Meaning) → IsPhrase phrase ts n → before ≡ ts ++ rest → has (stops phrase) (head_kind rest) ≡ true → (n ≡ m) × (rest ≡ behind)

-- None stands there before a kind that may follow it.
abbrev pub HasNone : Phrase → List Token → Type 0
HasNone phrase before = (ts rest : List Token) (m : Meaning) → IsPhrase phrase ts m → before ≡ ts ++ rest → has (stops phrase) (head_kind rest) ≡ true → ⊥

-- The first token is this name; a path, in its quotes; the number 1.

abbrev pub IsNameNext : (name : List ℕ) → List Token → Type 0
IsNameNext name ts = (us : List Token) × (ts ≡ Word name ∷ us)

abbrev pub IsPathNext : List Token → Type 0
IsPathNext ts = (path : List ℕ) × (us : List Token) × (ts ≡ Quoted (34 ∷ (path ++ (34 ∷ []))) ∷ us)

abbrev pub IsOneNext : List Token → Type 0
IsOneNext ts = (us : List Token) × (ts ≡ Number (codes "1") ∷ us)

-- The tokens are a phrase.
abbrev pub SpellsPhrase : Phrase → List Token → Type 0
SpellsPhrase phrase ts = (m : Meaning) × IsPhrase phrase ts m
