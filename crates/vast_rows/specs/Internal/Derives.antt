-- What rows derive: the leftmost derivations.
use Rattle.std.specs.Prelude.{◌≡◌, ℕ, List, [], ◌∷◌, ◌++◌, Some}
use Rattle.std.specs.List.{slice_get}
use Rattle.vast_literal.specs.Tokens as tokens
use Rattle.vast_rows.specs.declared.grammar.Item.{Item}
use Rattle.vast_rows.specs.declared.grammar.Item.TheVariants.{Token, Rule, Phrase}
use Rattle.vast_rows.specs.declared.grammar.Phrase as code
use Rattle.vast_rows.specs.Events.{Event, Reads, name_of, made_by, named_by}
use Rattle.vast_rows.specs.Kinds.{token_kind}
use Rattle.vast_rows.specs.Phrases.{Meaning, IsPhrase}
use Rattle.vast_rows.specs.Rows.{Row}

-- The items derive the tokens, and the events are told: at each rule in turn, from the left, what a row for it makes, at each phrase what
-- it means, and of each token its name.
pub data Derives (rows : List Row) : List Item → List tokens.Token → List Event → Type 0 where
  nothing : Derives rows [] [] []
  token : {k : ℕ} {s : List Item} {ts : List tokens.Token} {es : List Event} (t : tokens.Token) → token_kind t ≡ k → Derives rows s ts es → Derives rows (Token k ∷ s) (t ∷ ts) (named_by (name_of t) es)
  phrase : {p : code.Phrase} {s : List Item} {all ts : List tokens.Token} {es : List Event} (ps : List tokens.Token) (m : Meaning) → IsPhrase p ps m → all ≡ ps ++ ts → Derives rows s ts es → Derives rows (Phrase p ∷ s) all (Reads m ∷ es)
  choice : {r : ℕ} {s : List Item} {ts : List tokens.Token} {es : List Event} (n : ℕ) (row : Row) → slice_get rows n ≡ Some row → row.rule ≡ r →
      Derives rows (row.items ++ s) ts es → Derives rows (Rule r ∷ s) ts (made_by row.action es)
