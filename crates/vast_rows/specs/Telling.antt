-- What rows spell, and what they tell of it.
use Rattle.std.specs.Prelude.{◌≡◌, ℕ, List, [], ◌∷◌, ◌++◌, Some}
use Rattle.std.specs.List.{slice_get}
use Rattle.vast_literal.specs.Tokens as tokens
use Rattle.vast_rows.specs.declared.grammar.Item.{Item}
use Rattle.vast_rows.specs.declared.grammar.Item.TheVariants.{Token, Rule, Phrase}
use Rattle.vast_rows.specs.declared.grammar.Phrase as code
use Rattle.vast_rows.specs.Events.{Event, Reads, name_of, made_by, named_by}
use Rattle.vast_rows.specs.Kinds.{token_kind}
use Rattle.vast_rows.specs.Phrases.{Meaning, IsPhrase}
use Rattle.vast_rows.specs.Rows.{Row}

-- The items spell the tokens, each rule by the items of one of its rows; what is told of them stands before other events.
pub data Spells (rows : List Row) : List Item → List tokens.Token → (told others : List Event) → Type 0 where
  no_items : {es : List Event} → Spells rows [] [] es es
  a_token : {k : ℕ} {s : List Item} {ts : List tokens.Token} {es fs : List Event} (t : tokens.Token) → token_kind t ≡ k → Spells rows s ts es fs → Spells rows (Token k ∷ s) (t ∷ ts) (named_by (name_of t) es) fs
  a_phrase : {p : code.Phrase} {m : Meaning} {s : List Item} {ps ts : List tokens.Token} {es fs : List Event} → IsPhrase p ps m → Spells rows s ts es fs → Spells rows (Phrase p ∷ s) (ps ++ ts) (Reads m ∷ es) fs
  a_rule : {r : ℕ} {s : List Item} {ps ts : List tokens.Token} {es fs gs : List Event} (n : ℕ) (row : Row) → slice_get rows n ≡ Some row → row.rule ≡ r →
      Spells rows row.items ps es fs → Spells rows s ts fs gs → Spells rows (Rule r ∷ s) (ps ++ ts) (made_by row.action es) gs
