-- How far phrases are read.
use Rattle.std.specs.Prelude.{◌≡◌, ◌<◌, ℕ, List, [], ◌∷◌, length, Bool, ◌&&◌, true, false}
use Rattle.vast_literal.specs.Tokens.{Token}
use Rattle.vast_rows.specs.declared.grammar.Item.{Item}
use Rattle.vast_rows.specs.declared.grammar.Item.TheVariants as item
use Rattle.vast_rows.specs.declared.reach.Reach.{Reach}
use Rattle.vast_rows.specs.declared.reach.Reach.TheVariants.{Nowhere, Part, Whole}
use Rattle.vast_rows.specs.Events.{Event}
use Rattle.vast_rows.specs.Fronts.{LongestFront}
use Rattle.vast_rows.specs.Kinds.{has, token_kind}
use Rattle.vast_rows.specs.Laws.{Tells}
use Rattle.vast_rows.specs.Rows.{Row}

-- The tokens are what a rule spells.
abbrev pub SpellsRule : List Row → (rule : ℕ) → List Token → Type 0
SpellsRule rows rule ts = (es : List Event) × Tells rows rule ts es

-- The next token has none of the kinds.
abbrev pub IsQuiet : (left : List Token) → (kinds : ℕ) → Type 0
IsQuiet left kinds = (t : Token) (us : List Token) → left ≡ t ∷ us → has kinds (token_kind t) ≡ false

-- Some tokens were read, which are a front of the language and nothing of it; or which are of it, and no token of the kind that
-- is left goes on with them.
pub record PartRead (L : List Token → Type 0) (before left : List Token) (kinds : ℕ) : Type 0 where
  pub longest : LongestFront L before left kinds false
  pub fewer : length left < length before

pub record WholeRead (L : List Token → Type 0) (before left : List Token) (kinds : ℕ) : Type 0 where
  pub longest : LongestFront L before left kinds true
  pub fewer : length left < length before
  pub quiet : IsQuiet left kinds

-- Nothing of the language begins with the next token.
abbrev pub Refuses : (L : List Token → Type 0) → List Token → Type 0
Refuses L ts = (t : Token) (us rest : List Token) → ts ≡ t ∷ us → L (t ∷ rest) → ⊥

-- How far something of a language was read.
abbrev pub Reaches : (L : List Token → Type 0) → (before left : List Token) → Reach → Type 0
Reaches L before left Nowhere = (left ≡ before) × Refuses L before
Reaches L before left (Part kinds) = PartRead L before left kinds
Reaches L before left (Whole kinds) = WholeRead L before left kinds

-- Rows that have no phrases.
abbrev pub plain_items : List Item → Bool
plain_items [] = true
plain_items (item.Token k ∷ s) = plain_items s
plain_items (item.Rule r ∷ s) = plain_items s
plain_items (item.Phrase p ∷ s) = false

abbrev pub are_plain : List Row → Bool
are_plain [] = true
are_plain (row ∷ rest) = plain_items row.items && are_plain rest
