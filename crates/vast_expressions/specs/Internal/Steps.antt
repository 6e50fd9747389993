-- A step of the code.
use Rattle.std.specs.Prelude.{◌≡◌, List, ◌++◌, map, Bool, true, false}
use Rattle.vast_literal.specs.Tokens.{Token}
use Rattle.vast_expressions.specs.Events.{Event}
use Rattle.vast_expressions.specs.Internal.Items.{item_view}
use Rattle.vast_expressions.specs.declared.item.Item.{Item as Code}
use Rattle.vast_expressions.specs.Rows.{Item, Row, Stuck, Goes, Tells}

-- The row of an item, with these to be read after it.
abbrev pub onto : Row → List Item → Row
onto Stuck k = Stuck
onto (Goes is ts) k = Goes (is ++ k) ts
onto (Tells e is ts) k = Tells e (is ++ k) ts

-- The row of a whole stack was done: its items are the stack, its tokens are left, and its event was heard.
abbrev pub DoesIt : {A : Type 0} → (A → Event → A → Type 0) → Row → Bool → List Item → List Token → A → A → Type 0
DoesIt hears Stuck done new left a b = done ≡ false
DoesIt hears (Goes is ts) done new left a b = (done ≡ true) × (new ≡ is) × (left ≡ ts) × (a ≡ b)
DoesIt hears (Tells e is ts) done new left a b = (done ≡ true) × (new ≡ is) × (left ≡ ts) × hears a e b

-- The row of an item was done: its items are on the stack in place of the one that chose it.
abbrev pub Does : {A : Type 0} → (A → Event → A → Type 0) → Row → Bool → List Code → List Code → List Token → A → A → Type 0
Does hears row done old new left a b = DoesIt hears (onto row (map item_view old)) done (map item_view new) left a b

-- Rows in one were done, as a function of the tokens and of what is to be read after the item that chose them.
abbrev pub DoesAll : {A : Type 0} → (A → Event → A → Type 0) → (List Token → List Item → Row) → Bool → List Token → List Code → List Code → List Token → A → A → Type 0
DoesAll hears rows done ts old new left a b = DoesIt hears (rows ts (map item_view old)) done (map item_view new) left a b
