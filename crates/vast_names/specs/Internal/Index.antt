-- Where the names of a list are filed.
use Rattle.std.specs.Prelude.{◌≡◌, ℕ, ◌+◌, ◌-◌, ◌<◌, ◌≤◌, ◌⊎◌, Option, Some, List, ◌∷◌, ◌++◌, length, All, IsSome, slice_index, slice_index_or, []}
use Rattle.std.specs.BTreeMap.{get_by_text}
use Rattle.vast_names.specs.Internal.Hash.{slot_among}
use Rattle.vast_names.specs.declared.index.Index.{Index}

-- A cursor is a name's index and one, or 0 for none. From this cursor the links lead to the name of this index.
pub data Reaches (links : List ℕ) : ℕ → ℕ → Type 0 where
  here : (cursor to : ℕ) → cursor ≡ to + 1 → Reaches links cursor to
  further : (cursor to : ℕ) → 0 < cursor → cursor ≤ length links → Reaches links (slice_index links (cursor - 1)) to → Reaches links cursor to

-- Each cursor is none or the index and one of a filed name, and each link leads to an older name.
pub record IsSound (heads links : List ℕ) : Type 0 where
  pub filed : All (λ head. head ≤ length links) heads
  pub older : (k : ℕ) → k < length links → slice_index links k ≤ k

-- The name of this index is found: by the links from its slot's head, or among the crowded.
abbrev pub IsFound : (heads links : List ℕ) (crowded : List ℕ → Option ℕ) → ℕ → List ℕ → Type 0
IsFound heads links crowded k name = Reaches links (slice_index heads (slot_among (length heads) name)) k ⊎ IsSome (crowded name)

-- These names are filed, in this order.
pub record AreFiled (names : List (List ℕ)) (heads links : List ℕ) (crowded : List ℕ → Option ℕ) : Type 0 where
  pub each : length links ≡ length names
  pub sound : IsSound heads links
  pub found : (k : ℕ) → k < length names → IsFound heads links crowded k (slice_index_or names k [])
  pub own : (name : List ℕ) (k : ℕ) → crowded name ≡ Some k → (k < length names) × (slice_index_or names k [] ≡ name)

-- Each name is found from its slot's head, or in the tree.
abbrev pub Files : Index → List (List ℕ) → Type 0
Files index names = AreFiled names index.heads.items index.links.items (get_by_text index.crowded)

-- Whatever is filed in the one is filed in the other.
abbrev pub FilesNoLess : Index → Index → Type 0
FilesNoLess old new = (names : List (List ℕ)) → Files old names → Files new names

-- Whatever is filed in the one is filed in the other, with this name after it.
abbrev pub FilesOneMore : List ℕ → Index → Index → Type 0
FilesOneMore name old new = (names : List (List ℕ)) → Files old names → Files new (names ++ name ∷ [])
