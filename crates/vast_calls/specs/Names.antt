-- What the names of a list stand for, from line to line.
use Rattle.std.specs.Prelude.{◌≡◌, ℕ, ◌==◌, ◌&&◌, ◌||◌, Bool, true, false, not, List, [], ◌∷◌, Option, Some, None, ⊤}
use Rattle.std.specs.Char.{is_ascii_alphanumeric, is_ascii_digit}
use Rattle.std.specs.List.{list_all}
use Rattle.std.specs.Map.{update}
use Rattle.std.specs.Str.{bytes_eq}
use Rattle.vast_calls.specs.declared.names.Named.{Named}

-- The name, if there is one, stands for this from now on; every other name stands for what it did.
abbrev pub entered : (named : List ℕ → Option Named) → (name : Option (List ℕ)) → Named → List ℕ → Option Named
entered named None meant = named
entered named (Some name) meant = update bytes_eq named name (Some meant)

-- A letter, a digit or `_`.
abbrev pub is_name_byte : ℕ → Bool
is_name_byte byte = is_ascii_alphanumeric byte || byte == 95

-- One or more letters, digits and `_`, of which the first is no digit: no name is a number.
abbrev pub is_name : List ℕ → Bool
is_name [] = false
is_name (byte ∷ bytes) = not (is_ascii_digit byte) && list_all is_name_byte (byte ∷ bytes)

-- What stands as a name, if anything does, is one, and stands for nothing so far.
abbrev pub IsFree : (named : List ℕ → Option Named) → (name : Option (List ℕ)) → Type 0
IsFree named None = ⊤
IsFree named (Some name) = (is_name name ≡ true) × (named name ≡ None)

-- The name, if there is one, was free and stands for this from then on.
abbrev pub IsEntered : (old new : List ℕ → Option Named) → (name : Option (List ℕ)) → Named → Type 0
IsEntered old new name meant = IsFree old name × (new ≡ entered old name meant)

-- The name, if there is one, stands for nothing from now on.
abbrev pub forgotten : (named : List ℕ → Option Named) → (name : Option (List ℕ)) → List ℕ → Option Named
forgotten named None = named
forgotten named (Some name) = update bytes_eq named name None
