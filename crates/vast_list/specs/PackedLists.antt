-- Packed lists: the form's version, the dialect, and calls.
use Rattle.std.specs.Prelude.{◌≡◌, ◌==◌, ℕ, Bool, false, List, [], ◌∷◌, ◌++◌, codes}
use Rattle.std.specs.List.{starts_with}
use Rattle.vast_core.specs.FileTree.{tree}
use Rattle.vast_literal.specs.declared.kind.VastFileType.{VastFileType}
use Rattle.vast_literal.specs.declared.kind.VastFileType.TheVariants.{Verilog, SystemVerilog}
use Rattle.vast_session.specs.declared.session.Session.{Session}
use Rattle.vast_session.specs.PackedFronts.{RunsPacked}
use Rattle.vast_session.specs.Session.{IsNew, IsTextOf}
use Rattle.vast_list.specs.Built.{IsListText}

-- Zero and `vast`: no list of text begins so.
abbrev pub packed_sign : List ℕ
packed_sign = 0 ∷ codes "vast"

abbrev pub is_packed_list : (input : List ℕ) → Bool
is_packed_list input = starts_with (λ b c. b == c) input packed_sign

-- After the sign the version, which is 2, and the dialect.
abbrev pub packed_front : VastFileType → List ℕ
packed_front Verilog = packed_sign ++ 2 ∷ 0 ∷ []
packed_front SystemVerilog = packed_sign ++ 2 ∷ 1 ∷ []

-- The text is the printed layout of the tree that the list's calls build, from a file of its dialect on.
abbrev pub IsPackedText : (input text : List ℕ) → Type 0
IsPackedText input text =
    (dialect : VastFileType) × (calls : List ℕ) × (n : ℕ) × (first : Session) × (last : Session) × (input ≡ packed_front dialect ++ calls) × IsNew dialect first × RunsPacked n first last calls []
    × IsTextOf (tree last.file) text

-- The list of these lines and the packed list build the same file: one text is the printed layout of the tree that the lines
-- build, and of the one that the packed calls build.
abbrev pub IsTwin : (lines : List (List ℕ)) → (bytes : List ℕ) → Type 0
IsTwin lines bytes = (text : List ℕ) × IsListText false lines text × IsPackedText bytes text
