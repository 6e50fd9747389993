-- Whether the file of a list is plain.
use Rattle.std.specs.Prelude.{◌≡◌, ℕ, Bool, true, false, List, [], ◌∷◌, ◌++◌, Option, string_bytes}
use Rattle.vast_core.specs.Bench.{Bench}
use Rattle.vast_core.specs.FileTree.{tree}
use Rattle.vast_literal.specs.PlainFile.{is_plain_file}
use Rattle.vast_literal.specs.declared.kind.VastFileType.{VastFileType}
use Rattle.vast_script.specs.declared.answer.Answer.{Answer}
use Rattle.vast_calls.specs.declared.names.Named.{Named}
use Rattle.vast_list.specs.declared.plainness.Plainness.{Plainness}
use Rattle.vast_list.specs.declared.plainness.Plainness.TheVariants.{Plain, NotPlain}
use Rattle.vast_list.specs.Built.{LinesBuild}
use Rattle.vast_calls.specs.Lines.{BeginsWithDialect, line_word}

-- The lines build a file, and it is plain, or it is not.
abbrev pub BuildPlain : (is_plain : Bool) → (lines : List (List ℕ)) → Type 0
BuildPlain is_plain lines =
    (dialect : VastFileType) × (behind : List (List ℕ)) × BeginsWithDialect lines dialect behind × (file : Bench) × (answers : List Answer) × (named : List ℕ → Option Named)
    × LinesBuild false dialect behind file answers named × (is_plain_file (tree file) ≡ is_plain)

-- The lines' file is plain; or the file is not plain that the lines up to one build whose call has this name.
abbrev pub PlainnessOf : Plainness → (lines : List (List ℕ)) → Type 0
PlainnessOf Plain lines = BuildPlain true lines
PlainnessOf (NotPlain number call) lines =
    (before : List (List ℕ)) × (line : List ℕ) × (behind : List (List ℕ)) × (lines ≡ (before ++ line ∷ []) ++ behind) × (string_bytes call ≡ line_word line) × BuildPlain false (before ++ line ∷ [])
