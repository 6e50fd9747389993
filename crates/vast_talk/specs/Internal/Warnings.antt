-- Beside `specs/Warnings.antt`: what private contracts and proofs say, and no public one.
use Rattle.std.specs.Prelude.{◌≡◌, ℕ, List, ◌++◌, codes}
use Rattle.vast_talk.specs.declared.warnings.LineWarning.{LineWarning}
use Rattle.vast_talk.specs.Warnings.{AreMoreWarnings, IsWarningList, IsWarningObject}

-- The text grew by a warning.
abbrev pub AddsWarning : (old new : List ℕ) → LineWarning → Type 0
AddsWarning old new warning = (object : List ℕ) × IsWarningObject warning object × (new ≡ old ++ object)

-- The text grew by warnings, each after a comma.
abbrev pub AddsMoreWarnings : (old new : List ℕ) → List LineWarning → Type 0
AddsMoreWarnings old new warnings = (more : List ℕ) × AreMoreWarnings warnings more × (new ≡ old ++ more)

-- The text grew by a list of the warnings.
abbrev pub AddsWarningList : (old new : List ℕ) → List LineWarning → Type 0
AddsWarningList old new warnings = (list : List ℕ) × IsWarningList warnings list × (new ≡ old ++ list)

-- The text grew by a last member, the list of the warnings.
abbrev pub AddsLastMember : (old new : List ℕ) → List LineWarning → Type 0
AddsLastMember old new warnings = (list : List ℕ) × IsWarningList warnings list × (new ≡ old ++ codes ",\"warnings\":" ++ list)
