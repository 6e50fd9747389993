-- The headline, as two laws: what is printed of any list of calls, and that it reads back. To believe the first, read in
-- this order what it names: `built` and the calls of `Script` (what the steps build), `start` and `tree` of `Bench` (a new
-- file, and the tree of a file), `layout`, `print` and `Emits` (its text, byte for byte). The second names besides
-- `is_plain_file`, `normal_file`, `Lexes` and `DerivesFile` (what the grammar says, from the lexemes of a text on).
use Rattle.std.specs.Prelude.{ℕ, List, Vec, Result, Ok, IfOk, String, string_bytes}
use Rattle.std.specs.declared.alloc.Global.{Global}
use Rattle.vast_literal.specs.Tree.{FileTree}
use Rattle.vast_literal.specs.declared.kind.VastFileType.{VastFileType as Dialect}
use Rattle.vast_literal.specs.declared.error.VastFault.{VastFault}
use Rattle.vast_core.specs.Bench.{Bench, start}
use Rattle.vast_core.specs.FileTree.{tree}
use Rattle.vast_print.specs.Derived.{FileDerivesIfPlain}
use Rattle.vast_print.specs.Emits.{Emits}
use Rattle.vast_print.specs.Layout.{layout}
use Rattle.vast_script.specs.declared.answer.Answer.{Answer}
use Rattle.vast_steps.specs.declared.step.Step.{Step}
use Rattle.vast_script.specs.Script.{built, Replayed}

-- The tree that the steps build from a new file.
abbrev pub tree_built : Dialect → ℕ → List Step → FileTree
tree_built dialect id steps = tree (built (start dialect id) steps)

-- For every dialect and every list of steps: `new` makes a file, `replay` makes all steps on it and leaves it as it then
-- is, and `emit` returns the printed layout of its tree, byte for byte, or the layout's first refusal, or memory was
-- refused; so that is said of the tree that the steps build.
abbrev pub PrintsWhatWasBuilt : Type 0
PrintsWhatWasBuilt =
    (dialect : Dialect) (id : ℕ) (steps : List Step) (file : Bench) (answers : Vec Answer Global) (emitted : Result (String Global) VastFault) →
    Replayed (start dialect id) file steps (Ok answers) → Emits (layout (tree file)) emitted → Emits (layout (tree_built dialect id steps)) emitted

-- And where the tree of that file is plain, the text that `emit` returns derives its normal form in the grammar, and no
-- other tree; so that is said of the tree that the steps build.
abbrev pub ReadsBackWhatWasBuilt : Type 0
ReadsBackWhatWasBuilt =
    (dialect : Dialect) (id : ℕ) (steps : List Step) (file : Bench) (answers : Vec Answer Global) (emitted : Result (String Global) VastFault) →
    Replayed (start dialect id) file steps (Ok answers) → IfOk emitted (λ text. FileDerivesIfPlain (string_bytes text) (tree file)) →
    IfOk emitted (λ text. FileDerivesIfPlain (string_bytes text) (tree_built dialect id steps))
