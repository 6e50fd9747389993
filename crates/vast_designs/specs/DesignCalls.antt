-- The designs that are lists of calls, and what a list of calls prints.
use Rattle.std.specs.Prelude.{◌≡◌, pos, true, false, List, [], ◌∷◌, codes}
use Rattle.vast_literal.specs.declared.kind.VastFileType.TheVariants.{SystemVerilog}
use Rattle.vast_literal.specs.declared.kind.ModulePortDirection.TheVariants.{Input, Output}
use Rattle.vast_literal.specs.declared.kind.DataKind.TheVariants.{Wire, Reg}
use Rattle.vast_literal.specs.declared.kind.CaseKind.TheVariants.{CaseZ}
use Rattle.vast_literal.specs.PlainFile.{is_plain_file}
use Rattle.vast_core.specs.declared.node.Statement.TheVariants.{Comment as CommentStatement}
use Rattle.vast_core.specs.Growth.{decimal_literal}
use Rattle.vast_core.specs.Bench.{start}
use Rattle.vast_core.specs.FileTree.{tree}
use Rattle.vast_script.specs.Outcome.{Call}
use Rattle.vast_script.specs.Script.{called}
use Rattle.vast_steps.specs.declared.step.TypeStep.TheVariants.{MakeBitVectorType}
use Rattle.vast_steps.specs.declared.step.StatementStep.TheVariants.{FunctionBody, FunctionResult, CaseAddItem, CaseAddDefault, CaseSetUnique}
use Rattle.vast_steps.specs.declared.step.ArtifactStep.TheVariants.{MakeContinuousAssignment, AddMemberContinuousAssignment}
use Rattle.vast_script.specs.Types.{type_call}
use Rattle.vast_script.specs.Expressions.{make_binary_pattern, make_leaf, make_function_call}
use Rattle.vast_script.specs.Modules.{add_module, add_port}
use Rattle.vast_script.specs.Artifacts.{artifact_call}
use Rattle.vast_script.specs.Statements.{add_function, function_add_variable, block_add_case, block_add_assignment, block_add, statement_call}

-- That file is plain.
abbrev pub IsPlainDesign : List Call → Type 0
IsPlainDesign calls = is_plain_file (tree (called (start SystemVerilog 1) calls)) ≡ true

-- The calls of `passthrough`.
unfoldable pub passthrough_calls : List Call
passthrough_calls =
    add_module (codes "passthrough")
    ∷ type_call (MakeBitVectorType (pos 8) false)
    ∷ add_port Input Wire 0 (codes "input_data") 1
    ∷ add_port Output Wire 0 (codes "output_data") 1
    ∷ artifact_call (MakeContinuousAssignment 3 2)
    ∷ artifact_call (AddMemberContinuousAssignment 0 4)
    ∷ []

-- The calls of `cases`.
unfoldable pub cases_calls : List Call
cases_calls =
    add_module (codes "encoder")
    ∷ type_call (MakeBitVectorType (pos 4) false)
    ∷ type_call (MakeBitVectorType (pos 2) false)
    ∷ add_port Input Wire 0 (codes "s") 1
    ∷ add_port Output Wire 0 (codes "y") 2
    ∷ add_function 0 (codes "f") 2
    ∷ function_add_variable false Reg (codes "input") 5 (codes "s") 1
    ∷ statement_call (FunctionBody 5)
    ∷ statement_call (FunctionResult 5)
    ∷ block_add_case CaseZ 7 6
    ∷ statement_call (CaseSetUnique 9 true)
    ∷ make_binary_pattern (codes "1???")
    ∷ make_leaf (decimal_literal (pos 2))
    ∷ statement_call (CaseAddItem 9 11)
    ∷ block_add_assignment false 13 8 12
    ∷ make_leaf (decimal_literal (pos 0))
    ∷ statement_call (CaseAddDefault 9)
    ∷ block_add (CommentStatement (codes "none")) 16
    ∷ block_add_assignment false 16 8 15
    ∷ make_function_call (codes "f") (3 ∷ [])
    ∷ artifact_call (MakeContinuousAssignment 4 19)
    ∷ artifact_call (AddMemberContinuousAssignment 0 20)
    ∷ []
