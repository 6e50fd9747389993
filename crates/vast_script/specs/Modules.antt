-- What becomes of a call of the file's items, and of modules with their ports, declarations and parameters.
use Rattle.std.specs.Prelude.{ℕ, nat_le, true, false, List, length, map, Some, None, codes, string_bytes}
use Rattle.vast_literal.specs.declared.kind.ModulePortDirection.{ModulePortDirection}
use Rattle.vast_literal.specs.declared.kind.ModulePortDirection.TheVariants.{Input, Output, InOut}
use Rattle.vast_literal.specs.declared.kind.DataKind.{DataKind}
use Rattle.vast_literal.specs.declared.kind.DataKind.TheVariants.{Wire, Reg, Logic, User}
use Rattle.vast_core.specs.declared.ast.scope.Scope.TheVariants.{Module as ScopeModule}
use Rattle.vast_core.specs.declared.node.ParameterForm.TheVariants.{Plain as PlainForm, Int as IntForm, Defined as DefinedForm}
use Rattle.vast_core.specs.Scopes.{with_scope_parameter}
use Rattle.vast_core.specs.declared.node.Member.TheVariants.{Import as ImportEntry}
use Rattle.vast_core.specs.declared.node.FileItem.{FileItem}
use Rattle.vast_core.specs.declared.node.FileItem.TheVariants.{Include as IncludeEntry, Import as FileImportEntry, BlankLine as FileBlankEntry, Comment as FileCommentEntry}
use Rattle.vast_core.specs.Growth.{next_node, next_module, with_module, with_item, with_member, next_logic_ref, with_port, with_declaration}
use Rattle.vast_core.specs.Parameters.{with_parameter_port}
use Rattle.vast_core.specs.Hoisting.{with_hoisted}
use Rattle.xlsynth_vast.specs.Conditions.{is_free}
use Rattle.xlsynth_vast.specs.Declarations.{names_in, unless_taken}
use Rattle.xlsynth_vast.specs.Inspections.{members_in}
use Rattle.vast_script.specs.declared.answer.Answer.TheVariants.{VastModule, LogicRef, ParameterRef, LocalparamRef, Nothing}
use Rattle.vast_steps.specs.declared.step.ModuleStep.{ModuleStep}
use Rattle.vast_steps.specs.declared.step.ModuleStep.TheVariants.{AddInclude, AddBlankLine, AddCommentText, AddModule, AddInput, AddOutput, AddInout, AddLogicInput, AddLogicOutput, AddWire, AddReg, AddLogic, AddParameterPort, AddTypedParameterPort, AddParameter, AddParameterWithDef, AddLocalparam, AddIntLocalparam, AddTypedLocalparam, HoistModuleDeclarations, AddImport, AddFileImport, AddEnumTypedef, AddStructTypedef, AddFileEnumTypedef, AddFileStructTypedef, AddVariable}
use Rattle.vast_script.specs.Outcome.{Call, Made, provided, allowed, makes}
use Rattle.vast_script.specs.Kinds.{a_module, a_type, an_expr, a_definition, a_blank_line}
use Rattle.vast_script.specs.Arguments.{takes_one, takes_two, takes_three}
use Rattle.vast_script.specs.Typedefs.{add_enum_typedef, add_struct_typedef, add_file_enum_typedef, add_file_struct_typedef}

abbrev pub add_item : FileItem → Call
add_item entry b answers = Made Nothing (with_item entry b)

abbrev pub add_module : List ℕ → Call
add_module name b answers = Made (VastModule (next_module b)) (with_module name b)

abbrev pub add_port : ModulePortDirection → DataKind → ℕ → List ℕ → ℕ → Call
add_port direction kind owner name type =
    takes_two a_module a_type owner type (λ owner type b. provided (is_free b owner name) (Made (LogicRef (next_logic_ref b)) (with_port owner direction kind name type b)))

abbrev pub add_wire : ℕ → List ℕ → ℕ → Call
add_wire owner name type =
    takes_two a_module a_type owner type (λ owner type b. provided (is_free b owner name) (Made (LogicRef (next_logic_ref b)) (with_declaration owner Wire name type b)))

abbrev pub add_variable : DataKind → (word : List ℕ) → ℕ → List ℕ → ℕ → Call
add_variable kind word owner name type =
    takes_two a_module a_type owner type
    (λ owner type b. allowed (unless_taken word name (names_in b owner)) (λ _. Made (LogicRef (next_logic_ref b)) (with_declaration owner kind name type b)))

-- What becomes of a step of an item, a module or what it declares, one clause each.
abbrev pub module_call : ModuleStep → Call
module_call (AddInclude path) = add_item (IncludeEntry (string_bytes path))
module_call (AddImport owner package_name) = takes_one a_module owner (λ owner b. Made Nothing (with_member owner (ImportEntry (string_bytes package_name)) b))
module_call (AddFileImport package_name) = add_item (FileImportEntry (string_bytes package_name))
module_call (AddEnumTypedef owner name type names values) = add_enum_typedef owner (string_bytes name) type (map string_bytes names.items) values.items
module_call (AddStructTypedef owner name fields) = add_struct_typedef owner (string_bytes name) fields.items
module_call (AddFileEnumTypedef name type names values) = add_file_enum_typedef (string_bytes name) type (map string_bytes names.items) values.items
module_call (AddFileStructTypedef name fields) = add_file_struct_typedef (string_bytes name) fields.items
module_call (AddBlankLine blank) = takes_one a_blank_line blank (λ blank b. Made Nothing (with_item FileBlankEntry b))
module_call (AddCommentText text) = add_item (FileCommentEntry (string_bytes text))
module_call (AddModule name) = add_module (string_bytes name)
module_call (AddInput owner name type) = add_port Input Wire owner (string_bytes name) type
module_call (AddOutput owner name type) = add_port Output Wire owner (string_bytes name) type
module_call (AddInout owner name type) = add_port InOut Wire owner (string_bytes name) type
module_call (AddLogicInput owner name type) = add_port Input Logic owner (string_bytes name) type
module_call (AddLogicOutput owner name type) = add_port Output Logic owner (string_bytes name) type
module_call (AddWire owner name type) = add_wire owner (string_bytes name) type
module_call (AddReg owner name type) = add_variable Reg (codes "reg") owner (string_bytes name) type
module_call (AddLogic owner name type) = add_variable Logic (codes "logic") owner (string_bytes name) type
module_call (AddVariable owner name type) = add_variable User (codes "variable") owner (string_bytes name) type
module_call (AddParameterPort owner name value) = takes_two a_module an_expr owner value
    (λ owner value. makes LogicRef next_logic_ref (with_parameter_port owner (string_bytes name) None value))
module_call (AddTypedParameterPort owner name type value) = takes_three a_module a_type an_expr owner type value
    (λ owner type value. makes LogicRef next_logic_ref (with_parameter_port owner (string_bytes name) (Some type) value))
module_call (AddParameter owner name value) = takes_two a_module an_expr owner value
    (λ owner value. makes ParameterRef (λ b. record { id = next_node b }) (with_scope_parameter (ScopeModule owner) false (PlainForm (string_bytes name)) value))
module_call (AddParameterWithDef owner definition value) = takes_three a_module a_definition an_expr owner definition value
    (λ owner definition value. makes ParameterRef (λ b. record { id = next_node b }) (with_scope_parameter (ScopeModule owner) false (DefinedForm definition) value))
module_call (AddLocalparam owner name value) = takes_two a_module an_expr owner value
    (λ owner value. makes LocalparamRef (λ b. record { id = next_node b }) (with_scope_parameter (ScopeModule owner) true (PlainForm (string_bytes name)) value))
module_call (AddIntLocalparam owner name value) = takes_two a_module an_expr owner value
    (λ owner value. makes LocalparamRef (λ b. record { id = next_node b }) (with_scope_parameter (ScopeModule owner) true (IntForm (string_bytes name)) value))
module_call (AddTypedLocalparam owner definition value) = takes_three a_module a_definition an_expr owner definition value
    (λ owner definition value. makes LocalparamRef (λ b. record { id = next_node b }) (with_scope_parameter (ScopeModule owner) true (DefinedForm definition) value))
module_call (HoistModuleDeclarations owner start) = takes_one a_module owner
    (λ owner b. provided (nat_le start (length (members_in b owner))) (Made Nothing (with_hoisted owner start b)))
