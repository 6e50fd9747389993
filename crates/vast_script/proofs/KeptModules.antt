-- What calls of modules keep.
use Rattle.std.specs.Prelude.{ℕ, nat_le, nat_eq, true, false, List, length, map, Option, Some, None, codes, string_bytes}
use Rattle.vast_literal.specs.declared.kind.ModulePortDirection.{ModulePortDirection}
use Rattle.vast_literal.specs.declared.kind.ModulePortDirection.TheVariants.{Input, Output, InOut}
use Rattle.vast_literal.specs.declared.kind.DataKind.{DataKind}
use Rattle.vast_literal.specs.declared.kind.DataKind.TheVariants.{Wire, Reg, Logic, User}
use Rattle.vast_core.specs.declared.ast.scope.Scope.TheVariants.{Module as ScopeModule}
use Rattle.vast_core.specs.declared.node.ParameterForm.TheVariants.{Plain as PlainForm, Int as IntForm, Defined as DefinedForm}
use Rattle.vast_core.specs.Scopes.{with_scope_parameter}
use Rattle.vast_core.specs.declared.node.Member.TheVariants.{Import as ImportEntry}
use Rattle.vast_core.specs.declared.node.FileItem.{FileItem}
use Rattle.vast_core.specs.declared.node.FileItem.TheVariants.{Include as IncludeEntry, Import as FileImportEntry, BlankLine as FileBlankEntry, Comment as FileCommentEntry}
use Rattle.vast_core.specs.Growth.{next_node, next_type, with_item, with_member, with_typedef, with_file_typedef, next_logic_ref, with_port, with_declaration}
use Rattle.vast_core.specs.Parameters.{with_parameter_port}
use Rattle.vast_core.specs.Hoisting.{with_hoisted}
use Rattle.xlsynth_vast.specs.Conditions.{is_free}
use Rattle.xlsynth_vast.specs.Declarations.{names_in, unless_taken}
use Rattle.xlsynth_vast.specs.Inspections.{members_in}
use Rattle.vast_script.specs.declared.answer.Answer.TheVariants.{VastDataType, LogicRef, ParameterRef, LocalparamRef, Nothing}
use Rattle.vast_steps.specs.declared.step.ModuleStep.{ModuleStep}
use Rattle.vast_steps.specs.declared.step.ModuleStep.TheVariants.{AddInclude, AddBlankLine, AddCommentText, AddModule, AddInput, AddOutput, AddInout, AddLogicInput, AddLogicOutput, AddWire, AddReg, AddLogic, AddParameterPort, AddTypedParameterPort, AddParameter, AddParameterWithDef, AddLocalparam, AddIntLocalparam, AddTypedLocalparam, HoistModuleDeclarations, AddImport, AddFileImport, AddEnumTypedef, AddStructTypedef, AddFileEnumTypedef, AddFileStructTypedef, AddVariable}
use Rattle.vast_script.specs.Outcome.{Made, provided, allowed}
use Rattle.vast_core.specs.declared.typedef.DeclaredType.TheVariants.{Enum as EnumType, Struct as StructType}
use Rattle.xlsynth_vast.specs.Instances.{connected}
use Rattle.vast_script.specs.Kinds.{a_module, a_type, an_expr, a_definition, a_blank_line}
use Rattle.vast_script.specs.Arguments.{one, two, three, many, one_and_many, one_and_open, two_and_open}
use Rattle.vast_script.proofs.KeptOutcomes.{CallKeeps, given-keeps, provided-keeps, allowed-keeps}
use Rattle.xlsynth_vast.proofs.KeptWords.{declaration-kept, file_typedef-kept, hoisted-kept, item-kept, member-kept, module-kept, parameter_port-kept, port-kept, scope_parameter-kept, typedef-kept}
use Rattle.vast_script.specs.Typedefs.{add_enum_typedef, add_struct_typedef, add_file_enum_typedef, add_file_struct_typedef}
use Rattle.vast_script.specs.Modules.{add_item, add_module, add_port, add_wire, add_variable, module_call}

add_item-keeps : (entry : FileItem) → CallKeeps (add_item entry)
add_item-keeps entry b answers = item-kept entry b

add_module-keeps : (name : List ℕ) → CallKeeps (add_module name)
add_module-keeps name b answers = module-kept name b

add_port-keeps : (direction : ModulePortDirection) (kind : DataKind) (owner : ℕ) (name : List ℕ) (type : ℕ) → CallKeeps (add_port direction kind owner name type)
add_port-keeps direction kind owner name type b answers = given-keeps b (two a_module a_type b answers owner type) (λ (owner, type). provided (is_free b owner name) (Made (LogicRef (next_logic_ref b)) (with_port owner direction kind name type b))) (λ (owner, type). provided-keeps b (is_free b owner name) (Made (LogicRef (next_logic_ref b)) (with_port owner direction kind name type b)) (port-kept owner direction kind name type b))

add_wire-keeps : (owner : ℕ) (name : List ℕ) (type : ℕ) → CallKeeps (add_wire owner name type)
add_wire-keeps owner name type b answers = given-keeps b (two a_module a_type b answers owner type) (λ (owner, type). provided (is_free b owner name) (Made (LogicRef (next_logic_ref b)) (with_declaration owner Wire name type b))) (λ (owner, type). provided-keeps b (is_free b owner name) (Made (LogicRef (next_logic_ref b)) (with_declaration owner Wire name type b)) (declaration-kept owner Wire name type b))

add_variable-keeps : (kind : DataKind) (word : List ℕ) (owner : ℕ) (name : List ℕ) (type : ℕ) → CallKeeps (add_variable kind word owner name type)
add_variable-keeps kind word owner name type b answers = given-keeps b (two a_module a_type b answers owner type) (λ (owner, type). allowed (unless_taken word name (names_in b owner)) (λ _. Made (LogicRef (next_logic_ref b)) (with_declaration owner kind name type b))) (λ (owner, type). allowed-keeps b (unless_taken word name (names_in b owner)) (λ _. Made (LogicRef (next_logic_ref b)) (with_declaration owner kind name type b)) (λ _. declaration-kept owner kind name type b))

add_enum_typedef-keeps : (owner : ℕ) (name : List ℕ) (type : ℕ) (names : List (List ℕ)) (values : List (Option ℕ)) → CallKeeps (add_enum_typedef owner name type names values)
add_enum_typedef-keeps owner name type names values b answers = given-keeps b (two_and_open a_module a_type an_expr b answers owner type values) (λ p. provided (nat_eq (length names) (length p.1)) (Made (VastDataType (next_type b)) (with_typedef p.0.0 (EnumType p.0.1 name (connected names p.1)) b))) (λ p. provided-keeps b (nat_eq (length names) (length p.1)) (Made (VastDataType (next_type b)) (with_typedef p.0.0 (EnumType p.0.1 name (connected names p.1)) b)) (typedef-kept p.0.0 (EnumType p.0.1 name (connected names p.1)) b))

add_file_enum_typedef-keeps : (name : List ℕ) (type : ℕ) (names : List (List ℕ)) (values : List (Option ℕ)) → CallKeeps (add_file_enum_typedef name type names values)
add_file_enum_typedef-keeps name type names values b answers = given-keeps b (one_and_open a_type an_expr b answers type values) (λ (type, values). provided (nat_eq (length names) (length values)) (Made (VastDataType (next_type b)) (with_file_typedef (EnumType type name (connected names values)) b))) (λ (type, values). provided-keeps b (nat_eq (length names) (length values)) (Made (VastDataType (next_type b)) (with_file_typedef (EnumType type name (connected names values)) b)) (file_typedef-kept (EnumType type name (connected names values)) b))

add_struct_typedef-keeps : (owner : ℕ) (name : List ℕ) (fields : List ℕ) → CallKeeps (add_struct_typedef owner name fields)
add_struct_typedef-keeps owner name fields b answers = given-keeps b (one_and_many a_module a_definition b answers owner fields) (λ (owner, fields). Made (VastDataType (next_type b)) (with_typedef owner (StructType name fields) b)) (λ (owner, fields). typedef-kept owner (StructType name fields) b)

add_file_struct_typedef-keeps : (name : List ℕ) (fields : List ℕ) → CallKeeps (add_file_struct_typedef name fields)
add_file_struct_typedef-keeps name fields b answers = given-keeps b (many a_definition b answers fields) (λ fields. Made (VastDataType (next_type b)) (with_file_typedef (StructType name fields) b)) (λ fields. file_typedef-kept (StructType name fields) b)

pub module-keeps : (step : ModuleStep) → CallKeeps (module_call step)
module-keeps (AddInclude path) = add_item-keeps (IncludeEntry (string_bytes path))
module-keeps (AddImport owner package_name) = λ b answers. given-keeps b (one a_module b answers owner) (λ owner. Made Nothing (with_member owner (ImportEntry (string_bytes package_name)) b)) (λ owner. member-kept owner (ImportEntry (string_bytes package_name)) b)
module-keeps (AddFileImport package_name) = add_item-keeps (FileImportEntry (string_bytes package_name))
module-keeps (AddEnumTypedef owner name type names values) = add_enum_typedef-keeps owner (string_bytes name) type (map string_bytes names.items) values.items
module-keeps (AddStructTypedef owner name fields) = add_struct_typedef-keeps owner (string_bytes name) fields.items
module-keeps (AddFileEnumTypedef name type names values) = add_file_enum_typedef-keeps (string_bytes name) type (map string_bytes names.items) values.items
module-keeps (AddFileStructTypedef name fields) = add_file_struct_typedef-keeps (string_bytes name) fields.items
module-keeps (AddBlankLine blank) = λ b answers. given-keeps b (one a_blank_line b answers blank) (λ blank. Made Nothing (with_item FileBlankEntry b)) (λ blank. item-kept FileBlankEntry b)
module-keeps (AddCommentText text) = add_item-keeps (FileCommentEntry (string_bytes text))
module-keeps (AddModule name) = add_module-keeps (string_bytes name)
module-keeps (AddInput owner name type) = add_port-keeps Input Wire owner (string_bytes name) type
module-keeps (AddOutput owner name type) = add_port-keeps Output Wire owner (string_bytes name) type
module-keeps (AddInout owner name type) = add_port-keeps InOut Wire owner (string_bytes name) type
module-keeps (AddLogicInput owner name type) = add_port-keeps Input Logic owner (string_bytes name) type
module-keeps (AddLogicOutput owner name type) = add_port-keeps Output Logic owner (string_bytes name) type
module-keeps (AddWire owner name type) = add_wire-keeps owner (string_bytes name) type
module-keeps (AddReg owner name type) = add_variable-keeps Reg (codes "reg") owner (string_bytes name) type
module-keeps (AddLogic owner name type) = add_variable-keeps Logic (codes "logic") owner (string_bytes name) type
module-keeps (AddVariable owner name type) = add_variable-keeps User (codes "variable") owner (string_bytes name) type
module-keeps (AddParameterPort owner name value) = λ b answers. given-keeps b (two a_module an_expr b answers owner value) (λ (owner, value). Made (LogicRef (next_logic_ref b)) (with_parameter_port owner (string_bytes name) None value b)) (λ (owner, value). parameter_port-kept owner (string_bytes name) None value b)
module-keeps (AddTypedParameterPort owner name type value) = λ b answers. given-keeps b (three a_module a_type an_expr b answers owner type value) (λ (owner, type, value). Made (LogicRef (next_logic_ref b)) (with_parameter_port owner (string_bytes name) (Some type) value b)) (λ (owner, type, value). parameter_port-kept owner (string_bytes name) (Some type) value b)
module-keeps (AddParameter owner name value) = λ b answers. given-keeps b (two a_module an_expr b answers owner value) (λ (owner, value). Made (ParameterRef (record { id = next_node b })) (with_scope_parameter (ScopeModule owner) false (PlainForm (string_bytes name)) value b)) (λ (owner, value). scope_parameter-kept (ScopeModule owner) false (PlainForm (string_bytes name)) value b)
module-keeps (AddParameterWithDef owner definition value) = λ b answers. given-keeps b (three a_module a_definition an_expr b answers owner definition value) (λ (owner, definition, value). Made (ParameterRef (record { id = next_node b })) (with_scope_parameter (ScopeModule owner) false (DefinedForm definition) value b)) (λ (owner, definition, value). scope_parameter-kept (ScopeModule owner) false (DefinedForm definition) value b)
module-keeps (AddLocalparam owner name value) = λ b answers. given-keeps b (two a_module an_expr b answers owner value) (λ (owner, value). Made (LocalparamRef (record { id = next_node b })) (with_scope_parameter (ScopeModule owner) true (PlainForm (string_bytes name)) value b)) (λ (owner, value). scope_parameter-kept (ScopeModule owner) true (PlainForm (string_bytes name)) value b)
module-keeps (AddIntLocalparam owner name value) = λ b answers. given-keeps b (two a_module an_expr b answers owner value) (λ (owner, value). Made (LocalparamRef (record { id = next_node b })) (with_scope_parameter (ScopeModule owner) true (IntForm (string_bytes name)) value b)) (λ (owner, value). scope_parameter-kept (ScopeModule owner) true (IntForm (string_bytes name)) value b)
module-keeps (AddTypedLocalparam owner definition value) = λ b answers. given-keeps b (three a_module a_definition an_expr b answers owner definition value) (λ (owner, definition, value). Made (LocalparamRef (record { id = next_node b })) (with_scope_parameter (ScopeModule owner) true (DefinedForm definition) value b)) (λ (owner, definition, value). scope_parameter-kept (ScopeModule owner) true (DefinedForm definition) value b)
module-keeps (HoistModuleDeclarations owner start) = λ b answers. given-keeps b (one a_module b answers owner) (λ owner. provided (nat_le start (length (members_in b owner))) (Made Nothing (with_hoisted owner start b))) (λ owner. provided-keeps b (nat_le start (length (members_in b owner))) (Made Nothing (with_hoisted owner start b)) (hoisted-kept owner start b))
