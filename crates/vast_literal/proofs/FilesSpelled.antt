-- The tokens of a file's page spell its normal form.
use Rattle.std.proofs.Common.{◌≡◌, ℕ, List, [], ◌∷◌, ◌++◌, map, true, ◌&&◌, IsTrue, refl}
use Rattle.vast_literal.specs.Tokens.{Assign, EndModuleKey, ParameterKey, Reserved, Mark}
use Rattle.vast_literal.specs.Tree.{Dialect, MaybeType, Untyped, Typed, PortDirection, InputDirection, PortTree, ParameterPortTree, ModuleTree, FileItemTree, ModuleItem, IncludeItem, ImportItem, TypedefItem, CommentItem, BlankItem, FileTree}
use Rattle.vast_literal.specs.NormalFile.{ModulePart}
use Rattle.vast_literal.specs.FileGrammar.{IsMany, no_items, more_items, absent, no_type, IsDeclaration, declares, is_direction, IsParameter, header_parameter, IsPort, port, IsParameters, no_header_parameters, header_parameters, IsPorts, no_ports, ports, IsItem, module_item, include_item, import_item, typedef_item, IsFile, file}
use Rattle.vast_literal.specs.Plain.{is_plain_name, is_plain}
use Rattle.vast_literal.proofs.ExprTokens.{expr_tokens}
use Rattle.vast_literal.specs.WellFormed.{is_well_formed, is_well_formed_type}
use Rattle.vast_literal.specs.Shape.{base_of, base_kind}
use Rattle.vast_literal.specs.NormalTree.{direction_key, normal_port, normal_typed, normal_parameter, normal_module, normal_item_before, normal_items, normal_file}
use Rattle.vast_literal.proofs.FileTokens.{port_declaration_tokens, each_port, typed_tokens, each_parameter, header_parameter_tokens, header_port_tokens, module_tokens, item_tokens, items_tokens, file_tokens}
use Rattle.vast_literal.specs.PlainFile.{is_plain_declared, is_plain_typedef, are_plain_members, are_plain_ports, is_plain_typed, are_plain_parameters, is_plain_module, is_path_byte, are_plain_items, is_plain_file}
use Rattle.vast_literal.specs.WellFormedFile.{is_well_formed_typedef, are_well_formed_members, are_well_formed_ports, is_well_formed_typed, are_well_formed_parameters, is_well_formed_module, are_well_formed_items, is_well_formed_file}
use Rattle.vast_literal.proofs.ScanLaws.{and_left, and_right}
use Rattle.vast_literal.proofs.DeclarationSpelled.{value_spelled, port_declaration_spelled, named_spelled}
use Rattle.vast_literal.proofs.MembersSpelled.{Each, each_none, each_more, each_joined, typedef_spelled, members_spelled}
use Rattle.vast_literal.specs.LiteralToken.{every}

direction_spelled : (d : PortDirection) → IsTrue (is_direction (direction_key d))
unfolding direction_key is_direction
direction_spelled InputDirection = refl
direction_spelled _ = refl

port_spelled : (dialect : Dialect) (p : PortTree) → is_plain_declared p.declaration ≡ true → is_well_formed_type p.declaration.type ≡ true → IsPort (Reserved (direction_key p.direction) ∷ port_declaration_tokens dialect p.declaration) (normal_port dialect p)
unfolding normal_port
port_spelled dialect p h w = port (direction_key p.direction) (direction_spelled p.direction) (port_declaration_spelled dialect p.declaration h w)

each_port_spelled : (dialect : Dialect) (ps : List PortTree) → are_plain_ports ps ≡ true → are_well_formed_ports ps ≡ true → Each IsPort (each_port dialect ps) (map (normal_port dialect) ps)
unfolding each_port
each_port_spelled dialect [] h w = each_none
each_port_spelled dialect (p ∷ ps) h w = each_more (port_spelled dialect p (and_left _ _ h) (and_left _ _ w))
    (each_port_spelled dialect ps (and_right (is_plain_declared p.declaration) (are_plain_ports ps) h) (and_right (is_well_formed_type p.declaration.type) (are_well_formed_ports ps) w))

ports_spelled : (dialect : Dialect) (ps : List PortTree) → are_plain_ports ps ≡ true → are_well_formed_ports ps ≡ true → IsPorts (header_port_tokens dialect ps) (map (normal_port dialect) ps)
unfolding header_port_tokens each_port
ports_spelled dialect [] h w = no_ports
ports_spelled dialect (p ∷ ps) h w = ports (each_joined _ _ (port_spelled dialect p (and_left _ _ h) (and_left _ _ w))
    (each_port_spelled dialect ps (and_right (is_plain_declared p.declaration) (are_plain_ports ps) h) (and_right (is_well_formed_type p.declaration.type) (are_well_formed_ports ps) w)))

typed_spelled : (dialect : Dialect) (t : MaybeType) (n : List ℕ) → is_plain_typed t n ≡ true → is_well_formed_typed t ≡ true → IsDeclaration (typed_tokens dialect t n) (normal_typed dialect t n)
unfolding typed_tokens normal_typed
typed_spelled dialect Untyped n h w = declares n absent no_type absent no_items no_items
typed_spelled dialect (Typed t) n h w = named_spelled dialect t (base_kind (base_of t)) n h w

parameter_spelled : (dialect : Dialect) (p : ParameterPortTree) → (is_plain_typed p.type p.name && is_plain p.value) ≡ true → (is_well_formed_typed p.type && is_well_formed p.value) ≡ true →
    IsParameter (Reserved ParameterKey ∷ (typed_tokens dialect p.type p.name ++ (Mark Assign ∷ expr_tokens p.value))) (normal_parameter dialect p)
unfolding normal_parameter
parameter_spelled dialect p h w = header_parameter (typed_spelled dialect p.type p.name (and_left _ _ h) (and_left _ _ w))
    (value_spelled p.value (and_right (is_plain_typed p.type p.name) (is_plain p.value) h) (and_right (is_well_formed_typed p.type) (is_well_formed p.value) w))

each_parameter_spelled : (dialect : Dialect) (ps : List ParameterPortTree) → are_plain_parameters ps ≡ true → are_well_formed_parameters ps ≡ true → Each IsParameter (each_parameter dialect ps) (map (normal_parameter dialect) ps)
unfolding each_parameter
each_parameter_spelled dialect [] h w = each_none
each_parameter_spelled dialect (p ∷ ps) h w = each_more (parameter_spelled dialect p (and_left _ _ h) (and_left _ _ w))
    (each_parameter_spelled dialect ps (and_right (is_plain_typed p.type p.name && is_plain p.value) (are_plain_parameters ps) h) (and_right (is_well_formed_typed p.type && is_well_formed p.value) (are_well_formed_parameters ps) w))

parameters_spelled : (dialect : Dialect) (ps : List ParameterPortTree) → are_plain_parameters ps ≡ true → are_well_formed_parameters ps ≡ true → IsParameters (header_parameter_tokens dialect ps) (map (normal_parameter dialect) ps)
unfolding header_parameter_tokens each_parameter
parameters_spelled dialect [] h w = no_header_parameters
parameters_spelled dialect (p ∷ ps) h w = header_parameters (each_joined _ _ (parameter_spelled dialect p (and_left _ _ h) (and_left _ _ w))
    (each_parameter_spelled dialect ps (and_right (is_plain_typed p.type p.name && is_plain p.value) (are_plain_parameters ps) h) (and_right (is_well_formed_typed p.type && is_well_formed p.value) (are_well_formed_parameters ps) w)))

module_spelled : (dialect : Dialect) (m : ModuleTree) → is_plain_module m ≡ true → is_well_formed_module m ≡ true → IsItem (module_tokens dialect m) (ModulePart (normal_module dialect m))
unfolding module_tokens normal_module
module_spelled dialect m h w =
    let h1 = and_right (is_plain_name m.name) (are_plain_parameters m.parameters && (are_plain_ports m.ports && are_plain_members m.members)) h in
    let h2 = and_right (are_plain_parameters m.parameters) (are_plain_ports m.ports && are_plain_members m.members) h1 in
    let w2 = and_right (are_well_formed_parameters m.parameters) (are_well_formed_ports m.ports && are_well_formed_members m.members) w in
    module_item m.name (parameters_spelled dialect m.parameters (and_left _ _ h1) (and_left _ _ w)) (ports_spelled dialect m.ports (and_left _ _ h2) (and_left _ _ w2))
    (members_spelled dialect EndModuleKey m.members (and_right (are_plain_ports m.ports) (are_plain_members m.members) h2) (and_right (are_well_formed_ports m.ports) (are_well_formed_members m.members) w2))

items_spelled : (dialect : Dialect) (is : List FileItemTree) → are_plain_items is ≡ true → are_well_formed_items is ≡ true → IsMany IsItem (items_tokens dialect is) (normal_items dialect is)
unfolding items_tokens item_tokens normal_items normal_item_before
items_spelled dialect [] h w = no_items
items_spelled dialect (ModuleItem m ∷ is) h w = more_items (module_spelled dialect m (and_left _ _ h) (and_left _ _ w)) (items_spelled dialect is (and_right (is_plain_module m) (are_plain_items is) h) (and_right (is_well_formed_module m) (are_well_formed_items is) w))
items_spelled dialect (IncludeItem path ∷ is) h w = more_items (include_item path) (items_spelled dialect is (and_right (every is_path_byte path) (are_plain_items is) h) w)
items_spelled dialect (ImportItem package_name ∷ is) h w = more_items (import_item package_name) (items_spelled dialect is (and_right (is_plain_name package_name) (are_plain_items is) h) w)
items_spelled dialect (TypedefItem t ∷ is) h w = more_items (typedef_item (typedef_spelled dialect t (and_left _ _ h) (and_left _ _ w))) (items_spelled dialect is (and_right (is_plain_typedef t) (are_plain_items is) h) (and_right (is_well_formed_typedef t) (are_well_formed_items is) w))
items_spelled dialect (CommentItem text ∷ is) h w = items_spelled dialect is h w
items_spelled dialect (BlankItem ∷ is) h w = items_spelled dialect is h w

-- The tokens of a plain file's page spell its normal form.
pub file_spelled : (f : FileTree) → is_plain_file f ≡ true → is_well_formed_file f ≡ true → IsFile (file_tokens f) (normal_file f)
unfolding file_tokens normal_file
file_spelled f h w = file (items_spelled f.dialect f.items h w)
