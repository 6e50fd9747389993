-- The pages of the members of modules and loops.
use Rattle.std.specs.Prelude.{ℕ, Bool, true, false, List, [], ◌∷◌, Option, Some, None, codes, cond, map, if◌then◌else◌}
use Rattle.vast_literal.specs.Tree.{ExprTree, MaybeExpr, NoExpr, SomeExpr, Exprs, NoExprs, MoreExprs, TypeTree, Declaration}
use Rattle.vast_literal.specs.declared.kind.VastFileType.{VastFileType as Dialect}
use Rattle.vast_literal.specs.Tree.{ConditionalTree, Statements}
use Rattle.vast_literal.specs.declared.kind.AssignmentForm.TheVariants.{Continuous}
use Rattle.vast_literal.specs.Tree.{ParameterName, PlainParameter, IntParameter, DefinedParameter, Connection, InstanceTree, FunctionTree, TypedefTree, EnumTree, StructTree}
use Rattle.vast_literal.specs.declared.kind.AlwaysKind.{AlwaysKind as AlwaysWord}
use Rattle.vast_literal.specs.declared.kind.AlwaysKind.TheVariants.{AlwaysFF as AlwaysFFWord, AlwaysAt as AlwaysAtWord, AlwaysComb as AlwaysCombWord, AlwaysStar as AlwaysStarWord, AlwaysLatch as AlwaysLatchWord, Initial as InitialWord}
use Rattle.vast_literal.specs.Tree.{MemberTree, DeclarationMember, AssignMember, ParameterMember, CommentMember, BlankMember, ImportMember, TypedefMember, InlineMember, MacroMember, InstanceMember, AlwaysMember, ConditionalMember, FunctionMember, LoopMember, Members, NoMembers, MoreMembers}
use Rattle.vast_literal.specs.Shape.{base_of, base_kind, result_kind, is_one_casez, has_events}
use Rattle.vast_print.specs.Printed.{Printed, plain_text, ◌⊕◌, spaced}
use Rattle.vast_print.specs.Text.{expr_text}
use Rattle.vast_print.specs.Declaration.{kind_word, type_text, name_text, declaration_text, declared_text, port_declaration_text}
use Rattle.vast_print.specs.Page.{Page, no_lines, line, inner, lead, above, beside, written, commented}
use Rattle.vast_print.specs.Statements.{assign_text, counting_text, statement_page, statements_page, block_page}

-- the entries of a list, each but the last with a comma; what an entry's text breaks into stands at the list's own depth
unfoldable pub entries_page : List Printed → Page
entries_page [] = no_lines
entries_page (p ∷ []) = lead (written p)
entries_page (p ∷ q ∷ ps) = above (lead (written (p ⊕ plain_text (codes ",")))) (entries_page (q ∷ ps))

abbrev pub parameter_word : Bool → List ℕ
parameter_word true = codes "localparam "
parameter_word false = codes "parameter "

abbrev pub parameter_text : Dialect → ParameterName → Printed
parameter_text dialect (PlainParameter name) = plain_text name
parameter_text dialect (IntParameter name) = plain_text (codes "int ") ⊕ plain_text name
parameter_text dialect (DefinedParameter d) = declared_text dialect d

abbrev pub semicolon_text : Bool → List ℕ
semicolon_text semicolon = if semicolon then codes ";" else []

-- an open port has nothing between its parentheses
abbrev pub value_text : MaybeExpr → Printed
value_text NoExpr = plain_text []
value_text (SomeExpr e) = expr_text e

unfoldable pub connection_text : Connection → Printed
connection_text c = plain_text (codes ".") ⊕ plain_text c.name ⊕ plain_text (codes "(") ⊕ value_text c.value ⊕ plain_text (codes ")")

-- without connections one empty line stands in their place
unfoldable pub connections_page : List Connection → Page
connections_page [] = line []
connections_page (c ∷ cs) = entries_page (map connection_text (c ∷ cs))

-- up to the list of connections; parameters stand before the instance's name
unfoldable pub instance_head_page : (module_name : List ℕ) → List Connection → (instance_name : List ℕ) → Page
instance_head_page name [] instance = written (plain_text name ⊕ plain_text (codes " ") ⊕ plain_text instance ⊕ plain_text (codes " ("))
instance_head_page name (c ∷ cs) instance =
    above (written (plain_text name ⊕ plain_text (codes " #(")))
    (above (entries_page (map connection_text (c ∷ cs))) (written (plain_text (codes ") ") ⊕ plain_text instance ⊕ plain_text (codes " ("))))

unfoldable pub instance_page : InstanceTree → Page
instance_page i =
    above (instance_head_page i.module_name i.parameters i.instance_name) (above (connections_page i.connections) (line (codes ");")))

-- joined by `or`
unfoldable pub more_events_text : Exprs → Printed
more_events_text NoExprs = plain_text []
more_events_text (MoreExprs e es) = plain_text (codes " or ") ⊕ expr_text e ⊕ more_events_text es

unfoldable pub events_text : Exprs → Printed
events_text NoExprs = plain_text []
events_text (MoreExprs e es) = expr_text e ⊕ more_events_text es

-- the words before the events, or before the block
unfoldable pub always_opening : AlwaysWord → List ℕ
always_opening AlwaysFFWord = codes "always_ff @ ("
always_opening AlwaysAtWord = codes "always @ ("
always_opening AlwaysCombWord = codes "always_comb "
always_opening AlwaysStarWord = codes "always @* "
always_opening AlwaysLatchWord = codes "always_latch "
always_opening InitialWord = codes "initial "

unfoldable pub always_text : AlwaysWord → Exprs → Printed
always_text word events = if has_events word then plain_text (always_opening word) ⊕ events_text events ⊕ plain_text (codes ") ") else plain_text (always_opening word)

unfoldable pub input_text : Dialect → Declaration → Printed
input_text dialect d = plain_text (codes "input ") ⊕ port_declaration_text dialect d

-- joined by a comma and a space
unfoldable pub more_inputs_text : Dialect → List Declaration → Printed
more_inputs_text dialect [] = plain_text []
more_inputs_text dialect (d ∷ ds) = plain_text (codes ", ") ⊕ input_text dialect d ⊕ more_inputs_text dialect ds

unfoldable pub inputs_text : Dialect → List Declaration → Printed
inputs_text dialect [] = plain_text []
inputs_text dialect (d ∷ ds) = input_text dialect d ⊕ more_inputs_text dialect ds

unfoldable pub local_page : Dialect → Declaration → Page
local_page dialect d = written (declared_text dialect d ⊕ plain_text (codes ";"))

unfoldable pub locals_page : Dialect → List Declaration → Page
locals_page dialect [] = no_lines
locals_page dialect (d ∷ ds) = above (local_page dialect d) (locals_page dialect ds)

-- a body that is one casez stands without begin and end
unfoldable pub function_body_page : Statements → Page
function_body_page b = cond (is_one_casez b) (statements_page b) (block_page b)

abbrev pub result_text : Dialect → TypeTree → List ℕ → Printed
result_text dialect t name = declaration_text dialect (result_kind dialect t) t name

unfoldable pub function_page : Dialect → FunctionTree → Page
function_page dialect f =
    above (written (plain_text (codes "function automatic ") ⊕ result_text dialect f.result f.name ⊕ plain_text (codes " (") ⊕ inputs_text dialect f.inputs ⊕ plain_text (codes ");")))
    (above (inner (above (locals_page dialect f.locals) (function_body_page f.body))) (line (codes "endfunction")))

abbrev pub loop_label_text : Option (List ℕ) → Printed
loop_label_text None = plain_text []
loop_label_text (Some label) = plain_text (codes " : ") ⊕ plain_text label

unfoldable pub loop_text : (genvar : List ℕ) (start end : ExprTree) → Option (List ℕ) → Printed
loop_text i start end label = plain_text (codes "for (genvar ") ⊕ counting_text i start end ⊕ plain_text (codes "begin") ⊕ loop_label_text label

-- import P::*;
unfoldable pub import_text : (package_name : List ℕ) → Printed
import_text package_name = plain_text (codes "import ") ⊕ plain_text package_name ⊕ plain_text (codes "::*;")

-- an entry of an enumeration, with its value where it has one
abbrev pub entry_value_text : MaybeExpr → Printed
entry_value_text NoExpr = plain_text []
entry_value_text (SomeExpr e) = plain_text (codes " = ") ⊕ expr_text e

unfoldable pub entry_text : Connection → Printed
entry_text c = plain_text c.name ⊕ entry_value_text c.value

-- what stands before the entries: a declaration of the type's kind, without the name
unfoldable pub enum_text : TypeTree → Printed
enum_text t = plain_text (codes "typedef enum ") ⊕ (spaced (plain_text (kind_word (base_kind (base_of t)))) ⊕ spaced (type_text t)) ⊕ plain_text (codes "{")

unfoldable pub typedef_page : Dialect → TypedefTree → Page
typedef_page dialect (EnumTree t name entries) =
    above (written (enum_text t)) (above (entries_page (map entry_text entries)) (written (plain_text (codes "} ") ⊕ name_text dialect t name ⊕ plain_text (codes ";"))))
typedef_page dialect (StructTree name fields) =
    above (line (codes "typedef struct packed {")) (above (inner (locals_page dialect fields)) (written (plain_text (codes "} ") ⊕ plain_text name ⊕ plain_text (codes ";"))))

unfoldable mutual
  pub member_page : Dialect → MemberTree → Page
  member_page dialect (DeclarationMember d) = written (declared_text dialect d ⊕ plain_text (codes ";"))
  member_page dialect (AssignMember l r) = written (assign_text Continuous (expr_text l) (expr_text r))
  member_page dialect (ParameterMember local parameter v) =
      written (plain_text (parameter_word local) ⊕ parameter_text dialect parameter ⊕ plain_text (codes " = ") ⊕ expr_text v ⊕ plain_text (codes ";"))
  member_page dialect (CommentMember text) = commented (written (plain_text text))
  member_page dialect BlankMember = line []
  member_page dialect (ImportMember package_name) = written (import_text package_name)
  member_page dialect (TypedefMember t) = typedef_page dialect t
  member_page dialect (InlineMember text) = written (plain_text text)
  member_page dialect (MacroMember call semicolon) = written (expr_text call ⊕ plain_text (semicolon_text semicolon))
  member_page dialect (InstanceMember i) = instance_page i
  member_page dialect (AlwaysMember word events b) = beside (written (always_text word events)) (block_page b)
  member_page dialect (ConditionalMember c b rest) = statement_page (ConditionalTree c b rest)
  member_page dialect (FunctionMember f) = function_page dialect f
  member_page dialect (LoopMember i start end label ms) =
      above (written (loop_text i start end label)) (above (inner (members_page dialect ms)) (line (codes "end")))

  pub members_page : Dialect → Members → Page
  members_page dialect NoMembers = no_lines
  members_page dialect (MoreMembers m ms) = above (member_page dialect m) (members_page dialect ms)
