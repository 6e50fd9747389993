-- The tokens that the printed page of a file has.
use Rattle.std.specs.Prelude.{ℕ, ℤ, pos, ◌-ℤ◌, Bool, true, false, List, [], ◌∷◌, ◌++◌, codes, Option, Some, None, cond, if◌then◌else◌}
use Rattle.std.specs.Fmt.{signed_decimal}
use Rattle.vast_literal.specs.Tokens.{Less, LessEqual, Minus, Key, IfKey, ElseKey, EndCaseKey, DefaultKey, UniqueKey, BeginKey, EndKey, AssignKey, IntKey, GenvarKey, ModuleKey, EndModuleKey, ParameterKey, OrKey, FunctionKey, AutomaticKey, EndFunctionKey, InputKey, TypedefKey, EnumKey, StructKey, PackedKey}
use Rattle.vast_literal.specs.Tokens.{OpenParen, CloseParen, OpenBracket, CloseBracket, OpenBrace, CloseBrace, Comma, Colon, Semicolon, Dot, Hash, DoubleColon, Assign, Token, Reserved, Word, MacroWord, Number, Quoted, Operator, Mark}
use Rattle.vast_literal.specs.Tree.{Dialect, VerilogDialect, SystemVerilogDialect, ExprTree, Exprs, NoExprs, MoreExprs, MaybeExpr, NoExpr, SomeExpr, MaybeType, Untyped, Typed}
use Rattle.vast_literal.specs.Tree.{LtOp, TypeTree, VectorTree, ExternalTree, PackageTree, Kind, Declaration}
use Rattle.vast_literal.specs.Tree.{AssignForm, Blocking, Nonblocking, Continuous, CaseWord, StatementTree, AssignTree, TaskTree, CommentTree, BlankTree, InlineTree, ConditionalTree, CaseTree, ForTree, Statements, NoStatements, MoreStatements, Alternates, NoElse, ElseIf, Else, CaseArms, NoCaseArms, CaseArm}
use Rattle.vast_literal.specs.Tree.{AlwaysWord, ParameterName, PlainParameter, IntParameter, DefinedParameter, Connection, InstanceTree, FunctionTree, TypedefTree, EnumTree, StructTree}
use Rattle.vast_literal.specs.Tree.{MemberTree, DeclarationMember, AssignMember, ParameterMember, CommentMember, BlankMember, InlineMember, ImportMember, TypedefMember, MacroMember, InstanceMember, AlwaysMember, ConditionalMember, FunctionMember, LoopMember, Members, NoMembers, MoreMembers}
use Rattle.vast_literal.specs.Tree.{PortTree, ParameterPortTree, ModuleTree, FileItemTree, ModuleItem, IncludeItem, ImportItem, TypedefItem, CommentItem, BlankItem, FileTree}
use Rattle.vast_literal.proofs.LiteralToken.{literal_tokens}
use Rattle.vast_literal.specs.Shape.{right_child_wraps, highest_index_wraps, literal_value, base_of, packed_dimensions, unpacked_dimensions, port_kind, base_kind, result_kind, is_bare_arm, name_alone, is_one_casez, always_words, has_events, import_words, loop_words}
use Rattle.vast_literal.proofs.ExprTokens.{called_token, wrapped_tokens, expr_tokens}
use Rattle.vast_literal.specs.NormalTree.{kind_key, sign_of, case_key, parameter_key, direction_key}

-- Declarations.

abbrev pub maybe_tokens : Option Key → List Token
maybe_tokens None = []
maybe_tokens (Some key) = Reserved key ∷ []

unfoldable pub type_name_tokens : (base : TypeTree) → List Token
type_name_tokens (ExternalTree name) = Word name ∷ []
type_name_tokens (PackageTree package_name name) = Word package_name ∷ (Mark DoubleColon ∷ (Word name ∷ []))
type_name_tokens _ = []

abbrev pub number_tokens : ℤ → List Token
number_tokens number = literal_tokens (signed_decimal number)

abbrev pub zero_tokens : List Token
zero_tokens = Number (codes "0") ∷ []

-- [ x ] and [ h : l ]
abbrev pub one_tokens : List Token → List Token
one_tokens xs = Mark OpenBracket ∷ (xs ++ (Mark CloseBracket ∷ []))

abbrev pub range_tokens : (high low : List Token) → List Token
range_tokens hs ls = Mark OpenBracket ∷ (hs ++ (Mark Colon ∷ (ls ++ (Mark CloseBracket ∷ []))))

-- A width in parentheses where it binds less tightly than a minus.
unfoldable pub highest_index_tokens : ExprTree → Option ℤ → List Token
highest_index_tokens width (Some value) = number_tokens (value -ℤ pos 1)
highest_index_tokens width None = wrapped_tokens (highest_index_wraps width) (expr_tokens width) ++ (Operator Minus ∷ (Number (codes "1") ∷ []))

unfoldable pub vector_tokens : (base : TypeTree) → List Token
vector_tokens (VectorTree width value signed) = range_tokens (highest_index_tokens width value) zero_tokens
vector_tokens _ = []

unfoldable pub packed_tokens : Exprs → List Token
packed_tokens NoExprs = []
packed_tokens (MoreExprs d ds) = range_tokens (highest_index_tokens d (literal_value d)) zero_tokens ++ packed_tokens ds

unfoldable pub unpacked_dimension_tokens : Dialect → ExprTree → List Token
unpacked_dimension_tokens SystemVerilogDialect d = one_tokens (expr_tokens d)
unpacked_dimension_tokens VerilogDialect d = range_tokens zero_tokens (highest_index_tokens d (literal_value d))

unfoldable pub unpacked_tokens : Dialect → Exprs → List Token
unpacked_tokens dialect NoExprs = []
unpacked_tokens dialect (MoreExprs d ds) = unpacked_dimension_tokens dialect d ++ unpacked_tokens dialect ds

unfoldable pub declaration_tokens : Dialect → Kind → TypeTree → (name : List ℕ) → List Token
declaration_tokens dialect kind type name =
    maybe_tokens (kind_key kind) ++ (type_name_tokens (base_of type) ++ (maybe_tokens (sign_of (base_of type)) ++
    ((packed_tokens (packed_dimensions type) ++ vector_tokens (base_of type)) ++ (Word name ∷ unpacked_tokens dialect (unpacked_dimensions type)))))

unfoldable pub declared_tokens : Dialect → Declaration → List Token
declared_tokens dialect d = declaration_tokens dialect d.kind d.type d.name

unfoldable pub port_declaration_tokens : Dialect → Declaration → List Token
port_declaration_tokens dialect d = declaration_tokens dialect (port_kind d.kind d.type) d.type d.name

-- Statements.

unfoldable pub assignment_tokens : AssignForm → (left right : List Token) → List Token
assignment_tokens Blocking ls rs = ls ++ (Mark Assign ∷ (rs ++ (Mark Semicolon ∷ [])))
assignment_tokens Nonblocking ls rs = ls ++ (Operator LessEqual ∷ (rs ++ (Mark Semicolon ∷ [])))
assignment_tokens Continuous ls rs = Reserved AssignKey ∷ (ls ++ (Mark Assign ∷ (rs ++ (Mark Semicolon ∷ []))))

-- A call as a statement.
unfoldable pub called_tokens : (alone : Option (List ℕ)) → List Token → List Token
called_tokens None ts = ts
called_tokens (Some name) ts = called_token name ∷ []

-- Statements and `end`, and a block of them.
abbrev pub ended : List Token → List Token
ended ts = ts ++ (Reserved EndKey ∷ [])

abbrev pub block_tokens : List Token → List Token
block_tokens ts = Reserved BeginKey ∷ ended ts

abbrev pub unique_tokens : Bool → List Token
unique_tokens true = Reserved UniqueKey ∷ []
unique_tokens false = []

unfoldable pub label_tokens : MaybeExpr → List Token
label_tokens NoExpr = Reserved DefaultKey ∷ []
label_tokens (SomeExpr label) = expr_tokens label

-- The condition of a loop: its end is the right operand of `<`.
abbrev pub test_tokens : (i : List ℕ) (end : ExprTree) → List Token
test_tokens i end = Word i ∷ (Operator Less ∷ wrapped_tokens (right_child_wraps LtOp end) (expr_tokens end))

unfoldable mutual
  pub statement_tokens : StatementTree → List Token
  statement_tokens (AssignTree form left right) = assignment_tokens form (expr_tokens left) (expr_tokens right)
  statement_tokens (TaskTree call) = called_tokens (name_alone call) (expr_tokens call) ++ (Mark Semicolon ∷ [])
  statement_tokens (CommentTree text) = []
  statement_tokens BlankTree = []
  statement_tokens (InlineTree text) = []
  statement_tokens (ConditionalTree condition consequent alternates) =
      Reserved IfKey ∷ (Mark OpenParen ∷ (expr_tokens condition ++ (Mark CloseParen ∷ (Reserved BeginKey ∷ (ended (statements_tokens consequent) ++ alternates_tokens alternates)))))
  statement_tokens (CaseTree unique word selector arms) =
      unique_tokens unique ++ (Reserved (case_key word) ∷ (Mark OpenParen ∷ (expr_tokens selector ++ (Mark CloseParen ∷ arms_tokens word arms))))
  statement_tokens (ForTree index start end body) = loop_words IntKey index (expr_tokens start) (test_tokens index end) (ended (statements_tokens body))

  pub statements_tokens : Statements → List Token
  statements_tokens NoStatements = []
  statements_tokens (MoreStatements statement statements) = statement_tokens statement ++ statements_tokens statements

  pub alternates_tokens : Alternates → List Token
  alternates_tokens NoElse = []
  alternates_tokens (ElseIf condition block alternates) =
      Reserved ElseKey ∷ (Reserved IfKey ∷ (Mark OpenParen ∷ (expr_tokens condition ++ (Mark CloseParen ∷ (Reserved BeginKey ∷ (ended (statements_tokens block) ++ alternates_tokens alternates))))))
  alternates_tokens (Else block) = Reserved ElseKey ∷ (Reserved BeginKey ∷ ended (statements_tokens block))

  -- The arms and `endcase`.
  pub arms_tokens : CaseWord → CaseArms → List Token
  arms_tokens word NoCaseArms = Reserved EndCaseKey ∷ []
  arms_tokens word (CaseArm label block arms) =
      label_tokens label ++ (Mark Colon ∷ (cond (is_bare_arm word block) (statements_tokens block) (block_tokens (statements_tokens block)) ++ arms_tokens word arms))

-- Members.

-- Items with a comma between each two.
unfoldable pub separated : List (List Token) → List Token
separated [] = []
separated (item ∷ []) = item
separated (item ∷ next ∷ items) = item ++ (Mark Comma ∷ separated (next ∷ items))

unfoldable pub parameter_name_tokens : Dialect → ParameterName → List Token
parameter_name_tokens dialect (PlainParameter name) = Word name ∷ []
parameter_name_tokens dialect (IntParameter name) = Reserved IntKey ∷ (Word name ∷ [])
parameter_name_tokens dialect (DefinedParameter d) = declared_tokens dialect d

abbrev pub semicolon_tokens : Bool → List Token
semicolon_tokens true = Mark Semicolon ∷ []
semicolon_tokens false = []

unfoldable pub value_tokens : MaybeExpr → List Token
value_tokens NoExpr = []
value_tokens (SomeExpr value) = expr_tokens value

unfoldable pub connection_tokens : Connection → List Token
connection_tokens c = Mark Dot ∷ (Word c.name ∷ (Mark OpenParen ∷ (value_tokens c.value ++ (Mark CloseParen ∷ []))))

unfoldable pub each_connection : List Connection → List (List Token)
each_connection [] = []
each_connection (c ∷ cs) = connection_tokens c ∷ each_connection cs

-- The parameters of an instance, where there are some.
unfoldable pub given_tokens : List Connection → List Token
given_tokens [] = []
given_tokens (c ∷ cs) = Mark Hash ∷ (Mark OpenParen ∷ (separated (each_connection (c ∷ cs)) ++ (Mark CloseParen ∷ [])))

unfoldable pub instance_tokens : InstanceTree → List Token
instance_tokens i =
    Word i.module_name ∷ (given_tokens i.parameters ++ (Word i.instance_name ∷ (Mark OpenParen ∷ (separated (each_connection i.connections) ++ (Mark CloseParen ∷ (Mark Semicolon ∷ []))))))

-- Events with `or` between each two.
unfoldable pub more_event_tokens : Exprs → List Token
more_event_tokens NoExprs = []
more_event_tokens (MoreExprs event events) = Reserved OrKey ∷ (expr_tokens event ++ more_event_tokens events)

unfoldable pub event_tokens : Exprs → List Token
event_tokens NoExprs = []
event_tokens (MoreExprs event events) = expr_tokens event ++ more_event_tokens events

unfoldable pub always_tokens : AlwaysWord → Exprs → List Token → List Token
always_tokens word events body = always_words word ++ (if has_events word then event_tokens events ++ (Mark CloseParen ∷ body) else body)

unfoldable pub each_input : Dialect → List Declaration → List (List Token)
each_input dialect [] = []
each_input dialect (d ∷ ds) = (Reserved InputKey ∷ port_declaration_tokens dialect d) ∷ each_input dialect ds

unfoldable pub local_tokens : Dialect → List Declaration → List Token
local_tokens dialect [] = []
local_tokens dialect (d ∷ ds) = (declared_tokens dialect d ++ (Mark Semicolon ∷ [])) ++ local_tokens dialect ds

-- A body that is one casez stands without `begin` and `end`.
unfoldable pub body_tokens : Statements → List Token
body_tokens body = cond (is_one_casez body) (statements_tokens body) (block_tokens (statements_tokens body))

unfoldable pub function_tokens : Dialect → FunctionTree → List Token
function_tokens dialect f =
    Reserved FunctionKey ∷ (Reserved AutomaticKey ∷ (declaration_tokens dialect (result_kind dialect f.result) f.result f.name ++ (Mark OpenParen ∷ (separated (each_input dialect f.inputs) ++
    (Mark CloseParen ∷ (Mark Semicolon ∷ (local_tokens dialect f.locals ++ (body_tokens f.body ++ (Reserved EndFunctionKey ∷ [])))))))))

unfoldable pub loop_label_tokens : Option (List ℕ) → List Token
loop_label_tokens None = []
loop_label_tokens (Some label) = Mark Colon ∷ (Word label ∷ [])

unfoldable pub entry_value_tokens : MaybeExpr → List Token
entry_value_tokens NoExpr = []
entry_value_tokens (SomeExpr value) = Mark Assign ∷ expr_tokens value

unfoldable pub each_entry : List Connection → List (List Token)
each_entry [] = []
each_entry (c ∷ cs) = (Word c.name ∷ entry_value_tokens c.value) ∷ each_entry cs

-- Before the entries stands a declaration without its name.
unfoldable pub typedef_tokens : Dialect → TypedefTree → List Token
typedef_tokens dialect (EnumTree type name entries) =
    Reserved TypedefKey ∷ (Reserved EnumKey ∷ (maybe_tokens (kind_key (base_kind (base_of type))) ++ (type_name_tokens (base_of type) ++ (maybe_tokens (sign_of (base_of type)) ++
    ((packed_tokens (packed_dimensions type) ++ vector_tokens (base_of type)) ++ (Mark OpenBrace ∷ (separated (each_entry entries) ++
    (Mark CloseBrace ∷ (Word name ∷ (unpacked_tokens dialect (unpacked_dimensions type) ++ (Mark Semicolon ∷ [])))))))))))
typedef_tokens dialect (StructTree name fields) =
    Reserved TypedefKey ∷ (Reserved StructKey ∷ (Reserved PackedKey ∷ (Mark OpenBrace ∷ (local_tokens dialect fields ++ (Mark CloseBrace ∷ (Word name ∷ (Mark Semicolon ∷ [])))))))

unfoldable mutual
  pub member_tokens : Dialect → MemberTree → List Token
  member_tokens dialect (DeclarationMember d) = declared_tokens dialect d ++ (Mark Semicolon ∷ [])
  member_tokens dialect (AssignMember left right) = assignment_tokens Continuous (expr_tokens left) (expr_tokens right)
  member_tokens dialect (ParameterMember local parameter value) = Reserved (parameter_key local) ∷ (parameter_name_tokens dialect parameter ++ (Mark Assign ∷ (expr_tokens value ++ (Mark Semicolon ∷ []))))
  member_tokens dialect (CommentMember text) = []
  member_tokens dialect BlankMember = []
  member_tokens dialect (InlineMember text) = []
  member_tokens dialect (ImportMember package_name) = import_words package_name
  member_tokens dialect (TypedefMember t) = typedef_tokens dialect t
  member_tokens dialect (MacroMember call semicolon) = expr_tokens call ++ semicolon_tokens semicolon
  member_tokens dialect (InstanceMember i) = instance_tokens i
  member_tokens dialect (AlwaysMember word events body) = always_tokens word events (block_tokens (statements_tokens body))
  member_tokens dialect (ConditionalMember condition consequent alternates) =
      Reserved IfKey ∷ (Mark OpenParen ∷ (expr_tokens condition ++ (Mark CloseParen ∷ (Reserved BeginKey ∷ (ended (statements_tokens consequent) ++ alternates_tokens alternates)))))
  member_tokens dialect (FunctionMember f) = function_tokens dialect f
  member_tokens dialect (LoopMember genvar start end label members) =
      loop_words GenvarKey genvar (expr_tokens start) (test_tokens genvar end) (loop_label_tokens label ++ ended (members_tokens dialect members))

  pub members_tokens : Dialect → Members → List Token
  members_tokens dialect NoMembers = []
  members_tokens dialect (MoreMembers member members) = member_tokens dialect member ++ members_tokens dialect members

-- Modules and files.

unfoldable pub each_port : Dialect → List PortTree → List (List Token)
each_port dialect [] = []
each_port dialect (p ∷ ps) = (Reserved (direction_key p.direction) ∷ port_declaration_tokens dialect p.declaration) ∷ each_port dialect ps

unfoldable pub typed_tokens : Dialect → MaybeType → (name : List ℕ) → List Token
typed_tokens dialect Untyped name = Word name ∷ []
typed_tokens dialect (Typed type) name = declaration_tokens dialect (base_kind (base_of type)) type name

unfoldable pub each_parameter : Dialect → List ParameterPortTree → List (List Token)
each_parameter dialect [] = []
each_parameter dialect (p ∷ ps) = (Reserved ParameterKey ∷ (typed_tokens dialect p.type p.name ++ (Mark Assign ∷ expr_tokens p.value))) ∷ each_parameter dialect ps

-- The lists of a header, where they are not empty.
unfoldable pub header_parameter_tokens : Dialect → List ParameterPortTree → List Token
header_parameter_tokens dialect [] = []
header_parameter_tokens dialect (p ∷ ps) = Mark Hash ∷ (Mark OpenParen ∷ (separated (each_parameter dialect (p ∷ ps)) ++ (Mark CloseParen ∷ [])))

unfoldable pub header_port_tokens : Dialect → List PortTree → List Token
header_port_tokens dialect [] = []
header_port_tokens dialect (p ∷ ps) = Mark OpenParen ∷ (separated (each_port dialect (p ∷ ps)) ++ (Mark CloseParen ∷ []))

unfoldable pub module_tokens : Dialect → ModuleTree → List Token
module_tokens dialect m =
    Reserved ModuleKey ∷ (Word m.name ∷ (header_parameter_tokens dialect m.parameters ++ (header_port_tokens dialect m.ports ++ (Mark Semicolon ∷ (members_tokens dialect m.members ++ (Reserved EndModuleKey ∷ []))))))

unfoldable pub item_tokens : Dialect → FileItemTree → List Token
item_tokens dialect (ModuleItem m) = module_tokens dialect m
item_tokens dialect (IncludeItem path) = MacroWord (codes "include") ∷ (Quoted (34 ∷ (path ++ (34 ∷ []))) ∷ [])
item_tokens dialect (ImportItem package_name) = import_words package_name
item_tokens dialect (TypedefItem t) = typedef_tokens dialect t
item_tokens dialect (CommentItem text) = []
item_tokens dialect BlankItem = []

unfoldable pub items_tokens : Dialect → List FileItemTree → List Token
items_tokens dialect [] = []
items_tokens dialect (item ∷ items) = item_tokens dialect item ++ items_tokens dialect items

-- The tokens of a file's page.
unfoldable pub file_tokens : FileTree → List Token
file_tokens f = items_tokens f.dialect f.items
