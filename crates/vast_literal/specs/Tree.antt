-- Syntax trees: what a file of Verilog or SystemVerilog is made of, without node numbers.
-- A text is the list of its bytes. antt has no nested data, so lists and options of trees are types of their own.
use Rattle.std.specs.Prelude.{ℕ, ℤ, Bool, List, Option}
-- The words of declarations, blocks and files, and the operators, are the code's own enums.
pub use Rattle.vast_literal.specs.declared.kind.VastFileType.{VastFileType as Dialect}
pub use Rattle.vast_literal.specs.declared.kind.VastFileType.TheVariants.{Verilog as VerilogDialect, SystemVerilog as SystemVerilogDialect}
pub use Rattle.vast_literal.specs.declared.operator.UnaryOperator.{UnaryOperator as UnaryOp}
pub use Rattle.vast_literal.specs.declared.operator.UnaryOperator.TheVariants.{Negate as NegateOp, BitwiseNot as BitwiseNotOp, LogicalNot as LogicalNotOp, AndReduce as AndReduceOp, OrReduce as OrReduceOp, XorReduce as XorReduceOp}
pub use Rattle.vast_literal.specs.declared.operator.BinaryOperator.{BinaryOperator as BinaryOp}
pub use Rattle.vast_literal.specs.declared.operator.BinaryOperator.TheVariants.{Add as AddOp, Sub as SubOp, Mul as MulOp, Div as DivOp, Mod as ModOp, Power as PowerOp, BitwiseAnd as BitwiseAndOp, BitwiseOr as BitwiseOrOp, BitwiseXor as BitwiseXorOp, Shll as ShllOp, Shra as ShraOp, Shrl as ShrlOp, Ne as NeOp, CaseNe as CaseNeOp, Eq as EqOp, CaseEq as CaseEqOp, Ge as GeOp, Gt as GtOp, Le as LeOp, Lt as LtOp, LogicalAnd as LogicalAndOp, LogicalOr as LogicalOrOp, NeX as NeXOp, EqX as EqXOp}
pub use Rattle.vast_literal.specs.declared.kind.DataKind.{DataKind as Kind}
pub use Rattle.vast_literal.specs.declared.kind.DataKind.TheVariants.{Reg as RegKind, Wire as WireKind, Logic as LogicKind, Integer as IntegerKind, Int as IntKind, User as UserKind, UntypedEnum as UntypedEnumKind, Genvar as GenvarKind}
pub use Rattle.vast_literal.specs.declared.kind.AssignmentForm.{AssignmentForm as AssignForm}
pub use Rattle.vast_literal.specs.declared.kind.AssignmentForm.TheVariants.{Blocking, Nonblocking, Continuous}
pub use Rattle.vast_literal.specs.declared.kind.CaseKind.{CaseKind as CaseWord}
pub use Rattle.vast_literal.specs.declared.kind.CaseKind.TheVariants.{Case as CaseExact, CaseZ, CaseX}
pub use Rattle.vast_literal.specs.declared.kind.AlwaysKind.{AlwaysKind as AlwaysWord}
pub use Rattle.vast_literal.specs.declared.kind.AlwaysKind.TheVariants.{AlwaysFF as AlwaysFFWord, AlwaysAt as AlwaysAtWord, AlwaysComb as AlwaysCombWord, AlwaysStar as AlwaysStarWord, AlwaysLatch as AlwaysLatchWord, Initial as InitialWord}
pub use Rattle.vast_literal.specs.declared.kind.ModulePortDirection.{ModulePortDirection as PortDirection}
pub use Rattle.vast_literal.specs.declared.kind.ModulePortDirection.TheVariants.{Input as InputDirection, Output as OutputDirection, InOut as InOutDirection}

-- Expressions and types. A literal's text may begin with a minus; a string's text has its quotes.
mutual
  pub data ExprTree : Type 0 where
    NameTree : (name : List ℕ) (type : MaybeType) → ExprTree
    LiteralTree : (text : List ℕ) (value : Option ℤ) → ExprTree
    StringTree : (text : List ℕ) → ExprTree
    UnaryTree : UnaryOp → (operand : ExprTree) → ExprTree
    BinaryTree : BinaryOp → (left right : ExprTree) → ExprTree
    TernaryTree : (condition consequent alternate : ExprTree) → ExprTree
    IndexTree : (subject index : ExprTree) → ExprTree
    SliceTree : (subject high low : ExprTree) → ExprTree
    PartSelectTree : (subject start : ExprTree) (width : ℤ) → ExprTree
    -- A member of a value of a named type.
    MemberOfTree : (subject : ExprTree) (name : List ℕ) → ExprTree
    ConcatTree : (count : MaybeExpr) (parts : Exprs) → ExprTree
    PatternTree : (parts : Exprs) → ExprTree
    WidthCastTree : (width operand : ExprTree) → ExprTree
    TypeCastTree : (type : TypeTree) (operand : ExprTree) → ExprTree
    PosEdgeTree NegEdgeTree : (operand : ExprTree) → ExprTree
    MacroTree : (name : List ℕ) (arguments : MaybeExprs) → ExprTree
    CallTree : (name : List ℕ) (arguments : Exprs) → ExprTree
    -- What a handle that belongs to no expression stands for.
    MissingExpr : ExprTree

  pub data TypeTree : Type 0 where
    ScalarTree IntegerTree IntTree : (signed : Bool) → TypeTree
    VectorTree : (width : ExprTree) (value : Option ℤ) (signed : Bool) → TypeTree
    ExternalTree : (name : List ℕ) → TypeTree
    PackageTree : (package_name name : List ℕ) → TypeTree
    -- The size of each dimension, from the outermost; a number is its plain literal.
    PackedTree UnpackedTree : (element : TypeTree) (dimensions : Exprs) → TypeTree
    -- What a handle that belongs to no type stands for.
    MissingType : TypeTree

  pub data MaybeType : Type 0 where
    Untyped : MaybeType
    Typed : TypeTree → MaybeType

  pub data MaybeExpr : Type 0 where
    NoExpr : MaybeExpr
    SomeExpr : ExprTree → MaybeExpr

  pub data Exprs : Type 0 where
    NoExprs : Exprs
    MoreExprs : ExprTree → Exprs → Exprs

  pub data MaybeExprs : Type 0 where
    NoArguments : MaybeExprs
    SomeArguments : Exprs → MaybeExprs

-- A name with its kind and its type.
pub record Declaration : Type 0 where
  pub kind : Kind
  pub type : TypeTree
  pub name : List ℕ

-- Statements of a procedural block.
mutual
  pub data StatementTree : Type 0 where
    AssignTree : (form : AssignForm) (left right : ExprTree) → StatementTree
    -- A call as a statement.
    TaskTree : (call : ExprTree) → StatementTree
    CommentTree InlineTree : (text : List ℕ) → StatementTree
    BlankTree : StatementTree
    ConditionalTree : (condition : ExprTree) (consequent : Statements) (alternates : Alternates) → StatementTree
    CaseTree : (unique : Bool) (word : CaseWord) (selector : ExprTree) (arms : CaseArms) → StatementTree
    -- A loop: its index runs from a start on while it is below an end.
    ForTree : (index : List ℕ) (start end : ExprTree) (body : Statements) → StatementTree

  pub data Statements : Type 0 where
    NoStatements : Statements
    MoreStatements : StatementTree → Statements → Statements

  -- The arms `else if` of a conditional, and its `else` where there is one.
  pub data Alternates : Type 0 where
    NoElse : Alternates
    ElseIf : (condition : ExprTree) (block : Statements) → Alternates → Alternates
    Else : (block : Statements) → Alternates

  -- The arms of a case statement; one without a label is a default.
  pub data CaseArms : Type 0 where
    NoCaseArms : CaseArms
    CaseArm : (label : MaybeExpr) (block : Statements) → CaseArms → CaseArms

-- What a parameter declares: a name, a name of type int, or a definition's declaration.
pub data ParameterName : Type 0 where
  PlainParameter IntParameter : (name : List ℕ) → ParameterName
  DefinedParameter : Declaration → ParameterName

-- What an instantiation gives to a parameter or to a port, by name; an open port has no expression. An entry of an enumeration, whose
-- value is counted where it has no expression.
pub record Connection : Type 0 where
  pub name : List ℕ
  pub value : MaybeExpr

pub record InstanceTree : Type 0 where
  pub module_name : List ℕ
  pub instance_name : List ℕ
  pub parameters : List Connection
  pub connections : List Connection

pub record FunctionTree : Type 0 where
  pub name : List ℕ
  pub result : TypeTree
  pub inputs : List Declaration
  pub locals : List Declaration
  pub body : Statements

-- A type that is declared by name: an enumeration over a type, or a packed structure.
pub data TypedefTree : Type 0 where
  EnumTree : (type : TypeTree) (name : List ℕ) (entries : List Connection) → TypedefTree
  StructTree : (name : List ℕ) (fields : List Declaration) → TypedefTree

-- Members of a module or of a generate loop.
mutual
  pub data MemberTree : Type 0 where
    DeclarationMember : Declaration → MemberTree
    AssignMember : (left right : ExprTree) → MemberTree
    ParameterMember : (local : Bool) (parameter : ParameterName) (value : ExprTree) → MemberTree
    CommentMember InlineMember : (text : List ℕ) → MemberTree
    BlankMember : MemberTree
    -- All that a package declares.
    ImportMember : (package_name : List ℕ) → MemberTree
    TypedefMember : TypedefTree → MemberTree
    MacroMember : (call : ExprTree) (semicolon : Bool) → MemberTree
    InstanceMember : InstanceTree → MemberTree
    AlwaysMember : AlwaysWord → (events : Exprs) (body : Statements) → MemberTree
    ConditionalMember : (condition : ExprTree) (consequent : Statements) (alternates : Alternates) → MemberTree
    FunctionMember : FunctionTree → MemberTree
    LoopMember : (genvar : List ℕ) (start end : ExprTree) (label : Option (List ℕ)) (members : Members) → MemberTree

  pub data Members : Type 0 where
    NoMembers : Members
    MoreMembers : MemberTree → Members → Members

pub record PortTree : Type 0 where
  pub direction : PortDirection
  pub declaration : Declaration

-- A parameter of a module's header; its kind follows its type where it has one.
pub record ParameterPortTree : Type 0 where
  pub name : List ℕ
  pub type : MaybeType
  pub value : ExprTree

-- A module: its name, the parameters and ports of its header, and its members.
pub record ModuleTree : Type 0 where
  pub name : List ℕ
  pub parameters : List ParameterPortTree
  pub ports : List PortTree
  pub members : Members

pub data FileItemTree : Type 0 where
  ModuleItem : ModuleTree → FileItemTree
  IncludeItem : (path : List ℕ) → FileItemTree
  ImportItem : (package_name : List ℕ) → FileItemTree
  TypedefItem : TypedefTree → FileItemTree
  CommentItem : (text : List ℕ) → FileItemTree
  BlankItem : FileItemTree

-- A file: its dialect and its items.
pub record FileTree : Type 0 where
  pub dialect : Dialect
  pub items : List FileItemTree
