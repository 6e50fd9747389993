-- Normal files: what of a file's tree its tokens tell. Comments, blank lines and the dialect are gone.
use Rattle.std.specs.Prelude.{ℕ, Bool, List, Option}
use Rattle.vast_literal.specs.Tokens.{Key}
use Rattle.vast_literal.specs.Tree.{AlwaysWord}
use Rattle.vast_literal.specs.NormalExpr.{NormalExpr, NormalExprs}

-- Statements of a block. An arm of a case and the body of a function are blocks too.
mutual
  pub data NormalStatement : Type 0 where
    BlockingStatement NonblockingStatement AssignStatement : (left right : NormalExpr) → NormalStatement
    TaskStatement : (call : NormalExpr) → NormalStatement
    ChoiceStatement : Arms → NormalStatement
    CaseStatement : (unique : Bool) (word : Key) (selector : NormalExpr) → Labels → NormalStatement
    ForStatement : (index : List ℕ) (start end : NormalExpr) (body : NormalStatements) → NormalStatement

  pub data NormalStatements : Type 0 where
    Done : NormalStatements
    Then : NormalStatement → NormalStatements → NormalStatements

  -- if, else if, .., perhaps else
  pub data Arms : Type 0 where
    Only : (condition : NormalExpr) (block : NormalStatements) → Arms
    Otherwise : (condition : NormalExpr) (block last_block : NormalStatements) → Arms
    Or : (condition : NormalExpr) (block : NormalStatements) → Arms → Arms

  -- The arms of a case; one without an expression is a default.
  pub data Labels : Type 0 where
    NoLabels : Labels
    Label : (label : Option NormalExpr) (block : NormalStatements) → Labels → Labels

-- What stands between brackets in a declaration.
pub data Group : Type 0 where
  One : NormalExpr → Group
  Range : (high low : NormalExpr) → Group

-- The written parts of a declaration, in their order.
pub record NormalDeclaration : Type 0 where
  pub kind : Option Key
  pub package_name : Option (List ℕ)
  pub type_name : Option (List ℕ)
  pub sign : Option Key
  pub groups : List Group
  pub name : List ℕ
  pub behind : List Group

-- What an always block waits for.
pub data Event : Type 0 where
  EdgeEvent : (edge : Key) → NormalExpr → Event
  NameEvent : (name : List ℕ) → Event

-- What an instantiation gives to a parameter or a port by name; an open port has no value. An entry of an enumeration.
pub record NormalConnection : Type 0 where
  pub name : List ℕ
  pub value : Option NormalExpr

-- Members of a module or of a generate loop.
mutual
  pub data NormalMember : Type 0 where
    DeclarationPart : NormalDeclaration → NormalMember
    AssignPart : (left right : NormalExpr) → NormalMember
    ParameterPart : (word : Key) → NormalDeclaration → (value : NormalExpr) → NormalMember
    MacroPart : (name : List ℕ) (arguments : Option NormalExprs) (semicolon : Bool) → NormalMember
    ImportPart : (package_name : List ℕ) → NormalMember
    -- An enumeration: the declaration of its name, and its entries. A packed structure.
    EnumPart : NormalDeclaration → (entries : List NormalConnection) → NormalMember
    StructPart : (name : List ℕ) (fields : List NormalDeclaration) → NormalMember
    InstancePart : (module_name : List ℕ) (parameters : List NormalConnection) (instance_name : List ℕ) (connections : List NormalConnection) → NormalMember
    AlwaysPart : AlwaysWord → List Event → (body : NormalStatements) → NormalMember
    ConditionalPart : Arms → NormalMember
    FunctionPart : (result : NormalDeclaration) (inputs locals : List NormalDeclaration) (body : NormalStatements) → NormalMember
    LoopPart : (genvar : List ℕ) (start end : NormalExpr) (label : Option (List ℕ)) → NormalMembers → NormalMember

  pub data NormalMembers : Type 0 where
    NoParts : NormalMembers
    MoreParts : NormalMember → NormalMembers → NormalMembers

-- A parameter of a module's header.
pub record NormalParameter : Type 0 where
  pub declaration : NormalDeclaration
  pub value : NormalExpr

-- A port of a module's header.
pub record NormalPort : Type 0 where
  pub direction : Key
  pub declaration : NormalDeclaration

pub record NormalModule : Type 0 where
  pub name : List ℕ
  pub parameters : List NormalParameter
  pub ports : List NormalPort
  pub members : NormalMembers

pub data NormalItem : Type 0 where
  ModulePart : NormalModule → NormalItem
  IncludePart : (path : List ℕ) → NormalItem
  FileImportPart : (package_name : List ℕ) → NormalItem
  -- A member that stands in no module.
  MemberPart : NormalMember → NormalItem

-- A file's items, in their order.
pub record NormalFile : Type 0 where
  pub items : List NormalItem
