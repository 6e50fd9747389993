-- Beside `specs/Containers.antt`: what private contracts and proofs say, and no public one.
use Rattle.std.specs.Prelude.{◌≡◌, ℕ, suc, ◌+◌, ◌<◌, ◌≤◌, Bool, true, false, List, [], ◌∷◌, ◌++◌, length, Option, Some, None, IfSome}
use Rattle.vast_core.specs.Handles.{VastModule, VastStatementBlock, ModulePort, VastFunction}
use Rattle.vast_core.specs.Nodes.{ExprNode, built}
use Rattle.vast_core.specs.Internal.Nodes.{TermsSound}
use Rattle.vast_core.specs.Records.{Assignment, Port, ParameterPort, ModuleRecord, Member, FileItem, Definition, Artifact, InstanceRecord, with_listed_port, with_listed_parameter, with_listed_member, with_listed_name, changed_at}
use Rattle.vast_core.specs.Hoisting.{with_members_hoisted}
use Rattle.vast_core.specs.Nests.{NestRecord, BlockRecord, FunctionVariable, FunctionRecord, AlwaysRecord}
use Rattle.vast_core.specs.ArenaState.{ArenaState}
use Rattle.vast_core.specs.Bench.{Bench, OwnsModule, OwnsPort, OwnsFunction, OwnsBlock, NameIsFree, IsFreeInFunction}
use Rattle.vast_core.specs.Functions.{with_listed_variable}
use Rattle.vast_core.specs.DeclaredNames.{NamesSound, names_by_port, names_by_member}
use Rattle.vast_core.specs.WrittenKinds.{IsVariableKind, HasOwnKind}
use Rattle.vast_core.specs.Parents.{Part, ContainerPart, FunctionPart, AlwaysPart, held_by_statement, held_by_member, held_by_else_if, held_by_block, held_by_case_arm, held_by_container, held_by_function, held_by_always, held_by_module}
use Rattle.vast_core.specs.Sound.{PortSound, AssignmentSound, MemberSound, ParameterPortSound, ModuleSound, EntrySound, DefinitionSound, ArtifactSound, InstanceSound, StatementSound, ElseIfSound, HoldsBlock, CaseArmSound, LoopMemberSound, NestSound, VariableSound, FunctionSound, AlwaysSound, DeclaresOwnKinds, HasLocalKinds, GivesValues}
use Rattle.vast_core.specs.Containers.{NestedEntry, StatementEnters, ElseIfEnters, ElseEnters, CaseArmEnters, MemberEnters, with_entry, with_unique}

-- What becomes of a module's lists: the header, the ports or the members gain an element, whose name is taken from then
-- on; or the declarations among the members are hoisted.
pub data ModuleChange : Type 0 where
  HeaderGains : ParameterPort → ModuleChange
  PortsGain : ModulePort → (name : List ℕ) → ModuleChange
  MembersGain : Member → (name : Option (List ℕ)) → ModuleChange
  Hoists : (start : ℕ) → ModuleChange

-- Where a new entry goes: nowhere, to the end of the file's items, into a module, to the end of a function's inputs or
-- locals, or into a container. Or a block becomes the file's detached one, or a case statement `unique`, or not.
pub data Listing : Type 0 where
  Nowhere : Listing
  InFile : FileItem → Listing
  InModule : VastModule → ModuleChange → Listing
  InFunction : VastFunction → (local : Bool) → FunctionVariable → Listing
  InNest : (place : ℕ) → NestedEntry → Listing
  AsDetached : VastStatementBlock → Listing
  AsUnique : (place : ℕ) → Bool → Listing

abbrev pub with_listed : Member → Option (List ℕ) → ModuleRecord → ModuleRecord
with_listed entry None m = with_listed_member entry m
with_listed entry (Some name) m = with_listed_name entry name m

abbrev pub with_change : ModuleChange → ModuleRecord → ModuleRecord
with_change (HeaderGains p) = with_listed_parameter p
with_change (PortsGain port name) = with_listed_port port name
with_change (MembersGain entry name) = with_listed entry name
with_change (Hoists start) = with_members_hoisted start

abbrev pub listed_modules : Listing → List ModuleRecord → List ModuleRecord
listed_modules (InModule owner change) modules = changed_at owner.id.index (with_change change) modules
listed_modules _ modules = modules

abbrev pub listed_functions : Listing → List FunctionRecord → List FunctionRecord
listed_functions (InFunction f local v) functions = changed_at f.id.index (with_listed_variable local v) functions
listed_functions _ functions = functions

abbrev pub listed_nests : Listing → List NestRecord → List NestRecord
listed_nests (InNest place entry) nests = changed_at place (with_entry entry) nests
listed_nests (AsUnique place unique) nests = changed_at place (with_unique unique) nests
listed_nests _ nests = nests

abbrev pub listed_items : Listing → List FileItem → List FileItem
listed_items (InFile entry) items = items ++ entry ∷ []
listed_items _ items = items

abbrev pub listed_detached : Listing → Option VastStatementBlock → Option VastStatementBlock
listed_detached (AsDetached block) detached = Some block
listed_detached _ detached = detached

abbrev pub with_listing : Listing → Bench → Bench
with_listing l b =
    record b {
      modules = listed_modules l b.modules;
      functions = listed_functions l b.functions;
      nests = listed_nests l b.nests;
      items = listed_items l b.items;
      detached = listed_detached l b.detached;
    }

-- The list with the element at its end, if there is one.
abbrev pub added : {A : Type 0} → List A → Option A → List A
added xs None = xs
added xs (Some x) = xs ++ x ∷ []

-- What comes at once: expressions and types, the older first, at most one node of each other kind, and then perhaps an
-- empty block; and whether an always block takes the detached one.
pub record Fresh : Type 0 where
  pub terms : List ExprNode
  pub assignment : Option Assignment
  pub container : Option NestRecord
  pub block : Bool
  pub port : Option Port
  pub fresh_module : Option ModuleRecord
  pub function : Option FunctionRecord
  pub definition : Option Definition
  pub artifact : Option Artifact
  pub instance : Option InstanceRecord
  pub always_block : Option AlwaysRecord
  pub takes_detached : Bool

abbrev pub with_empty_block : Bool → List NestRecord → List NestRecord
with_empty_block false nests = nests
with_empty_block true nests = nests ++ BlockRecord [] ∷ []

abbrev pub detached_left : Bool → Option VastStatementBlock → Option VastStatementBlock
detached_left false detached = detached
detached_left true detached = None

abbrev pub with_fresh : Fresh → Bench → Bench
with_fresh f b =
    record b {
      nodes = built b.nodes f.terms;
      assignments = added b.assignments f.assignment;
      nests = with_empty_block f.block (added b.nests f.container);
      ports = added b.ports f.port;
      modules = added b.modules f.fresh_module;
      functions = added b.functions f.function;
      definitions = added b.definitions f.definition;
      artifacts = added b.artifacts f.artifact;
      instances = added b.instances f.instance;
      always_blocks = added b.always_blocks f.always_block;
      detached = detached_left f.takes_detached b.detached;
    }

-- A module that comes declares nothing and holds nothing.
pub record ComesEmpty (c : Bench) (m : ModuleRecord) : Type 0 where
  pub sound : ModuleSound c m
  pub names : NamesSound c.ports c.functions m
  pub parts : held_by_module m ≡ []
  pub kinds : DeclaresOwnKinds m

-- A function that comes has locals of their kinds, and an instance that comes gives its parameters values.
pub record FunctionComes (c : Bench) (f : FunctionRecord) : Type 0 where
  pub sound : FunctionSound c f
  pub kinds : HasLocalKinds f

pub record InstanceComes (c : Bench) (i : InstanceRecord) : Type 0 where
  pub sound : InstanceSound c i
  pub values : GivesValues i

-- The new nodes of file b are made of what file c owns.
pub record FreshSound (b c : Bench) (f : Fresh) : Type 0 where
  pub terms : TermsSound b.nodes f.terms
  pub assignment : IfSome f.assignment (AssignmentSound c)
  pub container : IfSome f.container (NestSound c (length b.nests))
  pub port : IfSome f.port (PortSound c)
  pub fresh_module : IfSome f.fresh_module (ComesEmpty c)
  pub function : IfSome f.function (FunctionComes c)
  pub definition : IfSome f.definition (DefinitionSound c)
  pub artifact : IfSome f.artifact (ArtifactSound c)
  pub instance : IfSome f.instance (InstanceComes c)
  pub always_block : IfSome f.always_block (AlwaysSound c)

abbrev pub EntersSound : Bench → ℕ → NestedEntry → Type 0
EntersSound b i (StatementEnters s) = StatementSound b i s
EntersSound b i (ElseIfEnters a) = ElseIfSound b i a
EntersSound b i (ElseEnters x) = HoldsBlock b i x
EntersSound b i (CaseArmEnters a) = CaseArmSound b i a
EntersSound b i (MemberEnters m) = LoopMemberSound b i m

abbrev pub listed_name : Option (List ℕ) → List (List ℕ)
listed_name None = []
listed_name (Some name) = name ∷ []

-- A port that is listed declares the name that it takes, and so does a member with a name; the name is free.
pub record ListsPort (c : Bench) (owner : VastModule) (port : ModulePort) (name : List ℕ) : Type 0 where
  pub port_there : OwnsPort c port
  pub declares : names_by_port c.ports port ≡ name ∷ []
  pub free : NameIsFree c owner name

pub record ListsMember (c : Bench) (owner : VastModule) (entry : Member) (name : Option (List ℕ)) : Type 0 where
  pub member : MemberSound c entry
  pub kind : HasOwnKind entry
  pub declares : names_by_member c.functions entry ≡ listed_name name
  pub free : IfSome name (NameIsFree c owner)

pub record ListsVariable (b c : Bench) (f : VastFunction) (local : Bool) (v : FunctionVariable) : Type 0 where
  pub function_there : OwnsFunction b f
  pub variable : VariableSound c v
  pub kind : IsVariableKind local v.kind
  pub free : IsFreeInFunction c f v.name

abbrev pub ChangeSound : Bench → VastModule → ModuleChange → Type 0
ChangeSound c owner (HeaderGains p) = ParameterPortSound c p
ChangeSound c owner (PortsGain port name) = ListsPort c owner port name
ChangeSound c owner (MembersGain entry name) = ListsMember c owner entry name
ChangeSound c owner (Hoists start) = Unit {0}

-- The new entry of file b is made of what file c owns, and declares the names that it takes; those are free.
abbrev pub ListingSound : Bench → Bench → Listing → Type 0
ListingSound b c Nowhere = Unit {0}
ListingSound b c (InFile entry) = EntrySound c entry
ListingSound b c (InModule owner change) = OwnsModule b owner × ChangeSound c owner change
ListingSound b c (InFunction f local v) = ListsVariable b c f local v
ListingSound b c (InNest place entry) = (place < length b.nests) × EntersSound c place entry
ListingSound b c (AsDetached block) = OwnsBlock c block
ListingSound b c (AsUnique place unique) = place < length b.nests

-- The parts that a new entry places, those that stand in new nodes, and those that are made.

abbrev pub held_by_entry : NestedEntry → List Part
held_by_entry (StatementEnters s) = held_by_statement s
held_by_entry (ElseIfEnters a) = held_by_else_if a
held_by_entry (ElseEnters c) = held_by_block (Some c)
held_by_entry (CaseArmEnters a) = held_by_case_arm a
held_by_entry (MemberEnters m) = held_by_member m

abbrev pub held_by_listing : Listing → List Part
held_by_listing (InModule owner (MembersGain entry name)) = held_by_member entry
held_by_listing (InNest place entry) = held_by_entry entry
held_by_listing (AsDetached block) = held_by_block (Some block)
held_by_listing _ = []

-- What is read off a node that may come.
abbrev pub read_off : {X A : Type 0} → (X → List A) → Option X → List A
read_off g None = []
read_off g (Some x) = g x

abbrev pub held_by_fresh : Fresh → List Part
held_by_fresh f = read_off held_by_container f.container ++ (read_off held_by_function f.function ++ read_off held_by_always f.always_block)

abbrev pub made_containers : ℕ → Option NestRecord → Bool → List Part
made_containers n None false = []
made_containers n None true = ContainerPart n ∷ []
made_containers n (Some x) false = ContainerPart n ∷ []
made_containers n (Some x) true = ContainerPart n ∷ ContainerPart (suc n) ∷ []

abbrev pub made : Bench → Fresh → List Part
made b f = read_off (λ x. FunctionPart (length b.functions) ∷ []) f.function ++ (read_off (λ x. AlwaysPart (length b.always_blocks) ∷ []) f.always_block ++ made_containers (length b.nests) f.container f.block)

abbrev pub detached_used : Bool → Option VastStatementBlock → List Part
detached_used false detached = []
detached_used true detached = held_by_block detached

-- What comes and the entry are the file's, and each container that comes stands in one place.
pub record GrowthSound (b : Bench) (l : Listing) (f : Fresh) : Type 0 where
  pub fresh : FreshSound b (with_fresh f b) f
  pub listing : ListingSound b (with_fresh f b) l
  -- What is made is placed, each once, and so is the detached block that is taken.
  pub placed : held_by_listing l ++ held_by_fresh f ≡ made b f ++ detached_used f.takes_detached b.detached

-- An entry of a list, together with what comes.
abbrev pub after_growth : Listing → Fresh → Bench → Bench
after_growth l f b = with_listing l (with_fresh f b)

-- How many nodes come.
abbrev pub count_of : {A : Type 0} → Option A → ℕ
count_of None = 0
count_of (Some x) = 1

abbrev pub block_count : Bool → ℕ
block_count false = 0
block_count true = 1

-- There is room for the new nodes.
pub record HasRoom (a : ArenaState) (f : Fresh) : Type 0 where
  pub terms : length f.terms ≤ a.term_room
  pub assignments : count_of f.assignment ≤ a.assignment_room
  pub nests : count_of f.container + block_count f.block ≤ a.nest_room
  pub ports : count_of f.port ≤ a.port_room
  pub modules : count_of f.fresh_module ≤ a.module_room
  pub functions : count_of f.function ≤ a.function_room
  pub definitions : count_of f.definition ≤ a.definition_room
  pub artifacts : count_of f.artifact ≤ a.artifact_room
  pub instances : count_of f.instance ≤ a.instance_room
  pub always_blocks : count_of f.always_block ≤ a.always_block_room

-- Words of the public calls.

-- Nothing comes.
abbrev pub no_fresh : Fresh
no_fresh = record { terms = []; assignment = None; container = None; block = false; port = None; fresh_module = None; function = None; definition = None; artifact = None; instance = None; always_block = None; takes_detached = false }

abbrev pub fresh_assignment : Assignment → Fresh
fresh_assignment a = record no_fresh { assignment = Some a }

abbrev pub fresh_block : Fresh
fresh_block = record no_fresh { block = true }
