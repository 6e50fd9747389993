-- What the code hands over where the arenas grow, as contracts speak of it.
use Rattle.std.specs.Prelude.{ℕ, ◌<◌, Bool, true, Option, Some, None, List, [], ◌∷◌}
use Rattle.std.specs.Borrow.{Bor}
use Rattle.vast_core.specs.declared.ast.growth.Entry.{Entry}
use Rattle.vast_core.specs.declared.ast.growth.Entry.TheVariants.{Statement as StatementOf, ElseIf as ElseIfOf, Else as ElseOf, CaseArm as CaseArmOf, Member as MemberOf}
use Rattle.vast_core.specs.declared.ast.growth.ModuleEntry.{ModuleEntry}
use Rattle.vast_core.specs.declared.ast.growth.ModuleEntry.TheVariants.{Parameter as ParameterIn, Port as PortIn, Member as MemberIn}
use Rattle.vast_core.specs.declared.ast.growth.Place.{Place}
use Rattle.vast_core.specs.declared.ast.growth.Place.TheVariants.{Nowhere as NowhereOf, File as FileOf, Module as ModuleOf, Function as FunctionOf, Nest as NestOf, Detached as DetachedOf}
use Rattle.vast_core.specs.declared.node.ExprNode.{ExprNode}
use Rattle.vast_core.specs.declared.ast.arrivals.Terms.{Terms}
use Rattle.vast_core.specs.declared.ast.arrivals.Terms.TheVariants.{Nothing as NoTerms, One, Two, Three}
use Rattle.vast_core.specs.declared.ast.arrivals.Node.{Node}
use Rattle.vast_core.specs.declared.ast.arrivals.Node.TheVariants.{Nothing as NoNode, Assignment as AssignmentOf, Container as ContainerOf, Port as PortOf, Module as ModuleNode, Function as FunctionNode, Definition as DefinitionOf, Artifact as ArtifactOf, Instance as InstanceOf, Always as AlwaysOf, AlwaysOverDetached as OverDetachedOf}
use Rattle.vast_core.specs.Records.{module_record, instance_record}
use Rattle.vast_core.specs.Nests.{nest_record, function_record, always_record}
use Rattle.vast_core.specs.Containers.{NestedEntry, StatementEnters, ElseIfEnters, ElseEnters, CaseArmEnters, MemberEnters}
use Rattle.vast_core.specs.Internal.Containers.{ModuleChange, HeaderGains, PortsGain, MembersGain, Listing, Nowhere, InFile, InModule, InFunction, InNest, AsDetached, AsUnique, Fresh, no_fresh, fresh_assignment}

abbrev pub entry_of : Entry → NestedEntry
entry_of (StatementOf s) = StatementEnters s
entry_of (ElseIfOf a) = ElseIfEnters a
entry_of (ElseOf b) = ElseEnters b
entry_of (CaseArmOf a) = CaseArmEnters a
entry_of (MemberOf m) = MemberEnters m

abbrev pub name_of : Option (Bor (List ℕ)) → Option (List ℕ)
name_of None = None
name_of (Some name) = Some name.now

abbrev pub change_of : ModuleEntry → ModuleChange
change_of (ParameterIn p) = HeaderGains p
change_of (PortIn port name) = PortsGain port name.now
change_of (MemberIn member name) = MembersGain member (name_of name)

abbrev pub listing_of : Place → Listing
listing_of NowhereOf = Nowhere
listing_of (FileOf item) = InFile item
listing_of (ModuleOf owner entry) = InModule owner (change_of entry)
listing_of (FunctionOf owner local v) = InFunction owner local v
listing_of (NestOf place entry) = InNest place (entry_of entry)
listing_of (DetachedOf block) = AsDetached block

-- The expressions and types that come.
abbrev pub terms_of : Terms → List ExprNode
terms_of NoTerms = []
terms_of (One t) = t ∷ []
terms_of (Two t u) = t ∷ u ∷ []
terms_of (Three t u v) = t ∷ u ∷ v ∷ []

-- The other node that comes.
abbrev pub fresh_node : Node → Fresh
fresh_node NoNode = no_fresh
fresh_node (AssignmentOf a) = fresh_assignment a
fresh_node (ContainerOf n) = record no_fresh { container = Some (nest_record n) }
fresh_node (PortOf p) = record no_fresh { port = Some p }
fresh_node (ModuleNode m) = record no_fresh { fresh_module = Some (module_record m) }
fresh_node (FunctionNode f) = record no_fresh { function = Some (function_record f) }
fresh_node (DefinitionOf d) = record no_fresh { definition = Some d }
fresh_node (ArtifactOf a) = record no_fresh { artifact = Some a }
fresh_node (InstanceOf i) = record no_fresh { instance = Some (instance_record i) }
fresh_node (AlwaysOf a) = record no_fresh { always_block = Some (always_record a) }
fresh_node (OverDetachedOf a) = record no_fresh { always_block = Some (always_record a); takes_detached = true }

-- What comes at once; the empty block comes last.
abbrev pub fresh_of : Terms → Node → (block : Bool) → Fresh
fresh_of terms node block = record (fresh_node node) { terms = terms_of terms; block = block }

-- The list that the entry goes into is there.
abbrev pub ListingThere : (modules nests functions : ℕ) → Listing → Type 0
ListingThere modules nests functions (InModule owner change) = owner.id.index < modules
ListingThere modules nests functions (InFunction f local v) = f.id.index < functions
ListingThere modules nests functions (InNest place entry) = place < nests
ListingThere modules nests functions (AsUnique place unique) = place < nests
ListingThere modules nests functions _ = Unit {0}
