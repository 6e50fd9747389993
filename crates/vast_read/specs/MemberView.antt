-- The normal members that members of the reader stand for.
use Rattle.std.specs.Prelude.{ℕ, List, [], ◌∷◌, Option, Some, None, option_map, map}
use Rattle.vast_literal.specs.NormalExpr as expression
use Rattle.vast_literal.specs.NormalExpr.{Name}
use Rattle.vast_literal.specs.NormalFile as normal
use Rattle.vast_literal.specs.NormalFile.{Event, EdgeEvent, NameEvent, NormalMembers, NoParts, MoreParts}
use Rattle.vast_read.specs.Texts.{key_of}
use Rattle.vast_read.specs.View.{view, listed}
use Rattle.vast_read.specs.StatementParts.{arms_in}
use Rattle.vast_read.specs.StatementView.{statement_view, block_view}
use Rattle.vast_read.specs.DeclarationView.{declaration_view, declarations_view}
use Rattle.vast_read.specs.declared.tree.member.Event.{Event as CodeEvent}
use Rattle.vast_read.specs.declared.tree.member.Connection.{Connection}
use Rattle.vast_read.specs.declared.tree.member.NormalMember.{NormalMember, fold-NormalMember}
use Rattle.vast_read.specs.declared.tree.member.NormalMember.TheOpen.{NormalMember-F}

-- The name that an expression is; what an event without an edge waits for is always one.
abbrev pub name_of : expression.NormalExpr → List ℕ
name_of (Name w) = w
name_of _ = []

abbrev pub event_of : Option (List ℕ) → expression.NormalExpr → Event
event_of None x = NameEvent (name_of x)
event_of (Some word) x = EdgeEvent (key_of word) x

abbrev pub event_view : CodeEvent → Event
event_view e = event_of e.edge (view e.expression.value)

abbrev pub events_view : List CodeEvent → List Event
events_view es = map event_view es

abbrev pub connection_view : Connection → normal.NormalConnection
connection_view c = record { name = c.name; value = option_map (λ x. view x.value) c.value }

abbrev pub connections_view : List Connection → List normal.NormalConnection
connections_view cs = map connection_view cs

abbrev pub members_of : List normal.NormalMember → NormalMembers
members_of [] = NoParts
members_of (m ∷ ms) = MoreParts m (members_of ms)

-- One level, with each member inside already seen.
abbrev pub member_level : NormalMember-F normal.NormalMember → normal.NormalMember
member_level (NormalMember-F.Declaration d) = normal.DeclarationPart (declaration_view d.value)
member_level (NormalMember-F.Assign l r) = normal.AssignPart (view l.value) (view r.value)
member_level (NormalMember-F.Parameter word d x) = normal.ParameterPart (key_of word) (declaration_view d.value) (view x.value)
member_level (NormalMember-F.Import package_name) = normal.ImportPart package_name
member_level (NormalMember-F.Enum e) = normal.EnumPart (declaration_view e.value.declaration.value) (connections_view e.value.entries)
member_level (NormalMember-F.Struct s) = normal.StructPart s.value.name (declarations_view s.value.fields)
member_level (NormalMember-F.Macro m) = normal.MacroPart m.value.name (option_map listed m.value.arguments) m.value.has_semicolon
member_level (NormalMember-F.Instance i) = normal.InstancePart i.value.definition (connections_view i.value.parameters) i.value.name (connections_view i.value.connections)
member_level (NormalMember-F.Always a) = normal.AlwaysPart a.value.kind (events_view a.value.events) (block_view a.value.body)
member_level (NormalMember-F.Conditional s) = normal.ConditionalPart (arms_in (statement_view s.value))
member_level (NormalMember-F.Function f) = normal.FunctionPart (declaration_view f.value.output.value) (declarations_view f.value.inputs) (declarations_view f.value.locals) (block_view f.value.body)
member_level (NormalMember-F.Loop l ms) = normal.LoopPart l.value.variable (view l.value.start.value) (view l.value.end.value) l.value.label (members_of ms)

-- The normal member that a member of the reader stands for, case by case.
abbrev pub member_view : NormalMember → normal.NormalMember
member_view = fold-NormalMember normal.NormalMember member_level

abbrev pub members_view : List NormalMember → NormalMembers
members_view ms = members_of (map member_view ms)
