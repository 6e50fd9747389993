-- What is made of the parts of a file, as what it stands for.
use Rattle.std.specs.Prelude.{◌≡◌, ℕ, List, [], ◌∷◌, ◌++◌, Option, Some, None, option_map, map, reverse}
use Rattle.vast_literal.specs.NormalFile as normal
use Rattle.vast_rows.specs.Built.{Seen, SeenNothing, SeenAnswer, SeenName, SeenPath, SeenExpression, SeenLoop, SeenExpressions, SeenGroup, SeenGroups, SeenDeclaration, SeenDeclarations, SeenConnection, SeenConnections, SeenEvent, SeenEvents, SeenStatement, SeenStatements, SeenArms, SeenLabels, SeenMember, SeenMembers, SeenParameter, SeenParameters, SeenPort, SeenPorts, SeenItem, SeenFile}
use Rattle.vast_rows.specs.Events.{Event, Makes, Reads, Names}
use Rattle.vast_read.specs.DeclarationView.{group_view, groups_view, declaration_view, declarations_view}
use Rattle.vast_read.specs.FileView.{parameter_view, parameters_view, port_view, ports_view, item_view, items_view}
use Rattle.vast_rows.specs.Phrases.{Meaning, IsExpression, IsLoop, IsPath}
use Rattle.vast_read.specs.Internal.StatementView.{arm_view, labels_view}
use Rattle.vast_read.specs.MemberView.{event_view, events_view, connection_view, connections_view, member_view, members_view}
use Rattle.vast_read.specs.StatementParts.{arms_of}
use Rattle.vast_read.specs.StatementView.{statement_view, block_view}
use Rattle.vast_read.specs.View.{view, listed}
use Rattle.vast_read.specs.declared.made.value.Alternatives.{Alternatives}
use Rattle.vast_read.specs.declared.made.value.Range.{Range}
use Rattle.vast_read.specs.declared.made.value.Value.{Value}
use Rattle.vast_read.specs.declared.made.value.Value.TheVariants as value
use Rattle.vast_read.specs.declared.made.heard.Told.{Told}
use Rattle.vast_read.specs.declared.made.heard.Told.TheVariants as told

-- The arms of a conditional so far.
abbrev pub arms_denoted : Alternatives → normal.Arms
arms_denoted a = arms_of (map arm_view (reverse a.before ++ (a.innermost ∷ []))) (option_map block_view a.last)

-- What a value stands for: lists grow from the right, so their last part stands first.
abbrev pub value_view : Value → Seen
value_view value.Nothing = SeenNothing
value_view (value.Answer b) = SeenAnswer b
value_view (value.Name w) = SeenName w.now
value_view (value.Path p) = SeenPath p.text.now
value_view (value.Expression x) = SeenExpression (view x.value)
value_view (value.Loop r) = SeenLoop r.variable.now (view r.start.value) (view r.end.value)
value_view (value.Expressions xs) = SeenExpressions (listed (reverse xs))
value_view (value.Group g) = SeenGroup (group_view g)
value_view (value.Groups gs) = SeenGroups (groups_view (reverse gs))
value_view (value.Declaration d) = SeenDeclaration (declaration_view d)
value_view (value.Declarations ds) = SeenDeclarations (declarations_view (reverse ds))
value_view (value.Connection c) = SeenConnection (connection_view c)
value_view (value.Connections cs) = SeenConnections (connections_view (reverse cs))
value_view (value.Event e) = SeenEvent (event_view e)
value_view (value.Events es) = SeenEvents (events_view (reverse es))
value_view (value.Statement s) = SeenStatement (statement_view s)
value_view (value.Statements ss) = SeenStatements (block_view (reverse ss))
value_view (value.Arms a) = SeenArms (arms_denoted a)
value_view (value.Labels ls) = SeenLabels (labels_view (reverse ls))
value_view (value.Member m) = SeenMember (member_view m)
value_view (value.Members ms) = SeenMembers (members_view (reverse ms))
value_view (value.Parameter p) = SeenParameter (parameter_view p)
value_view (value.Parameters ps) = SeenParameters (parameters_view (reverse ps))
value_view (value.Port p) = SeenPort (port_view p)
value_view (value.Ports ps) = SeenPorts (ports_view (reverse ps))
value_view (value.Item i) = SeenItem (item_view i)
value_view (value.Items is) = SeenFile (record { items = items_view (reverse is) })

abbrev pub denoted : List Value → List Seen
denoted vs = map value_view vs

-- What was to be made was made, where anything was.
abbrev pub Grown : Option (List Seen) → List Value → Type 0
Grown None new = Unit {0}
Grown (Some vs) new = denoted new ≡ vs

-- What a header of a loop means.
abbrev pub range_view : Range → Meaning
range_view r = IsLoop r.variable.now (view r.start.value) (view r.end.value)

-- What was heard, as an event.
abbrev pub told_event : Told → Event
told_event (told.Makes action) = Makes action
told_event (told.Expression x) = Reads (IsExpression (view x.value))
told_event (told.Loop r) = Reads (range_view r.value)
told_event (told.Path p) = Reads (IsPath p.now)
told_event (told.Names w) = Names w.now

-- In the order of the text: what was heard last stands first.
abbrev pub events_heard : List Told → List Event
events_heard ts = reverse (map told_event ts)

-- A name before a type: that of its package, where that is still to come, else its own.
abbrev pub names_type : (package_name type_name : Option (List ℕ)) → List ℕ → Option (List ℕ) × Option (List ℕ)
names_type None t w = (None, Some w)
names_type (Some p) t w = (Some w, t)
