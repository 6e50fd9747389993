-- Each action by a number of its own.
use Rattle.std.specs.Prelude.{ℕ, ◌+◌}
use Rattle.vast_literal.specs.declared.kind.AlwaysKind.{AlwaysKind as AlwaysWord}
use Rattle.vast_literal.specs.declared.kind.AlwaysKind.TheVariants.{AlwaysFF as AlwaysFFWord, AlwaysAt as AlwaysAtWord, AlwaysComb as AlwaysCombWord, AlwaysStar as AlwaysStarWord, AlwaysLatch as AlwaysLatchWord, Initial as InitialWord}
use Rattle.vast_rows.specs.Numbers.{key_number}
use Rattle.vast_rows.specs.declared.action.Action.{Action}
use Rattle.vast_rows.specs.declared.action.Action.TheVariants.{Nothing, Yes, No, ModuleItem, IncludeItem, HeaderParameter, DeclarationMember, AssignMember, MacroMember, NamedMember, ConditionalMember, FunctionMember, LoopMember, NameBefore, Packaged, Declares, GroupOf, Connects, ChangeOf, Assigns, AssignsByWord, Chooses, UniqueCase, Conditional, NoArms, Arm, DefaultArm, ImportItem, ImportMember, Repeats, MemberItem, EnumMember, StructMember, Unnamed, NoMore, OneMore, PortOf, ParameterMember, AlwaysMember, KindOf, SignOf, EdgeOf, CaseOf}
use Rattle.vast_rows.specs.declared.action.Listed.{Listed}
use Rattle.vast_rows.specs.declared.action.Listed.TheVariants as listed

abbrev pub listed_number : Listed → ℕ
listed_number listed.Item = 0
listed_number listed.Parameter = 1
listed_number listed.Port = 2
listed_number listed.Member = 3
listed_number listed.Group = 4
listed_number listed.Declaration = 5
listed_number listed.Expression = 6
listed_number listed.Connection = 7
listed_number listed.Event = 8
listed_number listed.Statement = 9

abbrev pub always_number : AlwaysWord → ℕ
always_number AlwaysFFWord = 0
always_number AlwaysAtWord = 1
always_number AlwaysCombWord = 2
always_number AlwaysStarWord = 3
always_number AlwaysLatchWord = 4
always_number InitialWord = 5

abbrev pub action_number : Action → ℕ
action_number Nothing = 0
action_number Yes = 1
action_number No = 2
action_number ModuleItem = 3
action_number IncludeItem = 4
action_number HeaderParameter = 5
action_number DeclarationMember = 6
action_number AssignMember = 7
action_number MacroMember = 8
action_number NamedMember = 9
action_number ConditionalMember = 10
action_number FunctionMember = 11
action_number LoopMember = 12
action_number NameBefore = 13
action_number Packaged = 14
action_number Declares = 15
action_number GroupOf = 16
action_number Connects = 17
action_number ChangeOf = 18
action_number Assigns = 19
action_number AssignsByWord = 20
action_number Chooses = 21
action_number UniqueCase = 22
action_number Conditional = 23
action_number NoArms = 24
action_number Arm = 25
action_number DefaultArm = 26
action_number ImportItem = 27
action_number ImportMember = 28
action_number Repeats = 29
action_number MemberItem = 30
action_number EnumMember = 31
action_number StructMember = 32
action_number Unnamed = 33
action_number (NoMore what) = 40 + listed_number what
action_number (OneMore what) = 50 + listed_number what
action_number (PortOf key) = 60 + key_number key
action_number (ParameterMember key) = 120 + key_number key
action_number (AlwaysMember word) = 180 + always_number word
action_number (KindOf key) = 200 + key_number key
action_number (SignOf key) = 260 + key_number key
action_number (EdgeOf key) = 320 + key_number key
action_number (CaseOf key) = 380 + key_number key
