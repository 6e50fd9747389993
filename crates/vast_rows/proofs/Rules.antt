-- The rules in the order of their numbers. Written by `tools/rows`.
use Rattle.std.specs.Prelude.{List, [], ◌∷◌}
use Rattle.vast_rows.specs.declared.rule.Rule.{Rule}
use Rattle.vast_rows.specs.declared.rule.Rule.TheVariants.{File, FileItem, Parameters, MoreParameters, Parameter, Ports, MorePorts, Port, Direction, ModuleMembers, LoopMembers, Declaration, KindWord, Declarator, SignWord, AfterWord, OwnType, SignedName, GroupedName, AfterGroups, FirstGroups, Groups, BracketGroup, GroupEnd, Member, NetKind, NoWait, Awaited, AnyMacro, MacroArguments, Expressions, MoreExpressions, LastSemicolon, AfterName, TypedName, AfterNames, GivenList, Given, MoreGiven, Connections, Connection, Connected, MoreConnections, Events, OneEvent, MoreEvents, Inputs, Input, MoreInputs, Locals, Local, LocalKind, FunctionBody, LoneCase, NoEnd, LoopLabel, Typedef, TypeForm, BaseSign, BaseGroups, Entries, Entry, EntryValue, MoreEntries, Fields, Field, Statements, Statement, AfterTarget, Assignment, Arrow, Choice, Else, Branch, Unique, CaseKind, CaseArms, BareArms, ArmBody}

abbrev pub rules : List Rule
rules = File ∷ FileItem ∷ Parameters ∷ MoreParameters ∷ Parameter ∷ Ports ∷ MorePorts ∷ Port ∷ Direction ∷ ModuleMembers ∷ LoopMembers ∷ Declaration ∷ KindWord ∷ Declarator ∷ SignWord ∷ AfterWord ∷ OwnType ∷ SignedName ∷ GroupedName ∷ AfterGroups ∷ FirstGroups ∷ Groups ∷ BracketGroup ∷ GroupEnd ∷ Member ∷ NetKind ∷ NoWait ∷ Awaited ∷ AnyMacro ∷ MacroArguments ∷ Expressions ∷ MoreExpressions ∷ LastSemicolon ∷ AfterName ∷ TypedName ∷ AfterNames ∷ GivenList ∷ Given ∷ MoreGiven ∷ Connections ∷ Connection ∷ Connected ∷ MoreConnections ∷ Events ∷ OneEvent ∷ MoreEvents ∷ Inputs ∷ Input ∷ MoreInputs ∷ Locals ∷ Local ∷ LocalKind ∷ FunctionBody ∷ LoneCase ∷ NoEnd ∷ LoopLabel ∷ Typedef ∷ TypeForm ∷ BaseSign ∷ BaseGroups ∷ Entries ∷ Entry ∷ EntryValue ∷ MoreEntries ∷ Fields ∷ Field ∷ Statements ∷ Statement ∷ AfterTarget ∷ Assignment ∷ Arrow ∷ Choice ∷ Else ∷ Branch ∷ Unique ∷ CaseKind ∷ CaseArms ∷ BareArms ∷ ArmBody ∷ []
