-- What has members: a module or a loop.
use Rattle.std.specs.Prelude.{◌<◌, Bool}
use Rattle.vast_core.specs.Handles.{Expr, VastStatementBlock}
use Rattle.vast_core.specs.declared.ast.scope.Scope.{Scope}
use Rattle.vast_core.specs.declared.ast.scope.Scope.TheVariants.{Module as ScopeModule, Loop as ScopeLoop}
use Rattle.vast_core.specs.Records.{Member, DeclarationEntry, ParameterEntry, FunctionEntry, AlwaysEntry, ConditionalEntry, LoopEntry, ParameterForm}
use Rattle.vast_core.specs.Bench.{Bench, OwnsModule, OwnsLoop}
use Rattle.vast_core.specs.Growth.{with_expr, with_member}
use Rattle.vast_core.specs.Parameters.{form_name}
use Rattle.vast_core.specs.Loops.{with_loop_member}

-- The module or the loop is the file's.
abbrev pub OwnsScope : Bench → Scope → Type 0
OwnsScope b (ScopeModule m) = OwnsModule b m
OwnsScope b (ScopeLoop l) = OwnsLoop b l

-- A member more, at the end of the scope's members.
abbrev pub with_scope_member : Scope → Member → Bench → Bench
with_scope_member (ScopeModule m) entry b = with_member m entry b
with_scope_member (ScopeLoop l) entry b = with_loop_member l entry b

-- A parameter more among the scope's members, and its name as an expression.
abbrev pub with_scope_parameter : Scope → (local : Bool) → ParameterForm → Expr → Bench → Bench
with_scope_parameter scope local form value b = with_expr (form_name b form) (with_scope_member scope (ParameterEntry local form value) b)

-- The member may be given to more scopes than one: it declares no name, and holds no container and no function.
abbrev pub IsShared : Member → Type 0
IsShared (DeclarationEntry kind name data_type) = ⊥
IsShared (FunctionEntry f) = ⊥
IsShared (AlwaysEntry a) = ⊥
IsShared (ConditionalEntry c) = ⊥
IsShared (LoopEntry l) = ⊥
IsShared _ = Unit {0}

-- A loop may hold the block where it is older; a module always may.
abbrev pub IsOlder : Scope → VastStatementBlock → Type 0
IsOlder (ScopeModule m) block = Unit {0}
IsOlder (ScopeLoop l) block = l.id.index < block.id.index
