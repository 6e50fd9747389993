-- What the grammar has where a file names a kind or gives a value: a module declares wires, regs, logics and variables without
-- a kind, the locals of a function are regs and logics, and each parameter of an instance has a value.
use Rattle.std.specs.Prelude.{Bool, true, false, IsTrue, Option, Some, None}
use Rattle.vast_literal.specs.WellFormedFile.{is_own_kind, is_local_word}
use Rattle.vast_core.specs.Handles.{Expr}
use Rattle.vast_literal.specs.declared.kind.DataKind.{DataKind}
use Rattle.vast_core.specs.Records.{Member, DeclarationEntry, Connection}
use Rattle.vast_core.specs.Nests.{FunctionVariable}

-- A module declares such: wire, reg or logic.
abbrev pub IsOwnKind : DataKind → Type 0
IsOwnKind kind = IsTrue (is_own_kind kind)

-- A function's local is such: reg or logic. Of an input's kind nothing is asked.
abbrev pub IsVariableKind : (local : Bool) → DataKind → Type 0
IsVariableKind false kind = Unit {0}
IsVariableKind true kind = IsTrue (is_local_word kind)

-- A declaration among the module's members is a wire, a reg or a logic.
abbrev pub HasOwnKind : Member → Type 0
HasOwnKind (DeclarationEntry kind name data_type) = IsOwnKind kind
HasOwnKind _ = Unit {0}

-- The function's local is a reg or a logic.
abbrev pub HasLocalKind : FunctionVariable → Type 0
HasLocalKind v = IsVariableKind true v.kind

abbrev pub IsGiven : Option Expr → Type 0
IsGiven None = ⊥
IsGiven (Some value) = Unit {0}

-- The instance's parameter has a value.
abbrev pub HasValue : Connection → Type 0
HasValue c = IsGiven c.value
