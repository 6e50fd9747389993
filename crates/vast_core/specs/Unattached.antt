-- Blocks that nothing holds yet, and always blocks over them.
use Rattle.std.specs.Prelude.{List, [], ◌∷◌, ◌++◌, None}
use Rattle.vast_core.specs.Handles.{Expr, VastStatementBlock}
use Rattle.vast_literal.specs.declared.kind.AlwaysKind.{AlwaysKind}
use Rattle.vast_core.specs.Nests.{AlwaysRecord}
use Rattle.vast_core.specs.Bench.{Bench}

-- An always block over a block that is there.
abbrev pub always_over : AlwaysKind → List Expr → VastStatementBlock → AlwaysRecord
always_over kind events block = record { kind = kind; events = events; block = block }

-- An always block more, over the file's detached block, which is none any more.
abbrev pub with_always_over : AlwaysKind → List Expr → VastStatementBlock → Bench → Bench
with_always_over kind events block b = record b { always_blocks = b.always_blocks ++ always_over kind events block ∷ []; detached = None }
