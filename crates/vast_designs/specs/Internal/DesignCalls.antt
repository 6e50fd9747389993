-- Beside `specs/DesignCalls.antt`: what private contracts and proofs say, and no public one.
use Rattle.std.specs.Prelude.{ℕ, List}
use Rattle.vast_literal.specs.declared.kind.VastFileType.TheVariants.{SystemVerilog}
use Rattle.vast_core.specs.Bench.{start}
use Rattle.vast_core.specs.FileTree.{tree}
use Rattle.vast_print.specs.Page.{print}
use Rattle.vast_print.specs.Layout.{layout}
use Rattle.vast_script.specs.Outcome.{Call}
use Rattle.vast_script.specs.Script.{called}

-- The text of the file that the calls build: the first that a program makes, in SystemVerilog.
unfoldable pub calls_text : List Call → List ℕ
calls_text calls = print (layout (tree (called (start SystemVerilog 1) calls)))
