use Rattle.std.proofs.Common.{take, string_bytes}
use Rattle.vast_talk.specs.Internal.Warnings.{AddsMoreWarnings}
use Rattle.vast_talk.proofs.warnings.push_more.Given as goal

abbrev pub invariant-loop-warning : goal.invariant-loop-warning
invariant-loop-warning l = AddsMoreWarnings (string_bytes l.fn.text) (string_bytes l.text) (take l.warning-index l.warnings)
