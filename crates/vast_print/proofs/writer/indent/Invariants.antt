use Rattle.std.proofs.Common.{◌≡◌, ◌++◌, ◌*◌, replicate, string_bytes}
use Rattle.vast_print.proofs.writer.indent.Given as goal

abbrev pub invariant-loop : goal.invariant-loop
invariant-loop l = string_bytes l.text ≡ string_bytes l.fn.text ++ replicate (2 * l.counter) 32
