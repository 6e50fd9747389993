use Rattle.std.proofs.Common.{drop, map}
use Rattle.vast_read.proofs.Leading.{Leading}
use Rattle.vast_expressions.specs.Internal.Views.{token_view}
use Rattle.vast_read.proofs.reader.Reader.eat_all.Given as goal

abbrev pub invariant-loop-token : goal.invariant-loop-token
invariant-loop-token l = Leading l.fn.self (map token_view l.wanted) (map token_view (drop l.token-index l.wanted)) l.self
