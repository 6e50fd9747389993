use Rattle.std.proofs.Common.{◌-◌, length}
use denote.Text.{Utf8}
use denote.Shadow.{shadow}
use Rattle.vast_literal.specs.Scan.{Gap}
use Rattle.vast_read.specs.Behind.{Behind}
use Rattle.vast_read.specs.Lexed.{lex}
use Rattle.vast_read.proofs.LeftTokens.{Passed}
use Rattle.vast_read.proofs.place.place_of_left.Given as goal

abbrev pub invariant-loop-ahead : goal.invariant-loop-ahead
invariant-loop-ahead l = Passed l.text l.rest l.ahead (length (lex Gap l.text) - length l.fn.left) × Behind l.text l.rest × shadow (Utf8 l.rest)

abbrev pub decreases-loop-ahead : goal.decreases-loop-ahead
decreases-loop-ahead l = length l.ahead
