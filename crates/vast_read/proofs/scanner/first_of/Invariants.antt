use Rattle.std.proofs.Common.{◌≡◌, length}
use denote.Shadow.{shadow}
use denote.Text.{Utf8}
use Rattle.vast_literal.specs.Scan.{Gap}
use Rattle.vast_read.specs.Behind.{Behind}
use Rattle.vast_read.specs.Lexed.{lex}
use Rattle.vast_read.proofs.scanner.first_of.Given as goal

abbrev pub invariant-loop-rest : goal.invariant-loop-rest
invariant-loop-rest l = (lex Gap l.rest ≡ lex Gap l.text) × Behind l.text l.rest × shadow (Utf8 l.rest)

abbrev pub decreases-loop-rest : goal.decreases-loop-rest
decreases-loop-rest l = length l.rest
