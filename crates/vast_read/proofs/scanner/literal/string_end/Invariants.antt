use Rattle.std.proofs.Common.{◌-◌, ◌≤◌, length, take, false}
use Rattle.vast_literal.specs.Scan.{InString}
use Rattle.vast_literal.specs.LiteralToken.{is_string_rest}
use Rattle.vast_read.specs.Internal.Scanner.{GoesOn}
use Rattle.vast_read.proofs.scanner.Lexemes.{At}
use Rattle.vast_read.proofs.scanner.literal.string_end.Given as goal

abbrev pub invariant-loop-place : goal.invariant-loop-place
invariant-loop-place l = (At (InString (take l.place l.text)) l.text l.place) × (l.place ≤ length l.text) × GoesOn (is_string_rest false) l.text l.place

abbrev pub decreases-loop-place : goal.decreases-loop-place
decreases-loop-place l = length l.text - l.place
