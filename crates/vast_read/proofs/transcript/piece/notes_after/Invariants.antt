use Rattle.std.proofs.Common.{drop}
use Rattle.vast_read.proofs.Leading.{Leading}
use Rattle.vast_read.proofs.transcript.piece.notes_after.Given as goal

abbrev pub invariant-loop-note : goal.invariant-loop-note
invariant-loop-note l = Leading l.fn.notes l.front (drop l.note-index l.front) l.rest
