use Rattle.std.proofs.Common.{[], subst}
use Rattle.vast_literal.specs.FileGrammar.{IsFile}
use Rattle.vast_rows.specs.Trace.{trace}
use Rattle.vast_read.specs.Internal.Transcripts.{entries, left_in, piece_view, written, written_in}
use Rattle.vast_read.proofs.Transcripts.{told_over}
use Rattle.vast_read.proofs.same.tells.Goals as goal

pub returns-then-branch : goal.returns-then-branch
returns-then-branch c =
    let h = rw c.if-branch.true at c.in_ok-read_file.ensures in
    (h.0, subst (λ ts. IsFile ts h.0) c.new-source.ensures h.1, told_over (written_in c.args.told.now) (piece_view c.whole.result) (written (entries (trace h.0 []))) (left_in c.read_file.new.sink.hearer) c.is_over.result c.whole.ensures h.2 c.is_over.ensures)
