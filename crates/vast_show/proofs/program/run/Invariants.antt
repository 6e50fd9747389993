use Rattle.std.proofs.Common.{◌≡◌}
use Rattle.vast_show.specs.Shown.{ShowsFiles}
use Rattle.vast_show.proofs.program.run.Given as goal

-- So far a file was shown for each word, and nothing was told.
abbrev pub invariant-loop-word : goal.invariant-loop-word
invariant-loop-word g l =
    ShowsFiles (g.W.Write.contents l.initial.out) l.word-index (g.W.Write.contents l.out) × (g.E.Write.contents l.err ≡ g.E.Write.contents l.initial.err)
