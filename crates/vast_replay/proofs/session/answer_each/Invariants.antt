use Rattle.std.proofs.Common.{IfSome}
use Rattle.vast_talk.specs.Linted.{HasItsLint}
use Rattle.vast_replay.proofs.Sessions.{HasReplied}
use Rattle.vast_replay.proofs.session.answer_each.Given as goal

-- The lines that were read were replied to.
abbrev pub invariant-loop : goal.invariant-loop
invariant-loop g l =
    HasItsLint l.initial.repl → HasItsLint l.repl
    × IfSome (g.R.Read.remaining l.initial.input) (λ bytes. HasReplied bytes l.initial.repl l.repl (g.W.Write.contents l.initial.out) (g.W.Write.contents l.out) (g.R.Read.remaining l.input))
