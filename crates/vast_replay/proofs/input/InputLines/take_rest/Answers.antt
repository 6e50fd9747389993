use Rattle.std.proofs.Common.{sym, subst, take, rules}
use Rattle.vast_replay.specs.Internal.Input.{ReadsInput, ReadsOn}
use Rattle.vast_replay.specs.declared.input.InputLines.{InputLines}
use Rattle.vast_replay.proofs.Inputs.{more_given, still_given}
use Rattle.vast_replay.proofs.input.InputLines.take_rest.Goals as goal
use Rattle.vast_replay.proofs.input.InputLines.take_rest.Goals.{in-Ok+in_ok-take_bytes-in-Ok, in-Err}

pub loop-preserved : goal.loop-preserved
loop-preserved g c = elim c.match-read.branch [
  | in-Ok+in_ok-take_bytes-in-Ok w ↦
      let given = take w.in-Ok.count c.read.new.buf in (
        more_given c.args.self.now c.loop.self c.match-read.self (g.R.Read.remaining c.args.input.now) (g.R.Read.remaining c.loop.input) (g.R.Read.remaining c.read.new.self) given c.loop.invariant.0
            w.in-Ok.ensures.bytes.0 (subst (λ (now : InputLines). ReadsOn c.loop.self now given) (sym w.self-is) w.in_ok-take_bytes-in-Ok.ensures),
        search rules,
      )
  | in-Err w ↦ (
    subst (λ (now : InputLines). ReadsInput c.args.self.now now (g.R.Read.remaining c.args.input.now) (g.R.Read.remaining c.read.new.self)) (sym w.self-is)
        (still_given c.args.self.now c.loop.self (g.R.Read.remaining c.args.input.now) (g.R.Read.remaining c.loop.input) (g.R.Read.remaining c.read.new.self) c.loop.invariant.0 w.in-Err.ensures.bytes),
    search rules,
  )
]
