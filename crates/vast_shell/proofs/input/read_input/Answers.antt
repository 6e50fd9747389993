use Rattle.std.proofs.Common.{rules}
use Rattle.vast_shell.proofs.Given.{given_more}
use Rattle.vast_shell.proofs.input.read_input.Goals as goal

pub returns-in_err-extend_from_slice-in-Ok-clause-some : goal.returns-in_err-extend_from_slice-in-Ok-clause-some
returns-in_err-extend_from_slice-in-Ok-clause-some g c =
    given_more _ _ _ _ _ _ _ c.min-room.result c.loop.invariant.0 c.in-Ok.ensures.bytes.0 c.in-Ok.ensures.bound.1 (search rules) (search rules)
