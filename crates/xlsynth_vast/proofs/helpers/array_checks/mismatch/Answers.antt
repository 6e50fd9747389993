use Rattle.std.specs.Fmt.{signed_decimal}
use Rattle.std.proofs.Debugs.{debug_list-Some}
use Rattle.xlsynth_vast.specs.ArrayReduction.{mismatch}
use Rattle.xlsynth_vast.proofs.helpers.array_checks.mismatch.Goals as goal

pub returns : goal.returns
unfolding mismatch
returns c =
    rw (debug_list-Some signed_decimal c.args.known.now, debug_list-Some signed_decimal c.args.given.now) at c.format.ensures.ok
