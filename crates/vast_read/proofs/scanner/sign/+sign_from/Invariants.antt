use Rattle.std.proofs.Common.{◌-◌, length}
use Rattle.vast_read.proofs.scanner.sign.+sign_from.Given as goal

abbrev pub decreases-sign_from : goal.decreases-sign_from
decreases-sign_from l = length l.text.now - l.place
