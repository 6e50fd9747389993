use Rattle.std.proofs.Common.{sym}
use Rattle.vast_literal.proofs.Widths.{fitted_plain, plain_fits, signed_fits, modulo_fits}
use Rattle.vast_literal.proofs.literal.value.fit.Goals as goal

pub returns-then-not-negative-clause-value : goal.returns-then-not-negative-clause-value
returns-then-not-negative-clause-value c = fitted_plain c.args.text.now c.args.width c.args.negative c.args.magnitude c.if-not-negative.true (sym c.if-not-fits.ensures) c.ranges.magnitude.fits

pub returns-then-not-negative-clause-fits : goal.returns-then-not-negative-clause-fits
returns-then-not-negative-clause-fits c = plain_fits c.args.width c.args.negative c.args.magnitude c.if-not-negative.true (sym c.if-not-fits.ensures)

pub negated-requires : goal.negated-requires
negated-requires c = signed_fits c.args.width c.args.negative c.args.magnitude (sym c.if-not-fits.ensures)

pub returns-in-Some-clause-fits : goal.returns-in-Some-clause-fits
returns-in-Some-clause-fits c = modulo_fits c.args.width c.args.magnitude c.in-Some.value c.in-Some.ensures.1
