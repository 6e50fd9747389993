use Rattle.vast_read.proofs.scanner.Places.{no_other_rest}
use Rattle.vast_read.proofs.place.place_of.Goals as goal

pub returns-in-None-clause-rest : goal.returns-in-None-clause-rest
returns-in-None-clause-rest c = absurd (no_other_rest _ c.args.text.now c.args.rest.now c.requires c.strip_suffix.result c.in-None.is c.strip_suffix.ensures.cases)
