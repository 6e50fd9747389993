use Rattle.vast_read.proofs.scanner.Keywords.{place_within}
use Rattle.vast_read.proofs.scanner.keyword.place_of.Goals as goal

pub returns-clause-within : goal.returns-clause-within
returns-clause-within c = place_within c.slot_of.result
