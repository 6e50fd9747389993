use Rattle.vast_read.proofs.scanner.LexemePlaces.{part_tokens}
use Rattle.vast_read.proofs.place_laws.places_part_tokens.Goals as goal

pub returns : goal.returns
returns c = part_tokens
