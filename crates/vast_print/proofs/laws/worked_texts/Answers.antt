use Rattle.vast_print.proofs.Pins.{worked_texts as texts}
use Rattle.vast_print.proofs.PagePins.{worked_pages as pages}
use Rattle.vast_print.proofs.OperatorPins.{worked_operators as operators}
use Rattle.vast_print.proofs.laws.worked_texts.Goals as goal

pub returns : goal.returns
returns c = record { texts = texts; pages = pages; operators = operators }
