use Rattle.vast_designs.specs.DesignTexts.{registers_text}
use Rattle.vast_designs.proofs.DesignTexts.{emitted}
use Rattle.vast_designs.proofs.clocked.registers.Goals as goal

pub returns : goal.returns
returns c = emitted c.add_both.new.file registers_text c.emit.result c.in_ok-add_both.ensures c.emit.ensures.text
