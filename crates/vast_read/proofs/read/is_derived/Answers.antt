use Rattle.vast_read.proofs.TextDecides.{decides}
use Rattle.vast_read.proofs.read.is_derived.Goals as goal

pub returns : goal.returns
returns c = decides c.args.text.now c.is_file.result _ c.new-source.ensures c.is_file.ensures
