use Rattle.vast_read.proofs.Phrases.{unread_tree}
use Rattle.vast_read.proofs.reader.Reader.tree.Goals as goal

pub returns-in-None : goal.returns-in-None
returns-in-None g c = unread_tree _ c.args.is_target _ _ _ c.in_ok-read.ensures c.in-None.is
