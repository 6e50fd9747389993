-- Beside `specs/Sound.antt`: what private contracts and proofs say, and no public one.
use Rattle.vast_core.specs.Nodes.{no_nodes}
use Rattle.vast_core.specs.Internal.Nodes.{TermsSound}
use Rattle.vast_core.specs.ArenaState.{ArenaState}
use Rattle.vast_core.specs.View.{bench}
use Rattle.vast_core.specs.Sound.{FileSound}

-- Children are older, and what the file's records and lists name is its own.
pub record IsSound (a : ArenaState) : Type 0 where
  pub terms : TermsSound (no_nodes a.id) a.terms
  pub file : FileSound (bench a)
