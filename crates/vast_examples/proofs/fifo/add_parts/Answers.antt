-- Each call keeps what the file had before it, so what it had before the first is kept after the last.
use Rattle.xlsynth_vast.proofs.Kept.{keeps-then}
use Rattle.vast_examples.proofs.fifo.add_parts.Goals as goal

pub returns-in_err-state : goal.returns-in_err-state
returns-in_err-state c = record { kept = keeps-then _ _ _ c.add_ports.ensures.kept c.add_state.ensures.kept }

pub returns : goal.returns
returns c = record { kept = keeps-then _ _ _ c.add_ports.ensures.kept (keeps-then _ _ _ c.add_state.ensures.kept c.fill.ensures.kept) }
