-- A handle may go to another thread, as its session may.
use denote.Param.Send.{IsSend, owning_send, sendable}
use Rattle.vast_handle.proofs.Kept.{owns_box_keyless}
use Rattle.vast_c.specs.contracts.kept.Kept.{the_row as R}
use Rattle.vast_c.proofs.kept.Kept.TheSendSync.{the_send}
use Rattle.vast_c.specs.contracts.handle.Handle.{the_row, the_type}

pub send : IsSend the_row
send = owning_send the_type (search sendable, (search sendable, tt)) (λ d. owns_box_keyless R the_send d.alloc d.at d.kept) (λ k x w. tt)
