use Rattle.std.proofs.Common.{◌≡◌, ◌++◌, string_bytes, take}
use Rattle.vast_session.specs.Internal.Replies.{more_ports}
use Rattle.vast_session.proofs.reply.push_more_ports.Given as goal

-- The ports so far were appended.
abbrev pub invariant-loop-port : goal.invariant-loop-port
invariant-loop-port l = string_bytes l.text ≡ string_bytes l.fn.text ++ more_ports (take l.port-index l.ports)
