use Rattle.std.proofs.Common.{rules, ◌∙◌, string_bytes}
use Rattle.std.proofs.lemmas.List.{get_or_default}
use Rattle.vast_session.proofs.Replied.{more_port}
use Rattle.vast_session.proofs.reply.push_more_ports.Goals as goal

pub loop-port-preserved : goal.loop-port-preserved
loop-port-preserved c =
    let inside = c.loop-port-test.true in
    more_port c.args.ports.now (string_bytes c.args.text.now) (string_bytes c.loop-port.text) (string_bytes c.push.new.self) _ c.loop-port.port-index c.port-item.result inside
    (c.port-item.is ∙ get_or_default c.args.ports.now c.loop-port.port-index _ _ inside) c.loop-port.invariant (search rules) (search rules)
