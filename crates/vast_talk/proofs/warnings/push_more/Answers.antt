use Rattle.std.proofs.Common.{string_bytes, rules}
use Rattle.vast_talk.proofs.Warned.{more_warning}
use Rattle.vast_talk.proofs.warnings.push_more.Goals as goal

pub loop-warning-preserved : goal.loop-warning-preserved
loop-warning-preserved c =
    more_warning c.args.warnings.now (string_bytes c.args.text.now) (string_bytes c.loop-warning.text) (string_bytes c.push.new.self) (string_bytes c.push_warning.new.text) c.loop-warning.warning-index c.warning-item.result (search rules) c.warning-item.is c.loop-warning.invariant (search rules) c.in_ok-push_warning.ensures
