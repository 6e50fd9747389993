use Rattle.std.proofs.Common.{rules, string_bytes}
use Rattle.vast_talk.proofs.Replied.{answered}
use Rattle.vast_talk.proofs.repl.push_end.Goals as goal

pub returns : goal.returns
returns c =
    answered (string_bytes c.args.text.now) (string_bytes c.write.new.self) (string_bytes c.push_warnings.new.text) (string_bytes c.push.new.self) c.args.number c.args.warnings.now c.in_ok-write.ensures.bytes c.in_ok-push_warnings.ensures (search rules)
