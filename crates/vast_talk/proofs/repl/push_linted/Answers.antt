use Rattle.std.proofs.Common.{rules, string_bytes}
use Rattle.vast_talk.proofs.Replied.{told_linted}
use Rattle.vast_talk.proofs.repl.push_linted.Goals as goal

pub returns-in_err-given-clause-told : goal.returns-in_err-given-clause-told
returns-in_err-given-clause-told c =
    told_linted c.args.session.now c.take_linted.new.session (string_bytes c.args.text.now) (string_bytes c.args.text.now) c.args.line.now c.args.number c.from_residual-in_err-given.result (search rules) (search rules)
