use Rattle.std.proofs.Common.{ℕ, List, rules, string_bytes, subst}
use Rattle.vast_talk.specs.Replies.{IsReply}
use Rattle.vast_replay.proofs.Sessions.{more_replied}
use Rattle.vast_replay.proofs.session.answer_each.Goals as goal

pub loop-preserved : goal.loop-preserved
loop-preserved g c = λ beside.
    let so_far = c.loop.invariant beside in
    let told = c.in_ok-reply.ensures in
    let reply = string_bytes c.in_ok-reply.field-0 in (
      told.beside so_far.0,
      more_replied (g.R.Read.remaining c.args.input.now) c.args.repl.now c.loop.repl c.reply.new.self (g.W.Write.contents c.args.out.now) (g.W.Write.contents c.loop.out) (g.W.Write.contents c.write_through.new.out)
          (g.R.Read.remaining c.loop.input) (g.R.Read.remaining c.read_line.new.input) c.in-Ok-Some.line reply so_far.1 (search rules)
          (record { told = subst (λ (line : List ℕ). IsReply c.loop.repl c.reply.new.self line reply) c.deref.ensures.value (told.reply so_far.0); counted = told.number; lint = told.lint }) (search rules),
    )
