use Rattle.std.proofs.Common.{◌≡◌, codes, ap}
use Rattle.vast_calls.specs.Lines.{dialect_word, without_return}
use Rattle.vast_talk.specs.Replies.{text_object}
use Rattle.vast_talk.proofs.repl.Repl.open.Goals as goal

pub returns-clause-told : goal.returns-clause-told
returns-clause-told c = λ none.
    let named : without_return c.args.line.now ≡ dialect_word c.in-Ok.dialect = c.in-Ok.ensures.dialect in (
      text_object c.args.self.now.number (codes ",\"dialect\":") c.dialect_word.result.now,
      (
        c.in-Ok.dialect,
        named,
        (c.new.ensures.file, c.new.ensures.answers, c.new.ensures.names, c.new.ensures.skipped),
        ap (text_object c.args.self.now.number (codes ",\"dialect\":")) c.dialect_word.ensures,
      ),
      c.in_ok-push_one.ensures,
    )
