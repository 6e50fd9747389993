use Rattle.vast_calls.proofs.Quoted.{escape_result}
use Rattle.vast_calls.proofs.texts.meant.Goals as goal

pub returns-then-c-eq92 : goal.returns-then-c-eq92
returns-then-c-eq92 c = escape_result c.args.rest.now c.args.c c.unescaped.result c.if-c-eq92.true c.unescaped.ensures
