use Rattle.std.proofs.Common.{arith}
use Rattle.vast_read.proofs.scanner.Signs.{comment_gap, comment_cut, comment_behind}
use Rattle.vast_read.proofs.scanner.sign.comment.Goals as goal

pub range_from-requires : goal.range_from-requires
range_from-requires c some = comment_cut c.args.text.now c.args.place c.run_end-end.result c.run_end-end.ensures.place c.run_end-end.ensures.within

pub returns-clause-front : goal.returns-clause-front
returns-clause-front c = (
  rw c.range_from.ensures.value (comment_gap c.args.text.now c.args.place c.run_end-end.result c.requires c.run_end-end.ensures.place),
  omega (arith, c.requires.moved, c.run_end-end.ensures.place, c.range_from.ensures.len),
  rw c.range_from.ensures.value (comment_behind c.args.text.now c.args.place c.run_end-end.result c.requires c.run_end-end.ensures.place),
)
