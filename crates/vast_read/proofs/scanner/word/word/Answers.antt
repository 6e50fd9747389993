use Rattle.std.proofs.Common.{arith}
use Rattle.vast_read.proofs.scanner.Words.{word_cut, word_front}
use Rattle.vast_read.proofs.scanner.WordFronts.{word_behind}
use Rattle.vast_read.proofs.scanner.word.word.Goals as goal

pub split_at-requires : goal.split_at-requires
split_at-requires c = word_cut c.args.text.now 1 c.run_end-end.result c.utf8.text (omega arith) c.requires c.run_end-end.ensures.place

pub returns : goal.returns
returns c = (
  rw (c.word_token.ensures, c.split_at.ensures.front, c.split_at.ensures.back) (word_front c.args.text.now _ c.requires c.run_end-end.ensures.place),
  omega (arith, c.split_at.ensures.back_len),
  rw c.split_at.ensures.back (word_behind c.args.text.now _ c.requires c.run_end-end.ensures.place),
)
