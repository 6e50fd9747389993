use Rattle.std.proofs.Common.{refl, arith}
use Rattle.vast_literal.specs.Scan.{is_word_byte}
use Rattle.vast_read.specs.declared.scanner.class.TheConstants.{WORD_BYTES}
use Rattle.vast_read.proofs.scanner.Tables.{agree_below, from_table}
use Rattle.vast_read.proofs.scanner.class.is_word_byte.Goals as goal

pub returns : goal.returns
unfolding agree_below
returns c = from_table WORD_BYTES is_word_byte c.args.byte (omega arith) refl
