use Rattle.std.proofs.Common.{sym, ap, ◌∙◌, arith}
use Rattle.vast_literal.specs.Scan.{is_letter}
use Rattle.vast_read.proofs.scanner.Words.{word_cut, system_front, system_none}
use Rattle.vast_read.proofs.scanner.WordFronts.{system_behind}
use Rattle.vast_read.proofs.scanner.word.system_word.Goals as goal

pub returns-then-not-is_letter : goal.returns-then-not-is_letter
returns-then-not-is_letter c = system_none c.args.text.now c.requires (ap is_letter (sym c.byte_at.ensures) ∙ (sym c.is_letter.ensures ∙ c.if-not-is_letter.true))

pub split_at-requires : goal.split_at-requires
split_at-requires c = word_cut c.args.text.now 2 c.run_end.result c.utf8.text (omega arith) (ap is_letter (sym c.byte_at.ensures) ∙ (sym c.is_letter.ensures ∙ c.if-not-is_letter.false)) c.run_end.ensures.place

pub returns : goal.returns
returns c =
    let front = system_front c.args.text.now c.run_end.result c.requires (ap is_letter (sym c.byte_at.ensures) ∙ (sym c.is_letter.ensures ∙ c.if-not-is_letter.false)) c.run_end.ensures.place in (
      rw (c.split_at.ensures.front, c.split_at.ensures.back) front,
      omega (arith, c.split_at.ensures.back_len),
      rw c.split_at.ensures.back (system_behind c.args.text.now c.run_end.result c.requires (ap is_letter (sym c.byte_at.ensures) ∙ (sym c.is_letter.ensures ∙ c.if-not-is_letter.false)) c.run_end.ensures.place),
    )
