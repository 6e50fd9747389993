use Rattle.std.proofs.Common.{sym, ap, ◌∙◌, arith}
use Rattle.vast_literal.specs.Scan.{is_letter}
use Rattle.vast_read.proofs.scanner.Words.{word_cut, macro_front, macro_none}
use Rattle.vast_read.proofs.scanner.WordFronts.{macro_behind}
use Rattle.vast_read.proofs.scanner.word.macro_word.Goals as goal

pub returns-then-not-is_letter : goal.returns-then-not-is_letter
returns-then-not-is_letter c = macro_none c.args.text.now c.requires (ap is_letter (sym c.byte_at.ensures) ∙ (sym c.is_letter.ensures ∙ c.if-not-is_letter.true))

pub range-requires-clause-end_boundary : goal.range-requires-clause-end_boundary
range-requires-clause-end_boundary c = word_cut c.args.text.now 2 c.run_end-end.result c.utf8.text (omega arith) (ap is_letter (sym c.byte_at.ensures) ∙ (sym c.is_letter.ensures ∙ c.if-not-is_letter.false)) c.run_end-end.ensures.place

pub range_from-requires : goal.range_from-requires
range_from-requires c some = word_cut c.args.text.now 2 c.run_end-end.result c.utf8.text (omega arith) (ap is_letter (sym c.byte_at.ensures) ∙ (sym c.is_letter.ensures ∙ c.if-not-is_letter.false)) c.run_end-end.ensures.place

pub returns : goal.returns
returns c =
    let front = macro_front c.args.text.now c.run_end-end.result c.requires (ap is_letter (sym c.byte_at.ensures) ∙ (sym c.is_letter.ensures ∙ c.if-not-is_letter.false)) c.run_end-end.ensures.place in (
      rw (c.range.ensures.value, c.range_from.ensures.value) front,
      omega (arith, c.range_from.ensures.len),
      rw c.range_from.ensures.value (macro_behind c.args.text.now c.run_end-end.result c.requires (ap is_letter (sym c.byte_at.ensures) ∙ (sym c.is_letter.ensures ∙ c.if-not-is_letter.false)) c.run_end-end.ensures.place),
    )
