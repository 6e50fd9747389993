use Rattle.std.proofs.Common.{refl, sym, ◌∙◌, arith}
use Rattle.vast_literal.specs.Scan.{is_digit}
use Rattle.vast_read.proofs.scanner.Cuts.{run_cut}
use Rattle.vast_read.proofs.scanner.Words.{digit_small, passed_within}
use Rattle.vast_read.proofs.scanner.Literals.{digits_on, digits_tick, number_front, based_tick}
use Rattle.vast_read.proofs.scanner.WordFronts.{number_behind, digits_taken}
use Rattle.vast_read.proofs.scanner.literal.number.Goals as goal

pub based-requires-clause-tick : goal.based-requires-clause-tick
based-requires-clause-tick c =
    digits_tick c.args.text.now _ (digits_taken c.args.text.now _ c.requires c.run_end-end.ensures.place) (digits_on c.args.text.now _ c.requires c.run_end-end.ensures.place) (based_tick c.args.text.now _ (sym c.opens_based.ensures ∙ c.if-opens_based.true)).0

pub based-requires-clause-open : goal.based-requires-clause-open
based-requires-clause-open c = (based_tick c.args.text.now c.run_end-end.result (sym c.opens_based.ensures ∙ c.if-opens_based.true)).1

pub split_at-requires : goal.split_at-requires
split_at-requires c =
    let within = passed_within is_digit c.args.text.now 0 refl c.requires in
    run_cut is_digit digit_small c.args.text.now 1 c.run_end-end.result c.utf8.text (omega arith) (omega arith) (digit_small _ c.requires) c.run_end-end.ensures.place

pub returns : goal.returns
returns c = (
  rw (c.split_at.ensures.front, c.split_at.ensures.back) (number_front c.args.text.now _ c.requires c.run_end-end.ensures.place (sym c.opens_based.ensures ∙ c.if-opens_based.false)),
  omega (arith, c.split_at.ensures.back_len),
  rw c.split_at.ensures.back (number_behind c.args.text.now _ c.requires c.run_end-end.ensures.place (sym c.opens_based.ensures ∙ c.if-opens_based.false)),
)
