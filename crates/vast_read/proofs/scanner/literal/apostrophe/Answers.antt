use Rattle.std.proofs.Common.{◌≡◌, get_or, true, false, refl, sym, ap, ◌∙◌, arith}
use Rattle.vast_literal.specs.Scan.{is_filler}
use Rattle.vast_read.specs.Internal.Scanner.{opens_mark}
use Rattle.vast_read.proofs.scanner.Cuts.{cut_behind}
use Rattle.vast_read.proofs.scanner.Words.{passed_within}
use Rattle.vast_read.proofs.scanner.Literals.{tick_on, based_tick, filler_small, unopened, filler_front, mark_front, tick_none}
use Rattle.vast_read.proofs.scanner.WordFronts.{filler_behind, mark_behind}
use Rattle.vast_read.proofs.scanner.literal.apostrophe.Goals as goal

pub based-requires-clause-tick : goal.based-requires-clause-tick
based-requires-clause-tick c = tick_on c.args.text.now c.requires

pub based-requires-clause-open : goal.based-requires-clause-open
based-requires-clause-open c = (based_tick c.args.text.now 0 (sym c.opens_based.ensures ∙ c.if-opens_based.true)).1

pub split_at-requires : goal.split_at-requires
split_at-requires c =
    let filler : is_filler (get_or c.args.text.now 1 10) ≡ true = ap is_filler (sym c.byte_at-next.ensures) ∙ (sym c.is_filler.ensures ∙ c.if-is_filler.true) in
    let within = passed_within is_filler c.args.text.now 1 refl filler in
    cut_behind c.args.text.now 1 2 c.utf8.text within (filler_small _ filler) refl

pub returns-then-is_filler : goal.returns-then-is_filler
returns-then-is_filler c =
    let apart = unopened c.args.text.now c.requires (sym c.opens_based.ensures ∙ c.if-opens_based.false) in
    let filler : is_filler (get_or c.args.text.now 1 10) ≡ true = ap is_filler (sym c.byte_at-next.ensures) ∙ (sym c.is_filler.ensures ∙ c.if-is_filler.true) in (
      rw (c.split_at.ensures.front, c.split_at.ensures.back) (filler_front c.args.text.now c.requires apart filler),
      omega (arith, c.split_at.ensures.back_len),
      rw c.split_at.ensures.back (filler_behind c.args.text.now c.requires apart filler),
    )

pub returns-then-opens_mark : goal.returns-then-opens_mark
returns-then-opens_mark c =
    let mark : opens_mark (get_or c.args.text.now 1 10) ≡ true = ap opens_mark (sym c.byte_at-next.ensures) ∙ (sym c.opens_mark.ensures ∙ c.if-opens_mark.true) in (
      rw c.split_at-then-opens_mark.ensures.back (mark_front c.args.text.now c.requires mark),
      omega (arith, c.split_at-then-opens_mark.ensures.back_len),
      rw c.split_at-then-opens_mark.ensures.back (mark_behind c.args.text.now c.requires mark),
    )

pub returns-else-opens_mark : goal.returns-else-opens_mark
returns-else-opens_mark c =
    let apart = unopened c.args.text.now c.requires (sym c.opens_based.ensures ∙ c.if-opens_based.false) in
    let filler : is_filler (get_or c.args.text.now 1 10) ≡ false = ap is_filler (sym c.byte_at-next.ensures) ∙ (sym c.is_filler.ensures ∙ c.if-is_filler.false) in
    let mark : opens_mark (get_or c.args.text.now 1 10) ≡ false = ap opens_mark (sym c.byte_at-next.ensures) ∙ (sym c.opens_mark.ensures ∙ c.if-opens_mark.false) in
    tick_none c.args.text.now c.requires apart filler mark
