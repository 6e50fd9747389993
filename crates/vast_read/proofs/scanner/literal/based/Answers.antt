use Rattle.std.proofs.Common.{◌≡◌, ◌+◌, ◌-◌, ◌<◌, get_or, true, refl, sym, ap, ◌∙◌, arith}
use Rattle.vast_literal.specs.Scan.{is_based_digit, is_radix}
use Rattle.vast_read.specs.Internal.Scanner.{radix_place}
use Rattle.vast_read.proofs.scanner.Cuts.{run_cut}
use Rattle.vast_read.proofs.scanner.Words.{based_small, passed_within}
use Rattle.vast_read.proofs.scanner.BasedLiterals.{radix_none, digit_none, based_front, based_behind}
use Rattle.vast_read.proofs.scanner.literal.based.Goals as goal

pub returns-then-not-is_radix : goal.returns-then-not-is_radix
returns-then-not-is_radix c =
    let text = c.args.text.now in
    let place : c.radix_place-radix.result ≡ radix_place (get_or text (c.args.tick + 1) 10) c.args.tick = c.radix_place-radix.ensures ∙ ap (λ b. radix_place b c.args.tick) c.byte_at.ensures in
    radix_none text c.args.tick c.requires.tick c.requires.open _ place (ap is_radix (sym c.byte_at-2.ensures) ∙ (sym c.is_radix.ensures ∙ c.if-not-is_radix.true))

pub returns-then-not-is_based_digit : goal.returns-then-not-is_based_digit
returns-then-not-is_based_digit c =
    let text = c.args.text.now in
    let place : c.radix_place-radix.result ≡ radix_place (get_or text (c.args.tick + 1) 10) c.args.tick = c.radix_place-radix.ensures ∙ ap (λ b. radix_place b c.args.tick) c.byte_at.ensures in
    digit_none text c.args.tick c.requires.tick c.requires.open _ place (ap is_radix (sym c.byte_at-2.ensures) ∙ (sym c.is_radix.ensures ∙ c.if-not-is_radix.false))
    (ap is_based_digit (sym c.byte_at-3.ensures) ∙ (sym c.is_based_digit.ensures ∙ c.if-not-is_based_digit.true))

pub split_at-requires : goal.split_at-requires
split_at-requires c =
    let text = c.args.text.now in
    let radix = c.radix_place-radix.result in
    let digit : is_based_digit (get_or text (radix + 1) 10) ≡ true = ap is_based_digit (sym c.byte_at-3.ensures) ∙ (sym c.is_based_digit.ensures ∙ c.if-not-is_based_digit.false) in
    let within = passed_within is_based_digit text (radix + 1) refl digit in
    let small : get_or text (radix + 1) 10 < 128 = based_small _ digit in
    let before : radix + 2 - 1 ≡ radix + 1 = omega arith in
    run_cut is_based_digit based_small text (radix + 2) c.run_end.result c.utf8.text (omega arith) (omega arith) (rw before small) c.run_end.ensures.place

pub returns : goal.returns
returns c =
    let text = c.args.text.now in
    let place : c.radix_place-radix.result ≡ radix_place (get_or text (c.args.tick + 1) 10) c.args.tick = c.radix_place-radix.ensures ∙ ap (λ b. radix_place b c.args.tick) c.byte_at.ensures in
    let radix : is_radix (get_or text c.radix_place-radix.result 10) ≡ true = ap is_radix (sym c.byte_at-2.ensures) ∙ (sym c.is_radix.ensures ∙ c.if-not-is_radix.false) in
    let digit : is_based_digit (get_or text (c.radix_place-radix.result + 1) 10) ≡ true = ap is_based_digit (sym c.byte_at-3.ensures) ∙ (sym c.is_based_digit.ensures ∙ c.if-not-is_based_digit.false) in
    let front = based_front text c.args.tick c.requires.tick c.requires.open _ place c.run_end.result radix digit c.run_end.ensures.place in
    let behind = based_behind text c.args.tick c.requires.tick c.requires.open _ place c.run_end.result radix digit c.run_end.ensures.place in
    (rw (c.split_at.ensures.front, c.split_at.ensures.back) front, omega (arith, c.split_at.ensures.back_len), rw c.split_at.ensures.back behind)
