use Rattle.std.proofs.Common.{◌≡◌, ◌+◌, take, get_or, eqb, false, refl, sym, ap₂, ◌∙◌, arith}
use Rattle.std.proofs.lemmas.Bool.{ne_eqb}
use Rattle.std.proofs.lemmas.List.{get_or_past}
use Rattle.vast_literal.specs.Scan.{InString}
use Rattle.vast_read.specs.Internal.Scanner.{string_part}
use Rattle.vast_read.proofs.scanner.Lexemes.{fails}
use Rattle.vast_read.proofs.scanner.Strings.{other_within, quote_on, part_on, part_none, string_ends}
use Rattle.vast_read.proofs.scanner.WordFronts.{quote_goes, string_behind, part_goes}
use Rattle.vast_read.proofs.scanner.literal.string_end.Goals as goal

pub loop-place-init : goal.loop-place-init
loop-place-init c =
    let some = other_within c.args.text.now 0 (λ e. absurd (omega arith)) in
    (quote_on c.args.text.now c.requires, omega arith, quote_goes c.args.text.now c.requires)

pub returns-then-byte-eq34 : goal.returns-then-byte-eq34
returns-then-byte-eq34 c =
    let quote : get_or c.args.text.now c.loop-place.place 10 ≡ 34 = sym c.byte_at-byte.ensures ∙ c.if-byte-eq34.true in
    string_ends c.args.text.now c.loop-place.place c.loop-place-test.true c.loop-place.invariant.0 (string_behind c.args.text.now c.loop-place.place c.loop-place-test.true c.loop-place.invariant.2 quote) quote

pub returns-then-part-eq0 : goal.returns-then-part-eq0
returns-then-part-eq0 c =
    let text = c.args.text.now in
    let other : eqb (get_or text c.loop-place.place 10) 34 ≡ false = ne_eqb _ _ (λ e. c.if-byte-eq34.false (c.byte_at-byte.ensures ∙ e)) in
    let part : c.string_part-part.result ≡ string_part (get_or text c.loop-place.place 10) (get_or text (c.loop-place.place + 1) 10) = c.string_part-part.ensures ∙ ap₂ string_part c.byte_at-byte.ensures c.byte_at.ensures in
    part_none text c.loop-place.place c.loop-place-test.true c.loop-place.invariant.0 other c.string_part-part.result part c.if-part-eq0.true

pub loop-place-preserved : goal.loop-place-preserved
loop-place-preserved c =
    let text = c.args.text.now in
    let other : eqb (get_or text c.loop-place.place 10) 34 ≡ false = ne_eqb _ _ (λ e. c.if-byte-eq34.false (c.byte_at-byte.ensures ∙ e)) in
    let part : c.string_part-part.result ≡ string_part (get_or text c.loop-place.place 10) (get_or text (c.loop-place.place + 1) 10) = c.string_part-part.ensures ∙ ap₂ string_part c.byte_at-byte.ensures c.byte_at.ensures in
    let on = part_on text c.loop-place.place c.loop-place-test.true c.loop-place.invariant.0 other c.string_part-part.result part (omega arith) in
    (on.0, on.1, part_goes text c.loop-place.place c.loop-place-test.true c.loop-place.invariant.2 other c.string_part-part.result part (omega arith) on.1)

pub returns : goal.returns
returns c = fails (InString (take c.loop-place.place c.args.text.now)) c.args.text.now c.loop-place.place c.loop-place.invariant.0 refl refl (rw (get_or_past c.args.text.now c.loop-place.place 10 c.loop-place-test.false) refl)
