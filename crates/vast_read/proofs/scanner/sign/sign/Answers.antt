use Rattle.std.proofs.Common.{◌≡◌, ◌<◌, get_or, ap, ◌∙◌, arith}
use Rattle.vast_literal.specs.Scan.{fail, whole_signs, find_sign, start_sign}
use Rattle.vast_read.specs.Internal.Scanner.{growth_step}
use Rattle.vast_read.proofs.scanner.Signs.{growth_no_fail, first_reaches, sign_none}
use Rattle.vast_read.proofs.scanner.sign.sign.Goals as goal

pub sign_from-requires : goal.sign_from-requires
sign_from-requires c =
    let text = c.args.text.now in
    let first : growth_step c.in-Some.growth ≡ start_sign (find_sign whole_signs (get_or text 0 10)) (get_or text 0 10) = c.in-Some.ensures.growth ∙ ap (λ b. start_sign (find_sign whole_signs b) b) c.byte_at.ensures in
    let small : c.byte_at.result < 128 = c.in-Some.ensures.byte in
    first_reaches text (growth_step c.in-Some.growth) (growth_no_fail c.in-Some.growth) c.utf8.text c.requires (omega arith) first

pub returns-in-None-clause-front : goal.returns-in-None-clause-front
returns-in-None-clause-front c =
    let text = c.args.text.now in
    let none : fail ≡ start_sign (find_sign whole_signs (get_or text 0 10)) (get_or text 0 10) = c.in-None.ensures.growth ∙ ap (λ b. start_sign (find_sign whole_signs b) b) c.byte_at.ensures in
    sign_none text c.requires none
