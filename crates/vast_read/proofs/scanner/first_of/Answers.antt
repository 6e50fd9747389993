use Rattle.std.proofs.Common.{rules, ◌≡◌, length, eqb-true, refl, sym, ◌∙◌}
use Rattle.vast_read.specs.Behind.{none_before}
use Rattle.vast_read.proofs.scanner.Fronts.{behind_further}
use Rattle.vast_read.proofs.scanner.Lexemes.{none_left}
use Rattle.vast_read.proofs.scanner.Places.{no_gap}
use Rattle.vast_read.proofs.scanner.first_of.Goals as goal

pub loop-rest-init : goal.loop-rest-init
loop-rest-init c = (refl, none_before, search rules)

pub loop-rest-preserved : goal.loop-rest-preserved
loop-rest-preserved c = (search rules, behind_further c.args.text.now c.loop-rest.rest.now c.in-Gap.behind.now c.loop-rest.invariant.1 c.in-Gap.ensures.front.2, search rules)

pub returns-in-Token-clause-behind : goal.returns-in-Token-clause-behind
returns-in-Token-clause-behind c = behind_further c.args.text.now c.loop-rest.rest.now c.in-Token.behind.now c.loop-rest.invariant.1 c.in-Token.ensures.front.2

pub returns-clause-next : goal.returns-clause-next
returns-clause-next c =
    let done : length c.loop-rest.rest.now ≡ 0 = eqb-true _ 0 (sym c.is_empty.ensures ∙ c.loop-rest-test.false) in
    sym (sym c.loop-rest.invariant.0 ∙ none_left c.loop-rest.rest.now done)

pub returns-in-Token-clause-front : goal.returns-in-Token-clause-front
returns-in-Token-clause-front c = no_gap c.loop-rest.rest.now c.in-Token.ensures.space c.in-Token.ensures.comment

pub returns-in-Unspelled-clause-front : goal.returns-in-Unspelled-clause-front
returns-in-Unspelled-clause-front c = no_gap c.loop-rest.rest.now c.in-Unspelled.ensures.space c.in-Unspelled.ensures.comment
