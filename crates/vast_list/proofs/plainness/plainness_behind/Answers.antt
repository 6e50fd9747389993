use Rattle.std.proofs.Common.{ℕ, List, append-nil, subst, sym}
use Rattle.std.proofs.lemmas.List.{get_or_default}
use Rattle.vast_list.specs.Untitled.{HasAnswered}
use Rattle.vast_list.proofs.PlainLists.{found_not_plain, found_plain, taken_next}
use Rattle.vast_list.proofs.plainness.plainness_behind.Goals as goal

pub loop-number-init : goal.loop-number-init
loop-number-init c = λ before h. subst (λ (ls : List (List ℕ)). HasAnswered ls c.args.answering.now) (sym (append-nil before)) h

pub loop-number-preserved : goal.loop-number-preserved
loop-number-preserved c = λ before h.
    let inside = c.loop-number-test.true in
    let lines = c.args.lines.now in
    let i = c.loop-number.number-index in
    taken_next before lines i _ c.loop-number.answering c.take.new.self inside (get_or_default lines i _ _ inside) (c.loop-number.invariant before h) c.in_ok-take.ensures

pub returns-then-is_spoiled : goal.returns-then-is_spoiled
returns-then-is_spoiled c = λ before h.
    let inside = c.loop-number-test.true in
    let lines = c.args.lines.now in
    let i = c.loop-number.number-index in
    found_not_plain before lines i _ c.loop-number.answering c.take.new.self c.not_plain.result inside (get_or_default lines i _ _ inside) (c.loop-number.invariant before h) c.in_ok-take.ensures c.not_plain.ensures

pub returns : goal.returns
returns c = λ before h. found_plain before c.args.lines.now c.loop-number.number-index c.loop-number.answering c.plain.result c.loop-number-test.false (c.loop-number.invariant before h) c.plain.ensures
