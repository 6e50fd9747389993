use Rattle.std.proofs.Common.{rules, [], refl, sym, inl, inr, arith, ◌∙◌}
use Rattle.vast_read.specs.Behind.{none_before}
use Rattle.vast_read.proofs.LeftTokens.{one_more, all_before, never_over}
use Rattle.vast_read.proofs.scanner.Fronts.{behind_further}
use Rattle.vast_read.proofs.scanner.Places.{behind_suffix}
use Rattle.vast_read.proofs.place.place_of_left.Goals as goal

pub loop-ahead-init : goal.loop-ahead-init
loop-ahead-init c = (record { front = []; split = refl; count = let e = c.tokens_before-ahead.ensures in omega (arith, e) }, none_before, search rules)

pub loop-ahead-preserved : goal.loop-ahead-preserved
loop-ahead-preserved c = (
  one_more c.args.text.now c.loop-ahead.rest.now c.in-Token.behind.now c.loop-ahead.ahead c.leave_first.new.self _ (search rules) c.leave_first.ensures c.loop-ahead.invariant.0 (_, sym (rw c.in-Token.is at c.first_of.ensures.next)),
  behind_further c.args.text.now c.loop-ahead.rest.now c.in-Token.behind.now c.loop-ahead.invariant.1 (rw c.in-Token.is at c.first_of.ensures.behind),
  search rules,
)

pub place_of-requires : goal.place_of-requires
place_of-requires c = behind_suffix c.args.text.now c.first_of.result.0.now (behind_further c.args.text.now c.loop-ahead.rest.now c.first_of.result.0.now c.loop-ahead.invariant.1 c.first_of.ensures.from)

pub place_of-requires-2 : goal.place_of-requires-2
place_of-requires-2 c = behind_suffix c.args.text.now c.first_of-2.result.0.now (behind_further c.args.text.now c.loop-ahead.rest.now c.first_of-2.result.0.now c.loop-ahead.invariant.1 c.first_of-2.ensures.from)

pub returns-in-Unspelled : goal.returns-in-Unspelled
returns-in-Unspelled c = record {
  left = λ kinds ends f. absurd (never_over c.args.text.now c.loop-ahead.rest.now c.loop-ahead.ahead c.args.left kinds ends f c.loop-ahead.invariant.0 (search rules)
      (elim c.in-Unspelled.is [ inl e ↦ inl (rw e at c.first_of.ensures.next) | inr e ↦ inr (rw e at c.first_of.ensures.next) ]));
  between = rw c.place_of.ensures.rest (behind_further c.args.text.now c.loop-ahead.rest.now c.first_of.result.0.now c.loop-ahead.invariant.1 c.first_of.ensures.from);
  front = rw c.place_of.ensures.rest c.first_of.ensures.front;
  boundary = c.place_of.ensures.boundary;
}

pub returns-clause-left : goal.returns-clause-left
returns-clause-left c = λ kinds ends f. rw c.place_of-2.ensures.rest (c.first_of-2.ensures.tokens ∙ all_before c.args.text.now c.loop-ahead.rest.now c.loop-ahead.ahead c.args.left kinds ends f c.loop-ahead.invariant.0 (search rules))

pub returns-clause-between : goal.returns-clause-between
returns-clause-between c = rw c.place_of-2.ensures.rest (behind_further c.args.text.now c.loop-ahead.rest.now c.first_of-2.result.0.now c.loop-ahead.invariant.1 c.first_of-2.ensures.from)
