use Rattle.std.proofs.Common.{◌≡◌, ℤ, T, w32, to_z, of_z, Some, sym, ap, subst, ◌∙◌}
use Rattle.std.specs.Prelude.{Option, is_none, unwrap_or}
use Rattle.vast_session.specs.Session.{IsSame}
use Rattle.vast_calls.specs.Lines.{lines_of}
use Rattle.vast_c.specs.Seen.{IsSameTree, status_of}
use Rattle.vast_c.specs.declared.kept.Cause.{Cause}
use Rattle.vast_c.specs.declared.kept.Cause.TheVariants.{Memory}
use Rattle.vast_c.proofs.Steps.{left_same, left_tree, made_as}
use Rattle.vast_c.proofs.vast_lines.Goals as goal

pub returns-in-None-clause-made : goal.returns-in-None-clause-made
returns-in-None-clause-made c =
    let made = c.make_lines-made in let cause = made.result.cause in
    made_as IsSameTree c.deref_mut.result.now made.new.self (lines_of c.args.lines.now) made.result.taken cause c.args.handle.now.kept c.put.new.self.kept (c.in-Some.ensures.had ∙ ap Some (sym c.deref_mut.ensures.value)) c.put.ensures (left_tree cause) made.ensures.made

pub returns-in-None-clause-exact : goal.returns-in-None-clause-exact
returns-in-None-clause-exact c = λ _.
    let made = c.make_lines-made in let cause = made.result.cause in
    made_as IsSame c.deref_mut.result.now made.new.self (lines_of c.args.lines.now) made.result.taken cause c.args.handle.now.kept c.put.new.self.kept (c.in-Some.ensures.had ∙ ap Some (sym c.deref_mut.ensures.value)) c.put.ensures
    (left_same cause (λ is. subst T (ap is_none (sym c.in-None.is ∙ is)) tt)) made.ensures.made

pub returns-in-Some-cause-clause-made : goal.returns-in-Some-cause-clause-made
returns-in-Some-cause-clause-made c =
    let made = c.make_lines-made in let cause = made.result.cause in
    made_as IsSameTree c.deref_mut.result.now made.new.self (lines_of c.args.lines.now) made.result.taken cause c.args.handle.now.kept c.put.new.self.kept (c.in-Some.ensures.had ∙ ap Some (sym c.deref_mut.ensures.value)) c.put.ensures (left_tree cause) made.ensures.made

pub returns-in-Some-cause-clause-exact : goal.returns-in-Some-cause-clause-exact
returns-in-Some-cause-clause-exact c = λ other.
    let made = c.make_lines-made in let cause = made.result.cause in
    let memory = λ (is : made.result.cause ≡ Some Memory). c.status.ensures.status ∙ ap status_of (ap (λ (cause : Option Cause). unwrap_or cause Memory) (sym c.in-Some-cause.is ∙ is)) in
    made_as IsSame c.deref_mut.result.now made.new.self (lines_of c.args.lines.now) made.result.taken cause c.args.handle.now.kept c.put.new.self.kept (c.in-Some.ensures.had ∙ ap Some (sym c.deref_mut.ensures.value)) c.put.ensures
    (left_same cause (λ is. other (ap (λ (z : ℤ). to_z w32 (of_z w32 z)) (memory is)))) made.ensures.made
