-- proofs/ast/Ast/grow_assignment/Answers.antt
use Rattle.std.proofs.Common.{refl, sym, [], Some}
use Rattle.std.proofs.lemmas.List.{append-nil}
use Rattle.vast_core.specs.Internal.Containers.{Nowhere, fresh_assignment}
use Rattle.vast_core.proofs.Terms.{refused}
use Rattle.vast_core.proofs.Admitted.{bench-still, sound-still, bench-grown, sound-grown, admitted-alone}
use Rattle.vast_core.proofs.ast.Ast.grow_assignment.Goals as goal

pub invariant_of-self : goal.invariant_of-self
invariant_of-self c = sound-still c.args.self.now _ _ _ _ _ _ _ _ _ _ _ _ c.self.view_is refl c.in_err-push.ensures.items refl refl refl refl c.self.invariant

pub returns-in_err-push : goal.returns-in_err-push
returns-in_err-push c =
    refused _ _ c.from_residual.result _ _ c.from_residual.ensures.0 (bench-still c.args.self.now _ _ _ _ _ _ _ _ _ _ _ _ c.self.view_is refl c.in_err-push.ensures.items refl refl refl refl)

pub invariant_of-self-2 : goal.invariant_of-self-2
invariant_of-self-2 c =
    sound-grown c.args.self.now _ _ Nowhere (fresh_assignment c.args.assignment) c.self.view_is
    (admitted-alone _ [] (Some c.args.assignment) _ _ _ _ (sym (append-nil _)) c.in_ok-push.ensures.items) c.self.invariant c.requires

pub returns : goal.returns
returns c = (
  refl,
  bench-grown c.args.self.now _ _ Nowhere (fresh_assignment c.args.assignment) c.self.view_is (admitted-alone _ [] (Some c.args.assignment) _ _ _ _ (sym (append-nil _)) c.in_ok-push.ensures.items),
)
