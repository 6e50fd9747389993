use Rattle.std.proofs.Common.{refl, [], ◌∷◌, None}
use Rattle.vast_core.specs.declared.node.ExprNode.{ExprNode}
use Rattle.vast_core.specs.ArenaState.{ArenaState}
use Rattle.vast_core.specs.Internal.Nodes.{TermsSound}
use Rattle.vast_core.specs.Internal.Containers.{Nowhere, GrowthSound}
use Rattle.vast_core.specs.Internal.Fresh.{fresh_term}
use Rattle.vast_core.specs.View.{bench}
use Rattle.vast_core.proofs.Terms.{refused}
use Rattle.vast_core.proofs.Admitted.{bench-still, sound-still, bench-grown, sound-grown, admitted-alone}
use Rattle.vast_core.proofs.ast.Ast.grow_term.Goals as goal

one-sound : (a : ArenaState) (node : ExprNode) → TermsSound (bench a).nodes (node ∷ []) → GrowthSound (bench a) Nowhere (fresh_term node)
one-sound a node h =
    record {
      fresh = record { terms = h; assignment = tt; container = tt; port = tt; fresh_module = tt; function = tt; definition = tt; artifact = tt; instance = tt; always_block = tt };
      listing = tt;
      placed = refl;
    }

pub invariant_of-self : goal.invariant_of-self
invariant_of-self c = sound-still c.args.self.now _ _ _ _ _ _ _ _ _ _ _ _ c.self.view_is c.in_err-push.ensures.items refl refl refl refl refl c.self.invariant

pub returns-in_err-push : goal.returns-in_err-push
returns-in_err-push c =
    refused _ _ c.from_residual.result _ _ c.from_residual.ensures.0 (bench-still c.args.self.now _ _ _ _ _ _ _ _ _ _ _ _ c.self.view_is c.in_err-push.ensures.items refl refl refl refl refl)

pub invariant_of-self-2 : goal.invariant_of-self-2
invariant_of-self-2 c =
    sound-grown c.args.self.now _ _ Nowhere (fresh_term c.args.node) c.self.view_is (admitted-alone _ (c.args.node ∷ []) None _ _ _ _ c.in_ok-push.ensures.items refl) c.self.invariant
    (one-sound c.args.self.now c.args.node c.requires)

pub returns : goal.returns
returns c = (refl, bench-grown c.args.self.now _ _ Nowhere (fresh_term c.args.node) c.self.view_is (admitted-alone _ (c.args.node ∷ []) None _ _ _ _ c.in_ok-push.ensures.items refl))
