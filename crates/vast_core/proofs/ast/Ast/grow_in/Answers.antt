-- proofs/ast/Ast/grow_in/Answers.antt
use Rattle.vast_core.specs.Internal.Arrivals.{fresh_of}
use Rattle.vast_core.specs.View.{bench}
use Rattle.vast_core.proofs.EntersScopes.{scope-grown}
use Rattle.vast_core.proofs.Terms.{leaves-same}
use Rattle.vast_core.proofs.ast.Ast.grow_in.Goals as goal

pub grow-requires : goal.grow-requires
grow-requires c = rw c.in_scope.ensures c.requires

pub returns : goal.returns
returns c =
    let grown = scope-grown (bench c.args.self.now) c.args.scope c.args.member (fresh_of c.args.terms c.args.node c.args.block) in
    leaves-same _ _ c.grow.result _ _ _ grown (rw c.in_scope.ensures at c.grow.ensures)
