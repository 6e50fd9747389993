-- proofs/ast/Ast/admit/Answers.antt
use Rattle.std.proofs.Common.{refl, ap, ◌∙◌}
use Rattle.vast_core.specs.Internal.Containers.{listed_detached, detached_left}
use Rattle.vast_core.specs.Internal.Arrivals.{listing_of, fresh_of}
use Rattle.vast_core.proofs.Admitted.{growth-there, bench-still, sound-still, admitted, bench-grown, sound-grown}
use Rattle.vast_core.proofs.ast.Ast.admit.Goals as goal

pub enter-entered-requires : goal.enter-entered-requires
enter-entered-requires c = growth-there c.args.self.now _ (listing_of c.args.place) (fresh_of c.args.terms c.args.node c.args.block) c.self.view_is c.requires.sound

pub invariant_of-self : goal.invariant_of-self
invariant_of-self c =
    let h = c.in-Err.ensures in
    sound-still c.args.self.now _ _ _ _ _ _ _ _ _ _ _ _ c.self.view_is refl refl h.err_nests h.err_modules h.err_functions h.err_items c.self.invariant

pub returns-in-Err : goal.returns-in-Err
returns-in-Err c =
    let h = c.in-Err.ensures in
    bench-still c.args.self.now _ _ _ _ _ _ _ _ _ _ _ _ c.self.view_is refl refl h.err_nests h.err_modules h.err_functions h.err_items

pub invariant_of-self-2 : goal.invariant_of-self-2
invariant_of-self-2 c =
    let there = growth-there c.args.self.now _ (listing_of c.args.place) (fresh_of c.args.terms c.args.node c.args.block) c.self.view_is c.requires.sound in
    let n = c.settle_node.ensures in
    sound-grown c.args.self.now _ _ (listing_of c.args.place) (fresh_of c.args.terms c.args.node c.args.block) c.self.view_is
    (admitted _ _ (listing_of c.args.place) c.args.terms c.args.node c.args.block _ _ _ _ there refl refl c.settle_terms.ensures n.assignments c.in_default.ensures.nests n.nests c.settle_block.ensures n.ports
    c.in_default.ensures.modules n.modules c.in_default.ensures.functions n.functions n.definitions n.artifacts n.instances n.always_blocks c.in_default.ensures.items
    (c.in_default.ensures.detached ∙ ap (listed_detached (listing_of c.args.place)) (c.detached_left-detached.ensures ∙ ap (λ t. detached_left t c.self.inside.detached) c.takes_detached.ensures)))
    c.self.invariant c.requires.sound

pub returns : goal.returns
returns c =
    let there = growth-there c.args.self.now _ (listing_of c.args.place) (fresh_of c.args.terms c.args.node c.args.block) c.self.view_is c.requires.sound in
    let n = c.settle_node.ensures in (
      refl,
      bench-grown c.args.self.now _ _ (listing_of c.args.place) (fresh_of c.args.terms c.args.node c.args.block) c.self.view_is
          (admitted _ _ (listing_of c.args.place) c.args.terms c.args.node c.args.block _ _ _ _ there refl refl c.settle_terms.ensures n.assignments c.in_default.ensures.nests n.nests c.settle_block.ensures n.ports
          c.in_default.ensures.modules n.modules c.in_default.ensures.functions n.functions n.definitions n.artifacts n.instances n.always_blocks c.in_default.ensures.items
          (c.in_default.ensures.detached ∙ ap (listed_detached (listing_of c.args.place)) (c.detached_left-detached.ensures ∙ ap (λ t. detached_left t c.self.inside.detached) c.takes_detached.ensures))),
    )
