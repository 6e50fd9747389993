-- proofs/ast/Ast/grow_named/Answers.antt
use Rattle.std.proofs.Common.{◌≡◌, ◌∷◌, ◌++◌, [], Some, rules, refl}
use Rattle.vast_core.specs.Internal.Containers.{MembersGain, InModule}
use Rattle.vast_core.specs.Internal.Fresh.{fresh_term}
use Rattle.vast_core.proofs.Terms.{refused}
use Rattle.vast_core.proofs.Admitted.{growth-there, bench-still, sound-still, bench-grown, sound-grown, admitted-change}
use Rattle.vast_core.proofs.ast.Ast.grow_named.Goals as goal

pub enter_module-requires : goal.enter_module-requires
enter_module-requires c = growth-there c.args.self.now _ (InModule c.args.owner (MembersGain c.args.member (Some c.args.name.now))) (fresh_term c.args.node) c.self.view_is c.requires

pub invariant_of-self-in_err-enter_module : goal.invariant_of-self-in_err-enter_module
invariant_of-self-in_err-enter_module c = sound-still c.args.self.now _ _ _ _ _ _ _ _ _ _ _ _ c.self.view_is c.reserve.ensures.items refl refl c.in_err-enter_module.ensures.err refl refl c.self.invariant

pub returns-in_err-enter_module : goal.returns-in_err-enter_module
returns-in_err-enter_module c =
    refused _ _ c.from_residual-in_err-enter_module.result _ _ c.from_residual-in_err-enter_module.ensures.0 (bench-still c.args.self.now _ _ _ _ _ _ _ _ _ _ _ _ c.self.view_is c.reserve.ensures.items refl refl c.in_err-enter_module.ensures.err refl refl)

pub invariant_of-self-2 : goal.invariant_of-self-2
invariant_of-self-2 c =
    let there = growth-there c.args.self.now _ (InModule c.args.owner (MembersGain c.args.member (Some c.args.name.now))) (fresh_term c.args.node) c.self.view_is c.requires in
    let terms : c.push.new.self.items ≡ c.self.inside.terms.items ++ c.args.node ∷ [] = search rules in
    sound-grown c.args.self.now _ _ (InModule c.args.owner (MembersGain c.args.member (Some c.args.name.now))) (fresh_term c.args.node) c.self.view_is
    (admitted-change _ c.args.owner (MembersGain c.args.member (Some c.args.name.now)) (c.args.node ∷ []) _ _ _ _ there terms c.in_ok-enter_module.ensures.ok) c.self.invariant c.requires

pub returns : goal.returns
returns c =
    let there = growth-there c.args.self.now _ (InModule c.args.owner (MembersGain c.args.member (Some c.args.name.now))) (fresh_term c.args.node) c.self.view_is c.requires in
    let terms : c.push.new.self.items ≡ c.self.inside.terms.items ++ c.args.node ∷ [] = search rules in (
      refl,
      bench-grown c.args.self.now _ _ (InModule c.args.owner (MembersGain c.args.member (Some c.args.name.now))) (fresh_term c.args.node) c.self.view_is
          (admitted-change _ c.args.owner (MembersGain c.args.member (Some c.args.name.now)) (c.args.node ∷ []) _ _ _ _ there terms c.in_ok-enter_module.ensures.ok),
    )
