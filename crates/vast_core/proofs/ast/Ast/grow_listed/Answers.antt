-- proofs/ast/Ast/grow_listed/Answers.antt
use Rattle.std.proofs.Common.{None, [], refl, sym}
use Rattle.std.proofs.lemmas.List.{append-nil}
use Rattle.vast_core.specs.Internal.Containers.{MembersGain, InModule, no_fresh}
use Rattle.vast_core.proofs.Terms.{refused}
use Rattle.vast_core.proofs.Admitted.{growth-there, bench-still, sound-still, bench-grown, sound-grown, admitted-change}
use Rattle.vast_core.proofs.ast.Ast.grow_listed.Goals as goal

pub enter_module-requires : goal.enter_module-requires
enter_module-requires c = growth-there c.args.self.now _ (InModule c.args.owner (MembersGain c.args.member None)) no_fresh c.self.view_is c.requires

pub invariant_of-self : goal.invariant_of-self
invariant_of-self c = sound-still c.args.self.now _ _ _ _ _ _ _ _ _ _ _ _ c.self.view_is refl refl refl c.in_err-enter_module.ensures.err refl refl c.self.invariant

pub returns-in_err-enter_module : goal.returns-in_err-enter_module
returns-in_err-enter_module c =
    refused _ _ c.from_residual.result _ _ c.from_residual.ensures.0 (bench-still c.args.self.now _ _ _ _ _ _ _ _ _ _ _ _ c.self.view_is refl refl refl c.in_err-enter_module.ensures.err refl refl)

pub invariant_of-self-2 : goal.invariant_of-self-2
invariant_of-self-2 c =
    let there = growth-there c.args.self.now _ (InModule c.args.owner (MembersGain c.args.member None)) no_fresh c.self.view_is c.requires in
    sound-grown c.args.self.now _ _ (InModule c.args.owner (MembersGain c.args.member None)) no_fresh c.self.view_is
    (admitted-change _ c.args.owner (MembersGain c.args.member None) [] _ _ _ _ there (sym (append-nil _)) c.in_ok-enter_module.ensures.ok) c.self.invariant c.requires

pub returns : goal.returns
returns c =
    let there = growth-there c.args.self.now _ (InModule c.args.owner (MembersGain c.args.member None)) no_fresh c.self.view_is c.requires in (
      refl,
      bench-grown c.args.self.now _ _ (InModule c.args.owner (MembersGain c.args.member None)) no_fresh c.self.view_is
          (admitted-change _ c.args.owner (MembersGain c.args.member None) [] _ _ _ _ there (sym (append-nil _)) c.in_ok-enter_module.ensures.ok),
    )
