-- proofs/ast/Ast/push_parameter_member/Answers.antt
use Rattle.std.proofs.Common.{refl, ◌∙◌}
use Rattle.vast_core.specs.Internal.Parameters.{IsDeclaredBy}
use Rattle.vast_core.specs.View.{bench}
use Rattle.vast_core.proofs.EntersScopes.{parameter-enters, parameter-grown}
use Rattle.vast_core.proofs.ast.Ast.push_parameter_member.Goals as goal

pub grow_in-requires : goal.grow_in-requires
grow_in-requires c =
    let d : IsDeclaredBy (bench c.args.self.now) c.args.form (c.in_ok-name.name, c.in_ok-name.data_type) = c.in_ok-name.ensures in
    (parameter-enters (bench c.args.self.now) c.args.scope c.args.local c.args.form c.args.value c.in_ok-name.name c.in_ok-name.data_type c.requires.scope c.requires.form c.requires.value d.1)

pub returns : goal.returns
returns c =
    let d : IsDeclaredBy (bench c.args.self.now) c.args.form (c.in_ok-name.name, c.in_ok-name.data_type) = c.in_ok-name.ensures in (
      rw c.next_term.ensures refl,
      c.in_ok-grow_in.ensures.1 ∙ (parameter-grown (bench c.args.self.now) c.args.scope c.args.local c.args.form c.args.value c.in_ok-name.name c.in_ok-name.data_type d),
    )
