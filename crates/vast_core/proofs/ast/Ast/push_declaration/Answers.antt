-- proofs/ast/Ast/push_declaration/Answers.antt
use Rattle.std.proofs.Common.{◌≡◌, ◌∙◌, rules, refl}
use Rattle.vast_core.specs.View.{bench}
use Rattle.vast_core.proofs.EntersRecords.{declaration-enters-as}
use Rattle.vast_core.proofs.ast.Ast.push_declaration.Goals as goal

pub grow_named-requires : goal.grow_named-requires
grow_named-requires c =
    let own : c.in_ok-member_name.member_name ≡ c.args.name.now = search rules in
    (declaration-enters-as (bench c.args.self.now) c.args.owner c.args.kind c.args.name.now c.in_ok-member_name.member_name c.args.name.now c.in_ok-node_name.node_name c.args.data_type own refl c.requires.owner c.requires.kind c.requires.data_type c.requires.free)

pub returns : goal.returns
returns c =
    let node : c.in_ok-node_name.node_name ≡ c.args.name.now = search rules in
    let own : c.in_ok-member_name.member_name ≡ c.args.name.now = search rules in
    (rw c.next_term.ensures refl, c.in_ok-grow_named.ensures.1 ∙ rw (node, own) refl)
