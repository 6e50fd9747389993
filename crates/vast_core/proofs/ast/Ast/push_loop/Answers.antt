-- proofs/ast/Ast/push_loop/Answers.antt
use Rattle.std.proofs.Common.{◌≡◌, ◌∙◌, rules, refl, string_bytes}
use Rattle.vast_core.specs.Nests.{label_bytes}
use Rattle.vast_core.specs.View.{bench}
use Rattle.vast_core.proofs.EntersScopes.{loop-enters-as, loop-grown}
use Rattle.vast_core.proofs.ast.Ast.push_loop.Goals as goal

pub grow_in-requires : goal.grow_in-requires
grow_in-requires c =
    rw c.in_ok-node.ensures.ok
    (loop-enters-as (bench c.args.self.now) c.args.scope (record { id = c.next_nest.result }) c.in_ok-variable.variable (record { id = c.next_term.result }) (string_bytes c.in_ok-name.name) c.args.start c.args.end
    (label_bytes c.args.label) c.new-2.result.items (rw c.next_nest.ensures.id refl) (rw c.next_term.ensures refl) (rw c.new-2.ensures.items refl) c.requires.scope c.requires.start c.requires.end)

pub returns : goal.returns
returns c =
    let variable : c.in_ok-variable.variable ≡ c.args.name.now = search rules in
    let own : string_bytes c.in_ok-name.name ≡ c.args.name.now = search rules in (
      rw c.next_nest.ensures.id refl,
      (rw c.in_ok-node.ensures.ok at c.in_ok-grow_in.ensures.1)
          ∙ (loop-grown (bench c.args.self.now) c.args.scope (record { id = c.next_nest.result }) c.in_ok-variable.variable c.args.name.now (record { id = c.next_term.result }) (string_bytes c.in_ok-name.name) c.args.start c.args.end
          (label_bytes c.args.label) c.new-2.result.items (rw c.next_nest.ensures.id refl) (rw c.next_term.ensures refl) (rw c.new-2.ensures.items refl) variable own),
    )
