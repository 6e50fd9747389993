-- proofs/ast/Ast/push_function/Answers.antt
use Rattle.std.proofs.Common.{◌≡◌, [], ◌∷◌, rules, refl, sym, ◌∙◌, string_bytes}
use Rattle.vast_core.specs.Records.{in_byte_order}
use Rattle.vast_core.specs.View.{bench}
use Rattle.vast_core.proofs.EntersMembers.{function-enters-as, function-grown}
use Rattle.vast_core.proofs.ast.Ast.push_function.Goals as goal

pub grow-requires : goal.grow-requires
grow-requires c =
    let named : string_bytes c.in_ok-own_name.own_name ≡ c.args.name.now = search rules in
    let names : in_byte_order c.enter.new.self ≡ string_bytes c.in_ok-own_name.own_name ∷ [] = rw (c.in_ok-enter.ensures.ok, c.new-names.ensures, named) refl in
    (function-enters-as (bench c.args.self.now) c.args.owner (record { id = c.next_function.result }) c.in_ok-variable.variable c.args.name.now (string_bytes c.in_ok-own_name.own_name) c.args.result_type
    (record { id = c.next_term.result }) c.new-2.result.items c.new-3.result.items (record { id = c.next_nest.result }) (in_byte_order c.enter.new.self)
    (rw c.next_function.ensures refl) (rw c.next_term.ensures refl) (rw c.new-2.ensures.items refl) (rw c.new-3.ensures.items refl) (rw c.next_nest.ensures.id refl) names (sym named) c.requires.owner c.requires.result_type (rw named c.requires.free))

pub returns : goal.returns
returns c =
    let variable : c.in_ok-variable.variable ≡ c.args.name.now = search rules in
    let own : string_bytes c.in_ok-own_name.own_name ≡ c.args.name.now = search rules in
    let names : in_byte_order c.enter.new.self ≡ c.args.name.now ∷ [] = rw (c.in_ok-enter.ensures.ok, c.new-names.ensures) refl in (
      rw c.next_function.ensures refl,
      c.in_ok-grow.ensures.1
          ∙ (function-grown (bench c.args.self.now) c.args.owner (record { id = c.next_function.result }) c.in_ok-variable.variable c.args.name.now c.args.name.now (string_bytes c.in_ok-own_name.own_name) c.args.result_type
          (record { id = c.next_term.result }) c.new-2.result.items c.new-3.result.items (record { id = c.next_nest.result }) (in_byte_order c.enter.new.self)
          (rw c.next_function.ensures refl) (rw c.next_term.ensures refl) (rw c.new-2.ensures.items refl) (rw c.new-3.ensures.items refl) (rw c.next_nest.ensures.id refl) names refl own variable),
    )
