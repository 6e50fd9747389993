use Rattle.std.proofs.Common.{◌≡◌, ◌∙◌, rules, to_z, of_z, w64, refl}
use Rattle.vast_core.specs.Growth.{known_literal}
use Rattle.vast_core.specs.View.{bench}
use Rattle.vast_core.proofs.Fixed.{second_id, fixed-index}
use Rattle.vast_core.proofs.ast.Ast.push_index_fixed.Goals as goal

pub returns : goal.returns
returns c =
    let text : c.in_ok-text.text ≡ c.args.text.now = search rules in
    let index : to_z w64 (of_z w64 c.args.index) ≡ c.args.index = search rules in (
      rw (c.second_term.ensures, second_id (bench c.args.self.now) (known_literal c.args.text.now c.args.index)) refl,
      c.in_ok-grow_terms.ensures.1 ∙ fixed-index (bench c.args.self.now) c.args.subject c.args.text.now _ c.args.index _ _ _ c.requires.subject text index (rw c.next_term.ensures refl) c.to_expr.ensures,
    )
