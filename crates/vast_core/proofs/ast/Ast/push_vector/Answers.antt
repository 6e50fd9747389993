use Rattle.std.proofs.Common.{◌≡◌, ◌∙◌, rules, to_z, of_z, w64, refl}
use Rattle.std.specs.Fmt.{signed_decimal}
use Rattle.vast_literal.proofs.NumberLaws.{signed_text}
use Rattle.vast_core.specs.Growth.{decimal_literal}
use Rattle.vast_core.specs.View.{bench}
use Rattle.vast_core.proofs.Fixed.{second_id, fixed-vector}
use Rattle.vast_core.proofs.ast.Ast.push_vector.Goals as goal

pub returns : goal.returns
returns c =
    let text : c.in_ok-text.text ≡ signed_decimal c.args.bits = search (rules, signed_text) in
    let bits : to_z w64 (of_z w64 c.args.bits) ≡ c.args.bits = search rules in (
      rw (c.second_term.ensures, second_id (bench c.args.self.now) (decimal_literal c.args.bits)) refl,
      c.in_ok-grow_terms.ensures.1 ∙ fixed-vector (bench c.args.self.now) c.args.bits _ c.args.signed _ _ text bits (rw c.next_term.ensures refl),
    )
