use Rattle.std.proofs.Common.{◌≡◌, ◌∙◌, rules, to_z, of_z, w64, refl}
use Rattle.std.specs.Fmt.{signed_decimal}
use Rattle.vast_literal.proofs.NumberLaws.{signed_text}
use Rattle.vast_core.specs.Growth.{decimal_literal}
use Rattle.vast_core.specs.View.{bench}
use Rattle.vast_core.proofs.Fixed.{second_id, fixed-replication}
use Rattle.vast_core.proofs.ast.Ast.push_replication_fixed.Goals as goal

pub returns : goal.returns
returns c =
    let text : c.in_ok-text.text ≡ signed_decimal c.args.count = search (rules, signed_text) in
    let count : to_z w64 (of_z w64 c.args.count) ≡ c.args.count = search rules in (
      rw (c.second_term.ensures, second_id (bench c.args.self.now) (decimal_literal c.args.count)) refl,
      c.in_ok-grow_terms.ensures.1 ∙ fixed-replication (bench c.args.self.now) c.args.count _ _ c.args.parts.now _ _ c.requires text count (search rules) (rw c.next_term.ensures refl),
    )
