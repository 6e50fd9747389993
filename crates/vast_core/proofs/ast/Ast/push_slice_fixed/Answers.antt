use Rattle.std.proofs.Common.{◌≡◌, ◌∙◌, rules, to_z, of_z, w64, refl}
use Rattle.vast_core.specs.Growth.{known_literal}
use Rattle.vast_core.specs.View.{bench}
use Rattle.vast_core.proofs.Fixed.{second_id, third_id, fixed-slice, bounds-owned}
use Rattle.vast_core.proofs.ast.Ast.push_slice_fixed.Goals as goal

pub grow_terms-requires : goal.grow_terms-requires
grow_terms-requires c =
    let high : c.in_ok-high_text.high_text ≡ c.args.high_text.now = search rules in
    let low : c.in_ok-low_text.low_text ≡ c.args.low_text.now = search rules in
    (tt, rw high c.requires.high, (tt, rw low c.requires.low, (bounds-owned (bench c.args.self.now) c.args.subject _ _ _ _ _ c.requires.subject (rw c.next_term.ensures refl) c.to_expr.ensures c.second_term.ensures, tt, tt)))

pub returns : goal.returns
returns c =
    let high : c.in_ok-high_text.high_text ≡ c.args.high_text.now = search rules in
    let low : c.in_ok-low_text.low_text ≡ c.args.low_text.now = search rules in
    let high_value : to_z w64 (of_z w64 c.args.high) ≡ c.args.high = search rules in
    let low_value : to_z w64 (of_z w64 c.args.low) ≡ c.args.low = search rules in (
      rw (c.third_term.ensures, third_id (bench c.args.self.now) (known_literal c.args.high_text.now c.args.high) (known_literal c.args.low_text.now c.args.low)) refl,
      c.in_ok-grow_terms.ensures.1
          ∙ fixed-slice (bench c.args.self.now) c.args.subject c.args.high_text.now _ c.args.high _ c.args.low_text.now _ c.args.low _ _ _ _ c.requires.subject high high_value low low_value (rw c.next_term.ensures refl)
          (rw (c.second_term.ensures, second_id (bench c.args.self.now) (known_literal c.args.high_text.now c.args.high)) refl) c.to_expr.ensures,
    )
