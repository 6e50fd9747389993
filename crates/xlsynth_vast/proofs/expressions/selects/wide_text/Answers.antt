use Rattle.std.proofs.Common.{◌≡◌, ◌++◌, codes, ap, ◌∙◌}
use Rattle.std.specs.Fmt.{decimal}
use Rattle.vast_literal.specs.Literal.{literal_of}
use Rattle.xlsynth_vast.proofs.Selectors.{wide_literal, never_refused, spelled_by}
use Rattle.xlsynth_vast.proofs.expressions.selects.wide_text.Goals as goal

pub unreachable-requires : goal.unreachable-requires
unreachable-requires c =
    let text : c.deref.result.now ≡ codes "bits[64]:" ++ decimal c.args.number = c.deref.ensures ∙ c.in_ok-text.ensures.ok in
    never_refused (literal_of c.deref.result.now) _ c.in_default.field-0 (ap literal_of text ∙ wide_literal c.args.number c.ranges.number.fits) c.in_default.ensures.answer

pub returns-clause-text : goal.returns-clause-text
returns-clause-text c =
    let text : c.deref.result.now ≡ codes "bits[64]:" ++ decimal c.args.number = c.deref.ensures ∙ c.in_ok-text.ensures.ok in
    rw (← spelled_by (literal_of c.deref.result.now) _ _ c.in-Ok.ensures.answer (ap literal_of text ∙ wide_literal c.args.number c.ranges.number.fits)) c.format-2.ensures.exact
