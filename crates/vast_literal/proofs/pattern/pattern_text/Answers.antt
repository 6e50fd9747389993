use Rattle.std.proofs.Common.{◌≡◌, [], ◌∷◌, length, true, rules, ap, sym, ◌∙◌, append_assoc}
use Rattle.std.specs.Fmt.{decimal}
use Rattle.vast_literal.specs.LiteralToken.{is_literal_text}
use Rattle.vast_literal.specs.Pattern.{is_pattern}
use Rattle.vast_literal.proofs.TokenTexts.{pattern_literal}
use Rattle.vast_literal.proofs.pattern.pattern_text.Goals as goal

pub returns-clause-token : goal.returns-clause-token
returns-clause-token c =
    let h : is_pattern c.args.bits_msb.now ≡ true = search rules in
    ap is_literal_text (c.in_ok-format.ensures.ok ∙ sym (append_assoc (decimal (length c.args.bits_msb.now)) (39 ∷ 98 ∷ []) c.args.bits_msb.now)) ∙ pattern_literal c.args.bits_msb.now h
