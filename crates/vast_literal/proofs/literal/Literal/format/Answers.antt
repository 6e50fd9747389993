use Rattle.std.proofs.Common.{sym, subst, ap, ◌∙◌}
use Rattle.std.proofs.lemmas.Result.{IfOk-weaker}
use Rattle.vast_literal.specs.Spells.{Spells}
use Rattle.vast_literal.proofs.Formats.{spells}
use Rattle.vast_literal.specs.LiteralToken.{is_literal_text}
use Rattle.vast_literal.proofs.TokenTexts.{spelled_literal}
use Rattle.vast_literal.proofs.SpeltOnce.{spells_once}
use Rattle.vast_literal.proofs.literal.Literal.format.Goals as goal

pub returns-clause-spells : goal.returns-clause-spells
returns-clause-spells c =
    let n = c.self.inside.width in
    let v = c.self.inside.value in
    let all = spells c.args.format n v c.self.invariant.positive c.self.invariant.fits c.self.invariant.small in
    rw (← c.self.view_is) (IfOk-weaker c.literal_text.result _ _ (λ t e. subst (Spells c.args.format n v) (sym e) all) c.literal_text.ensures)

pub returns-clause-only : goal.returns-clause-only
returns-clause-only c =
    let n = c.self.inside.width in
    let v = c.self.inside.value in
    let all = spells c.args.format n v c.self.invariant.positive c.self.invariant.fits c.self.invariant.small in
    rw (← c.self.view_is) (IfOk-weaker c.literal_text.result _ _ (λ t e other o. spells_once c.args.format n v other _ o all ∙ sym e) c.literal_text.ensures)

pub returns-clause-token : goal.returns-clause-token
returns-clause-token c =
    let n = c.self.inside.width in
    let v = c.self.inside.value in
    IfOk-weaker c.literal_text.result _ _ (λ t e. ap is_literal_text e ∙ spelled_literal c.args.format n v c.self.invariant.positive c.self.invariant.narrow c.self.invariant.fits c.self.invariant.small) c.literal_text.ensures
