-- A text is derived from at most one expression.
use Rattle.std.proofs.Common.{◌≡◌, ℕ, List, subst, sym, ◌∙◌}
use Rattle.std.proofs.lemmas.Option.{same_Some}
use Rattle.vast_literal.specs.Tokens.{Token}
use Rattle.vast_literal.specs.NormalExpr.{NormalExpr}
use Rattle.vast_literal.specs.Grammar.{DerivesExpression, Spells}
use Rattle.vast_expressions.proofs.Uniqueness.{one_expression}
use Rattle.vast_literal.proofs.Longest.{lexes_scan}

pub expression_once : (text : List ℕ) (a b : NormalExpr) → DerivesExpression text a → DerivesExpression text b → a ≡ b
expression_once text a b x y =
    let e : x.parts ≡ y.parts = same_Some _ _ (sym (lexes_scan text x.parts x.lexed) ∙ lexes_scan text y.parts y.lexed) in
    one_expression.same y.parts a b (subst (λ (ts : List Token). Spells 0 ts a) e x.spelled) y.spelled
