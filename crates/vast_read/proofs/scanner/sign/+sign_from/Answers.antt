use Rattle.std.proofs.Common.{◌≡◌, ◌<◌, get_or, [], ◌∷◌, Some, None, sym, ap, ◌∙◌, subst, arith}
use Rattle.vast_literal.specs.Scan.{keep, give, Pending, grown}
use Rattle.vast_expressions.specs.Internal.Views.{token_view}
use Rattle.vast_read.specs.Internal.Scanner.{growth_step, Reaches}
use Rattle.vast_read.proofs.scanner.Strings.{other_within}
use Rattle.vast_read.proofs.scanner.Signs.{grown_reaches, sign_ends, sign_behind, closed_behind}
use Rattle.vast_read.proofs.scanner.sign.+sign_from.Goals as goal

pub sign_from-requires : goal.sign_from-requires
sign_from-requires t c =
    let text = c.args.text.now in
    let r : Reaches text c.args.place (keep (Pending (token_view c.in-Open.token))) = subst (λ g. Reaches text c.args.place (growth_step g)) c.in-Open.is c.requires.1.1 in
    let e : grown (token_view c.in-Open.token) (get_or text c.args.place 10) ≡ Some (growth_step c.in-Some.longer) = ap (grown (token_view c.in-Open.token)) (sym c.byte_at.ensures) ∙ sym c.in-Some.ensures.growth in
    let large : 32 < get_or text c.args.place 10 = omega (arith, c.in-Some.ensures.byte) in
    let within = other_within text c.args.place (λ b. absurd (omega arith)) in
    (omega arith, grown_reaches text c.args.place (token_view c.in-Open.token) c.in-Some.longer r e large (omega (arith, c.in-Some.ensures.byte)))

pub returns-in-None-clause-front : goal.returns-in-None-clause-front
returns-in-None-clause-front t c =
    let text = c.args.text.now in
    let r : Reaches text c.args.place (keep (Pending (token_view c.in-Open.token))) = subst (λ g. Reaches text c.args.place (growth_step g)) c.in-Open.is c.requires.1.1 in
    let e : grown (token_view c.in-Open.token) (get_or text c.args.place 10) ≡ None = ap (grown (token_view c.in-Open.token)) (sym c.byte_at.ensures) ∙ sym c.in-None.ensures.growth in (
      rw c.range_from-in-None.ensures.value (sign_ends text c.args.place (token_view c.in-Open.token) r e),
      omega (arith, r.moved, r.boundary.0, c.range_from-in-None.ensures.len),
      rw c.range_from-in-None.ensures.value (sign_behind text c.args.place (token_view c.in-Open.token) r e),
    )

pub returns-in-Closed-clause-front : goal.returns-in-Closed-clause-front
returns-in-Closed-clause-front t c =
    let text = c.args.text.now in
    let r : Reaches text c.args.place (give (token_view c.in-Closed.token ∷ [])) = subst (λ g. Reaches text c.args.place (growth_step g)) c.in-Closed.is c.requires.1.1 in
    (rw c.range_from.ensures.value r.scanned, omega (arith, r.moved, r.boundary.0, c.range_from.ensures.len), rw c.range_from.ensures.value (closed_behind text c.args.place (token_view c.in-Closed.token) r))
