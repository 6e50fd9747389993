use Rattle.std.proofs.Common.{[], ◌∷◌, inl, inr, refl, sym, ap, ◌∙◌, append-nil, List}
use Rattle.vast_literal.specs.Tokens.{Token}
use Rattle.vast_read.specs.Lexed.{unspelled}
use Rattle.vast_read.proofs.scanner.Lexemes.{none_left}
use Rattle.vast_read.proofs.scanner.Places.{behind_suffix}
use Rattle.vast_read.proofs.place.behind_first_token.Goals as goal

pub returns-in-Token-clause-rest : goal.returns-in-Token-clause-rest
returns-in-Token-clause-rest c = behind_suffix c.args.text.now c.in-Token.behind.now (rw c.in-Token.is at c.first_of.ensures.behind)

pub returns-in-Unspelled : goal.returns-in-Unspelled
returns-in-Unspelled c = record {
  behind = elim c.in-Unspelled.is [
    | inl e ↦ inl (unspelled, sym (rw e at c.first_of.ensures.next) ∙ ap (λ (v : List Token). unspelled ∷ v) (sym (none_left [] refl)))
    | inr e ↦ inr (sym (rw e at c.first_of.ensures.next), refl)
  ];
  rest = (c.args.text.now, sym (append-nil c.args.text.now));
}
