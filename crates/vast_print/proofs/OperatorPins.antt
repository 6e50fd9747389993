-- Worked statements on pairs of operators.
use Rattle.std.proofs.Common.{◌≡◌, List, [], ◌∷◌, map, slice_index_or, Bool, true, All, refl, ap, subst}
use Rattle.std.proofs.lemmas.List.Elements.{All-cons, All-nil}
use Rattle.vast_literal.specs.NormalExpr.{binary_operator_token}
use Rattle.vast_literal.specs.Plain.{is_plain}
use Rattle.vast_literal.specs.WellFormed.{is_well_formed}
use Rattle.vast_literal.specs.Keyword.{is_keyword}
use Rattle.vast_print.specs.Printed.{Printed, wrapped, plain_text, ◌⊕◌}
use Rattle.vast_print.specs.Text.{expr_text}
use Rattle.vast_print.specs.Derived.{DerivesOnly}
use Rattle.vast_print.specs.WorkedOperators.{StandardOperator, standard_operators, written, meant, IsAsStandard, WorkedOperators}
use Rattle.vast_print.proofs.Derivations.{printed-derives}

-- where two functions give a list the same values, they give each element the same
all_equal : {X Y : Type 0} (f g : X → Y) (xs : List X) → map f xs ≡ map g xs → All (λ x. f x ≡ g x) xs
all_equal f g [] e = All-nil (λ x. f x ≡ g x)
all_equal f g (x ∷ xs) e = All-cons (λ x. f x ≡ g x) x xs (cc) (all_equal f g xs (cc))

-- how a pair is printed, and whether it is plain and well formed; and what is wanted of that
outcome : (x y : StandardOperator) → Printed × (Bool × Bool)
outcome x y = (expr_text (meant x y), (is_plain (meant x y), is_well_formed (meant x y)))

wanted : (x y : StandardOperator) → Printed × (Bool × Bool)
wanted x y = (plain_text (written x y), (true, true))

-- computed of each pair
outcomes : map (λ x. map (outcome x) standard_operators) standard_operators ≡ map (λ x. map (wanted x) standard_operators) standard_operators
unfolding outcome wanted standard_operators expr_text binary_operator_token wrapped plain_text ◌⊕◌ is_keyword
outcomes = refl

as_standard : (x y : StandardOperator) → outcome x y ≡ wanted x y → IsAsStandard x y
unfolding outcome wanted plain_text
as_standard x y e =
    let text : (expr_text (meant x y)).text ≡ written x y = ap (λ (o : Printed × (Bool × Bool)). o.0.text) e in
    record {
      printed = text;
      read = subst (λ w. DerivesOnly w (meant x y)) text (printed-derives (meant x y) (record {
        plain = ap (λ (o : Printed × (Bool × Bool)). o.1.0) e;
        well_formed = ap (λ (o : Printed × (Bool × Bool)). o.1.1) e;
        printed = ap (λ (o : Printed × (Bool × Bool)). o.0.fault) e;
      }));
    }

pub worked_operators : WorkedOperators
worked_operators k d before j c behind =
    let x = slice_index_or standard_operators k d in
    let y = slice_index_or standard_operators j c in
    let row = all_equal (λ u. map (outcome u) standard_operators) (λ u. map (wanted u) standard_operators) standard_operators outcomes k d before in
    as_standard x y (all_equal (outcome x) (wanted x) standard_operators row j c behind)
