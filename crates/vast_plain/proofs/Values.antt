-- Laws of expressions that wait to be looked at.
use Rattle.std.proofs.Common.{◌≡◌, ◌+◌, List, [], ◌∷◌, ◌++◌, Bool, true, false, refl, sym, ◌∙◌, ap, arith}
use Rattle.std.specs.Prelude.{◌&&◌}
use Rattle.std.proofs.lemmas.List.{drop_more, drop_all}
use Rattle.vast_literal.specs.Plain.{is_plain, are_plain}
use Rattle.vast_core.specs.declared.handle.Expr.{Expr}
use Rattle.vast_core.specs.Bench.{Bench, tree_of, trees_of}
use Rattle.vast_plain.specs.Internal.Values.{exprs_weight}
use Rattle.vast_plain.proofs.Tests.{and-true, and-false, and-assoc, and-comm}

-- lists

pub values-append : (b : Bench) (xs ys : List Expr) → are_plain (trees_of b (xs ++ ys)) ≡ (are_plain (trees_of b ys) && are_plain (trees_of b xs))
values-append b [] ys = sym (and-true (are_plain (trees_of b ys)))
values-append b (x ∷ xs) ys =
    ap (λ r. is_plain (tree_of b x) && r) (values-append b xs ys)
    ∙ (sym (and-assoc (is_plain (tree_of b x)) (are_plain (trees_of b ys)) (are_plain (trees_of b xs)))
    ∙ (ap (λ r. r && are_plain (trees_of b xs)) (and-comm (is_plain (tree_of b x)) (are_plain (trees_of b ys)))
    ∙ and-assoc (are_plain (trees_of b ys)) (is_plain (tree_of b x)) (are_plain (trees_of b xs))))

pub weight-append : (b : Bench) (xs ys : List Expr) → exprs_weight (trees_of b (xs ++ ys)) ≡ exprs_weight (trees_of b ys) + exprs_weight (trees_of b xs)
weight-append b [] ys = omega arith
weight-append b (x ∷ xs) ys = omega (arith, weight-append b xs ys)

-- a dimension that begins to wait
pub dimension-waits : (d rest waiting : Bool) → ((d && rest) && waiting) ≡ (rest && (d && waiting))
dimension-waits true rest waiting = refl
dimension-waits false true waiting = refl
dimension-waits false false waiting = refl

pub ruleset dimensions = (dimension-waits, drop_more, drop_all)

pub ruleset waits = (values-append, weight-append)

pub ruleset heads = (values-append, weight-append, and-assoc, and-true, and-false)

pub ruleset wholes = (and-true, and-false)
