use Rattle.std.proofs.Common.{◌≡◌, ◌<◌, ℕ, ◌+◌, ◌-◌, false, List, length, get_or, drop, codes, sym, ◌∙◌, ap, arith, rules}
use Rattle.std.proofs.lemmas.List.{get_or_default}
use Rattle.vast_core.specs.declared.handle.Expr.{Expr}
use Rattle.vast_core.specs.Bench.{Bench, tree_of, trees_of}
use Rattle.vast_core.specs.View.{bench}
use Rattle.vast_print.specs.Printed.{Printed, plain_text, ◌⊕◌, wrapped}
use Rattle.vast_print.specs.Text.{expr_text}
use Rattle.vast_print.specs.Internal.Words.{separator}
use Rattle.vast_print.specs.Internal.Pieces.{expr_weight, exprs_weight, pieces_text}
use Rattle.vast_print.proofs.SeparatedLaws.{rest_text}
use Rattle.vast_print.proofs.PieceLaws.{then-assoc, bare-part, list-one, weight-one}
use Rattle.vast_print.proofs.pieces.push_list.Goals as goal

abbrev none : Expr
none = record { id = record { file_id = 0; index = 0 } }

-- a part before the parts that are on the list
list-before : (b : Bench) (ps : List Expr) (i j : ℕ) (x : Expr) (w : Printed) → i < length ps → j ≡ i + 1 → x ≡ get_or ps i x →
    rest_text i (trees_of b (drop i ps)) ⊕ w
    ≡ plain_text (separator i (codes ", ")) ⊕ (wrapped false (expr_text (tree_of b x)) ⊕ (rest_text j (trees_of b (drop j ps)) ⊕ w))
list-before b ps i j x w h e g =
    rw (e, bare-part (expr_text (tree_of b x)))
    (ap (λ v. v ⊕ w) (list-one b ps i x h g)
    ∙ (sym (then-assoc (plain_text (separator i (codes ", "))) (expr_text (tree_of b x) ⊕ rest_text (i + 1) (trees_of b (drop (i + 1) ps))) w)
    ∙ ap (λ v. plain_text (separator i (codes ", ")) ⊕ v) (sym (then-assoc (expr_text (tree_of b x)) (rest_text (i + 1) (trees_of b (drop (i + 1) ps))) w))))

weight-before : (b : Bench) (ps : List Expr) (i j : ℕ) (x : Expr) → i < length ps → j ≡ i + 1 → x ≡ get_or ps i x →
    exprs_weight (trees_of b (drop i ps)) ≡ expr_weight (tree_of b x) + 2 + exprs_weight (trees_of b (drop j ps))
weight-before b ps i j x h e g = rw e (weight-one b ps i x h g)

pub loop-i-preserved : goal.loop-i-preserved
loop-i-preserved c =
    let x : Expr = get_or c.args.parts.now (c.loop-i.i - 1) none in
    let h : c.loop-i.i - 1 < length c.args.parts.now = omega arith in
    let e : c.loop-i.i ≡ c.loop-i.i - 1 + 1 = omega arith in
    let g : x ≡ get_or c.args.parts.now (c.loop-i.i - 1) x = get_or_default c.args.parts.now (c.loop-i.i - 1) none x h in
    record {
      in_range = omega arith;
      text = cc (list-before (bench c.args.ast.now) c.args.parts.now (c.loop-i.i - 1) c.loop-i.i x (pieces_text (bench c.args.ast.now) c.args.work.now.items) h e g, c.in_ok-push_part.ensures.text, c.in_ok-push_plain.ensures.text, c.comma_before.ensures, c.loop-i.invariant.text);
      weight = omega (arith, weight-before (bench c.args.ast.now) c.args.parts.now (c.loop-i.i - 1) c.loop-i.i x h e g, c.in_ok-push_part.ensures.weight, c.in_ok-push_plain.ensures.weight);
      owned = search rules;
    }
