use Rattle.std.proofs.Common.{◌≡◌, ◌∙◌, ◌+◌, ℕ, ℤ, List, [], ◌∷◌, drop, Option, Some, None, refl, ap, add-one, rules}
use Rattle.std.specs.Prelude.{option_map}
use Rattle.std.proofs.Math.Seq.{drop-nil}
use Rattle.vast_literal.specs.Tree.{IndexTree}
use Rattle.vast_core.specs.Bench.{tree_of}
use Rattle.vast_core.specs.View.{bench}
use Rattle.xlsynth_vast.specs.ArrayReduction.{known_dimensions}
use Rattle.xlsynth_vast.proofs.helpers.array_checks.known_type.Goals as goal

-- without n dimensions more, after one

one_more : (n : ℕ) (dimensions : List ℤ) → drop n (drop 1 dimensions) ≡ drop (n + 1) dimensions
one_more n [] = rw add-one (drop-nil n)
one_more n (d ∷ dimensions) = rw add-one refl

known_more : (n : ℕ) (known : Option (List ℤ)) → option_map (drop n) (option_map (drop 1) known) ≡ option_map (drop (n + 1)) known
known_more n None = refl
known_more n (Some dimensions) = ap Some (one_more n dimensions)

pub loop-subject-preserved : goal.loop-subject-preserved
loop-subject-preserved c =
    let named : tree_of (bench c.args.ast.now) c.loop-subject.named ≡ IndexTree (tree_of (bench c.args.ast.now) c.in-Index.subject) (tree_of (bench c.args.ast.now) c.in-Index.field-1) = search rules in
    record {
      owned = search rules;
      below = search rules;
      same = c.loop-subject.invariant.same ∙ (ap (λ t. option_map (drop c.loop-subject.indexes) (known_dimensions t)) named ∙ known_more c.loop-subject.indexes (known_dimensions (tree_of (bench c.args.ast.now) c.in-Index.subject)));
    }
