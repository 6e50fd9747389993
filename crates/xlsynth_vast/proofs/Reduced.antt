-- Laws of expressions that are joined, and of files that have more nodes.
use Rattle.std.proofs.Common.{zero, Bool, true, false, not, codes, pos, suc, get_or, drop, add-one, ◌≡◌, ℕ, ◌+◌, ◌<◌, List, [], ◌∷◌, ◌++◌, length, map, All, Some, None, Ok, refl, sym, ap, ◌∙◌, arith, append_assoc, append-nil}
use Rattle.std.specs.Bool.{beq}
use Rattle.vast_literal.specs.Tree.{ExprTree, LiteralTree, UnaryTree, BinaryTree}
use Rattle.vast_literal.specs.declared.operator.BinaryOperator.{BinaryOperator as BinaryOp}
use Rattle.vast_literal.specs.declared.operator.BinaryOperator.TheVariants.{BitwiseOr as BitwiseOrOp}
use Rattle.vast_literal.specs.declared.operator.UnaryOperator.TheVariants.{LogicalNot as LogicalNotOp}
use Rattle.vast_core.specs.declared.handle.Expr.{Expr}
use Rattle.vast_core.specs.Nodes.{Root, ExprRoot}
use Rattle.vast_core.specs.Bench.{Bench, OwnsExpr, tree_of}
use Rattle.vast_core.specs.Growth.{with_root, with_expr, next_expr}
use Rattle.vast_core.proofs.Lists.{slice_get-append, All-head, All-tail, All-implies}
use Rattle.vast_core.proofs.NodeLaws.{Extends, HasExpr-kept, expr_in-kept}
use Rattle.vast_core.proofs.Laws.{next_owned, next_tree}
use Rattle.xlsynth_vast.specs.Expressions.{with_unary, with_binary}
use Rattle.xlsynth_vast.specs.Reductions.{chain, with_nodes, bit_literal, logical_reduction, bitwise_reduction, HasMoreNodes, IsTree, MakesTree}
use Rattle.xlsynth_vast.specs.Internal.Reductions.{MakesChain}

-- Nodes more.

pub more-none : (b : Bench) → HasMoreNodes b b
more-none b = record { more = []; after = ap (λ (roots : List Root). record b { nodes = record { id = b.nodes.id; roots = roots } }) (sym (append-nil b.nodes.roots)) }

pub more-root : (b c : Bench) (r : Root) → HasMoreNodes b c → HasMoreNodes b (with_root c r)
more-root b c r h =
    record {
      more = h.more ++ r ∷ [];
      after = ap (λ (x : Bench). with_root x r) h.after ∙ ap (λ (roots : List Root). record b { nodes = record { id = b.nodes.id; roots = roots } }) (append_assoc b.nodes.roots h.more (r ∷ []));
    }

Extends-more : (b c : Bench) → HasMoreNodes b c → Extends b.nodes c.nodes
Extends-more b c h =
    record {
      same_id = ap (λ (x : Bench). x.nodes.id) h.after;
      same_roots = λ i r k. rw h.after (slice_get-append b.nodes.roots h.more i r k);
    }

pub more_owned : (b c : Bench) → HasMoreNodes b c → (e : Expr) → OwnsExpr b e → OwnsExpr c e
more_owned b c h e k = HasExpr-kept b.nodes c.nodes (Extends-more b c h) e k

pub more_tree : (b c : Bench) → HasMoreNodes b c → (e : Expr) → OwnsExpr b e → tree_of c e ≡ tree_of b e
more_tree b c h e k = expr_in-kept b.nodes c.nodes (Extends-more b c h) e k

pub more_trees : (b c : Bench) → HasMoreNodes b c → (es : List Expr) → All (OwnsExpr b) es → map (tree_of c) es ≡ map (tree_of b) es
more_trees b c h [] k = refl
more_trees b c h (e ∷ es) k =
    rw (more_tree b c h e (All-head (OwnsExpr b) e es k), more_trees b c h es (All-tail (OwnsExpr b) e es k)) refl

pub all-more : (b c : Bench) → HasMoreNodes b c → (es : List Expr) → All (OwnsExpr b) es → All (OwnsExpr c) es
all-more b c h es k = All-implies (more_owned b c h) es k

pub more-more : (b c d : Bench) → HasMoreNodes b c → HasMoreNodes c d → HasMoreNodes b d
more-more b c d h k =
    record {
      more = h.more ++ k.more;
      after = k.after ∙ (ap (λ (x : Bench). with_nodes k.more x) h.after ∙ ap (λ (roots : List Root). record b { nodes = record { id = b.nodes.id; roots = roots } }) (append_assoc b.nodes.roots h.more k.more));
    }

-- Joining what is left to what there is makes what is asked.
pub record Joining (operator : BinaryOp) (start now : Bench) (first whole : Expr) (rest left : List Expr) : Type 0 where
  pub owned : OwnsExpr now whole
  pub same : chain operator (tree_of now whole) (map (tree_of start) left) ≡ chain operator (tree_of start first) (map (tree_of start) rest)
  pub more : HasMoreNodes start now

drop-next : {A : Type 0} (xs : List A) (i : ℕ) (x : A) → i < length xs → x ≡ get_or xs i x → drop i xs ≡ x ∷ drop (suc i) xs
drop-next [] i x below is = absurd (omega arith)
drop-next (y ∷ xs) zero x below is = ap (λ z. z ∷ xs) (sym is)
drop-next (y ∷ xs) (suc i) x below is = drop-next xs i x (omega arith) is

pub All-at : {A : Type 0} (P : A → Type 0) (xs : List A) (i : ℕ) (x : A) → All P xs → i < length xs → x ≡ get_or xs i x → P x
All-at P [] i x h below is = absurd (omega arith)
All-at P (y ∷ xs) zero x h below is = rw is (All-head P y xs h)
All-at P (y ∷ xs) (suc i) x h below is = All-at P xs i x (All-tail P y xs h) (omega arith) is

pub value_owned :
    (operator : BinaryOp) (start now : Bench) (first whole : Expr) (rest left : List Expr) → Joining operator start now first whole rest left →
    (values : List Expr) → All (OwnsExpr start) values → values ≡ first ∷ rest →
    (i : ℕ) (value : Expr) → i < length rest → value ≡ get_or rest i value → OwnsExpr now value
value_owned operator start now first whole rest left j values h split i value below is =
    let owned : All (OwnsExpr start) (first ∷ rest) = rw split at h in
    more_owned start now j.more value (All-at (OwnsExpr start) rest i value (All-tail (OwnsExpr start) first rest owned) below is)

-- A step that joins one value more.
pub joining-step :
    (operator : BinaryOp) (start now after : Bench) (first whole : Expr) (rest : List Expr) (i : ℕ) →
    Joining operator start now first whole rest (drop i rest) →
    (values : List Expr) → All (OwnsExpr start) values → values ≡ first ∷ rest →
    (value : Expr) → i < length rest → value ≡ get_or rest i value →
    (answer : Expr) → (answer ≡ next_expr now) × (after ≡ with_binary operator whole value now) →
    Joining operator start after first answer rest (drop (i + 1) rest)
joining-step operator start now after first whole rest i j values h split value below is answer built =
    let owned : All (OwnsExpr start) (first ∷ rest) = rw split at h in
    let old : OwnsExpr start value = All-at (OwnsExpr start) rest i value (All-tail (OwnsExpr start) first rest owned) below is in
    let tree : tree_of now value ≡ tree_of start value = more_tree start now j.more value old in
    let made : ExprTree = BinaryTree operator (tree_of now whole) (tree_of now value) in
    rw (built.0, built.1) (record {
      owned = next_owned now made;
      same = rw (add-one, next_tree now made, tree) (rw (drop-next rest i value below is) at j.same);
      more = more-root start now (ExprRoot made) j.more;
    })

-- What a helper makes of the joined whole, or of none.

pub joined_inverted :
    (old mid new : Bench) (operator : BinaryOp) (of_none : Bool) (trees : List ExprTree) (whole answer : Expr) →
    MakesChain old mid (Ok (Some whole)) operator trees →
    (answer ≡ next_expr mid) × (new ≡ with_unary LogicalNotOp whole mid) →
    MakesTree old new (Ok answer) (Ok (logical_reduction operator of_none true trees))
joined_inverted old mid new operator of_none [] whole answer j built = absurd cc
joined_inverted old mid new operator of_none (t ∷ ts) whole answer j built =
    let made : ExprTree = UnaryTree LogicalNotOp (tree_of mid whole) in
    rw (built.0, built.1) ((next_owned mid made, rw (← j.0.1) (next_tree mid made)), more-root old mid (ExprRoot made) j.1)

pub joined_plain :
    (old new : Bench) (operator : BinaryOp) (of_none : Bool) (trees : List ExprTree) (whole : Expr) →
    MakesChain old new (Ok (Some whole)) operator trees →
    MakesTree old new (Ok whole) (Ok (logical_reduction operator of_none false trees))
joined_plain old new operator of_none [] whole j = absurd cc
joined_plain old new operator of_none (t ∷ ts) whole j = j

pub joined_bitwise :
    (old new : Bench) (trees : List ExprTree) (whole : Expr) →
    MakesChain old new (Ok (Some whole)) BitwiseOrOp trees →
    MakesTree old new (Ok whole) (Ok (bitwise_reduction trees))
joined_bitwise old new [] whole j = absurd cc
joined_bitwise old new (t ∷ ts) whole j = j

of-none :
    (old mid new : Bench) (made : ExprTree) (answer : Expr) → HasMoreNodes old mid →
    (answer ≡ next_expr mid) × (new ≡ with_expr made mid) →
    IsTree new answer made × HasMoreNodes old new
of-none old mid new made answer more built =
    rw (built.0, built.1) ((next_owned mid made, next_tree mid made), more-root old mid (ExprRoot made) more)

pub none_logical :
    (old mid new : Bench) (operator : BinaryOp) (of_none invert : Bool) (trees : List ExprTree) (bit : Bool) (answer : Expr) →
    bit_literal bit ≡ logical_reduction operator of_none invert [] →
    MakesChain old mid (Ok None) operator trees →
    (answer ≡ next_expr mid) × (new ≡ with_expr (bit_literal bit) mid) →
    MakesTree old new (Ok answer) (Ok (logical_reduction operator of_none invert trees))
none_logical old mid new operator of_none invert [] bit answer is j built = rw (← is) (of-none old mid new (bit_literal bit) answer j.1 built)
none_logical old mid new operator of_none invert (t ∷ ts) bit answer is j built = absurd j.0

pub bit_of_none : (operator : BinaryOp) (of_none invert : Bool) → bit_literal (not (beq of_none invert)) ≡ logical_reduction operator of_none invert []
bit_of_none operator false false = refl
bit_of_none operator false true = refl
bit_of_none operator true false = refl
bit_of_none operator true true = refl

pub none_bitwise :
    (old mid new : Bench) (trees : List ExprTree) (answer : Expr) →
    MakesChain old mid (Ok None) BitwiseOrOp trees →
    (answer ≡ next_expr mid) × (new ≡ with_expr (LiteralTree (codes "'0") (Some (pos 0))) mid) →
    MakesTree old new (Ok answer) (Ok (bitwise_reduction trees))
none_bitwise old mid new [] answer j built = of-none old mid new (LiteralTree (codes "'0") (Some (pos 0))) answer j.1 built
none_bitwise old mid new (t ∷ ts) answer j built = absurd j.0

pub ruleset reductions = (joined_plain, joined_bitwise)

pub ruleset growing = (more-none, more-more)
