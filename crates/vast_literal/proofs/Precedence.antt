-- How tightly the text of an expression binds in the grammar, and that parentheses stand where the grammar needs them.
use Rattle.std.proofs.Common.{◌≡◌, ℕ, suc, ◌<◌, ◌≤◌, List, Bool, true, false, cond, ◌||◌, nat_lt, refl, arith, leb-false}
use Rattle.std.proofs.lemmas.Bool.{ltb-false}
use Rattle.vast_literal.specs.Tokens.{level}
use Rattle.vast_literal.specs.Tree.{BinaryOp, AddOp, ExprTree, LiteralTree, UnaryTree, BinaryTree, TernaryTree}
use Rattle.vast_literal.specs.Shape.{binary_precedence, precedence, starts_with_minus, is_reduction, is_width_cast, is_negative_literal, unary_wraps, left_child_wraps, right_child_wraps, ternary_wraps, select_wraps, highest_index_wraps}
use Rattle.vast_literal.specs.NormalExpr.{binary_operator_token}
use Rattle.vast_literal.proofs.ScanLaws.{or_left, or_right}
use Rattle.vast_literal.proofs.Levels.{level_small}

-- A literal with a minus is a minus and a literal.
abbrev pub literal_level : List ℕ → ℕ
literal_level text = cond (starts_with_minus text) 12 13

abbrev pub spelled_level : ExprTree → ℕ
spelled_level (TernaryTree condition consequent alternate) = 0
spelled_level (BinaryTree op left right) = level (binary_operator_token op)
spelled_level (UnaryTree op operand) = 12
spelled_level (LiteralTree text value) = literal_level text
spelled_level _ = 13

-- The precedence that the layout goes by is the grammar's.
level_same : (op : BinaryOp) → binary_precedence op ≡ level (binary_operator_token op)
unfolding level binary_operator_token
level_same AddOp = refl
level_same _ = refl

pub positive : (op : BinaryOp) → 0 < level (binary_operator_token op)
unfolding level binary_operator_token
positive AddOp = omega arith
positive _ = omega arith

-- A level is at most that of a select.
pub literal_bound : (b : Bool) → cond b 12 13 ≤ 13
literal_bound true = omega arith
literal_bound false = omega arith

literal_least : (b : Bool) → 12 ≤ cond b 12 13
literal_least true = omega arith
literal_least false = omega arith

pub level_bound : (e : ExprTree) → spelled_level e ≤ 13
level_bound (BinaryTree op left right) = let small = level_small (binary_operator_token op) in omega arith
level_bound (TernaryTree condition consequent alternate) = omega arith
level_bound (UnaryTree op operand) = omega arith
level_bound (LiteralTree text value) = literal_bound (starts_with_minus text)
level_bound _ = omega arith

-- But for the minus of a literal, an expression's text binds as tightly as the expression.
at_least : (n : ℕ) (e : ExprTree) → n ≤ 12 → n ≤ precedence e → n ≤ spelled_level e
at_least n (BinaryTree op left right) small h = let same = level_same op in omega arith
at_least n (TernaryTree condition consequent alternate) small h = h
at_least n (UnaryTree op operand) small h = h
at_least n (LiteralTree text value) small h = let least = literal_least (starts_with_minus text) in omega arith
at_least n _ small h = h

-- What stands without parentheses binds tightly enough where it stands.

pub left_bound : (op : BinaryOp) (e : ExprTree) → left_child_wraps op e ≡ false → level (binary_operator_token op) ≤ spelled_level e
left_bound op e h =
    let same = level_same op in
    let small = level_small (binary_operator_token op) in
    let bare = ltb-false (precedence e) (binary_precedence op) (or_left _ (is_reduction e) h) in
    at_least (level (binary_operator_token op)) e (omega arith) (omega arith)

pub right_bound : (op : BinaryOp) (e : ExprTree) → right_child_wraps op e ≡ false → suc (level (binary_operator_token op)) ≤ spelled_level e
right_bound op e h =
    let same = level_same op in
    let small = level_small (binary_operator_token op) in
    let bare = leb-false (precedence e) (binary_precedence op) (or_left _ (is_reduction e) h) in
    at_least (suc (level (binary_operator_token op))) e (omega arith) (omega arith)

pub operand_bound : (e : ExprTree) → unary_wraps e ≡ false → 12 ≤ spelled_level e
operand_bound e h =
    let bare = leb-false (precedence e) 12 (or_left _ (is_width_cast e || is_negative_literal e) h) in
    at_least 12 e (omega arith) (omega arith)

literal_whole : (b : Bool) → b ≡ false → 13 ≤ cond b 12 13
literal_whole true h = absurd (cc h)
literal_whole false h = omega arith

pub subject_bound : (e : ExprTree) → select_wraps e ≡ false → 13 ≤ spelled_level e
subject_bound (LiteralTree text value) h = literal_whole (starts_with_minus text) (or_right (nat_lt 13 13) (starts_with_minus text) h)
subject_bound (BinaryTree op left right) h =
    let same = level_same op in
    let bare = ltb-false (binary_precedence op) 13 (or_left _ false h) in omega arith
subject_bound (TernaryTree condition consequent alternate) h = absurd (cc h)
subject_bound (UnaryTree op operand) h = absurd (cc h)
subject_bound _ h = omega arith

pub ternary_bound : (e : ExprTree) → ternary_wraps e ≡ false → 1 ≤ spelled_level e
ternary_bound (TernaryTree condition consequent alternate) h = absurd (cc h)
ternary_bound (BinaryTree op left right) h = positive op
ternary_bound (LiteralTree text value) h = let least = literal_least (starts_with_minus text) in omega arith
ternary_bound _ h = omega arith

pub highest_index_bound : (e : ExprTree) → highest_index_wraps e ≡ false → 9 ≤ spelled_level e
highest_index_bound e h = let bare = ltb-false (precedence e) 9 h in at_least 9 e (omega arith) (omega arith)
