-- What the shape of a tree decides: where parentheses stand, which selects are left out, which dimensions an
-- array has, with which kind something is declared, which arms and calls stand bare, how an always block and a loop begin, and what an import is. The layout, the tokens of its text and the normal form go by these.
use Rattle.std.specs.Prelude.{ℕ, ℤ, pos, Bool, true, false, cond, ◌&&◌, ◌||◌, ◌==◌, List, [], ◌∷◌, ◌++◌, codes, Option, Some, None, nat_lt, nat_le}
use Rattle.vast_literal.specs.Tokens.{Op, LogicOr, LogicAnd, BitOr, BitXor, BitAnd, NotEqual, CaseNotEqual, Equal, CaseEqual, GreaterEqual, Greater, LessEqual, Less, ShiftLeft, ShiftRightSigned, ShiftRight, Plus, Minus, Times, Divide, Modulo, Power, OpenParen, CloseParen, Semicolon, At, DoubleColon, Assign, Key, BeginKey, ForKey, AlwaysCombKey, AlwaysFFKey, AlwaysKey, AlwaysLatchKey, InitialKey, ImportKey, Token, Reserved, Word, Number, Operator, Mark}
use Rattle.vast_literal.specs.Tree.{UnaryOp, NegateOp, BitwiseNotOp, LogicalNotOp}
use Rattle.vast_literal.specs.Tree.{BinaryOp, AddOp, SubOp, MulOp, DivOp, ModOp, PowerOp, BitwiseAndOp, BitwiseOrOp, BitwiseXorOp, ShllOp, ShraOp, ShrlOp, NeOp, CaseNeOp, EqOp, CaseEqOp, GeOp, GtOp, LeOp, LtOp, LogicalAndOp, LogicalOrOp, NeXOp, EqXOp}
use Rattle.vast_literal.specs.Tree.{ExprTree, NameTree, LiteralTree, UnaryTree, BinaryTree, TernaryTree, WidthCastTree, CallTree}
use Rattle.vast_literal.specs.Tree.{TypeTree, ScalarTree, VectorTree, IntegerTree, IntTree, ExternalTree, PackageTree, PackedTree, UnpackedTree, MaybeType, Untyped, Typed, Exprs, NoExprs, MoreExprs}
use Rattle.vast_literal.specs.Tree.{Dialect, VerilogDialect, SystemVerilogDialect, Kind, LogicKind, IntegerKind, IntKind, UserKind}
use Rattle.vast_literal.specs.Tree.{StatementTree, AssignTree, CaseTree, Statements, NoStatements, MoreStatements, Blocking, Nonblocking, CaseWord, CaseZ}
use Rattle.vast_literal.specs.Tree.{AlwaysWord, AlwaysFFWord, AlwaysAtWord, AlwaysCombWord, AlwaysStarWord, AlwaysLatchWord, InitialWord}

-- The token of a binary operator and its precedence: one of a higher precedence binds its operands more tightly (IEEE
-- 1800-2017, table 11-2). The comparisons with x are the case comparisons.
abbrev pub binary_row : BinaryOp → Op × ℕ
binary_row LogicalOrOp = (LogicOr, 1)
binary_row LogicalAndOp = (LogicAnd, 2)
binary_row BitwiseOrOp = (BitOr, 3)
binary_row BitwiseXorOp = (BitXor, 4)
binary_row BitwiseAndOp = (BitAnd, 5)
binary_row NeOp = (NotEqual, 6)
binary_row CaseNeOp = (CaseNotEqual, 6)
binary_row EqOp = (Equal, 6)
binary_row CaseEqOp = (CaseEqual, 6)
binary_row NeXOp = (CaseNotEqual, 6)
binary_row EqXOp = (CaseEqual, 6)
binary_row GeOp = (GreaterEqual, 7)
binary_row GtOp = (Greater, 7)
binary_row LeOp = (LessEqual, 7)
binary_row LtOp = (Less, 7)
binary_row ShllOp = (ShiftLeft, 8)
binary_row ShraOp = (ShiftRightSigned, 8)
binary_row ShrlOp = (ShiftRight, 8)
binary_row AddOp = (Plus, 9)
binary_row SubOp = (Minus, 9)
binary_row MulOp = (Times, 10)
binary_row DivOp = (Divide, 10)
binary_row ModOp = (Modulo, 10)
binary_row PowerOp = (Power, 11)

abbrev pub binary_precedence : BinaryOp → ℕ
binary_precedence op = (binary_row op).1

-- The ternary is lowest; what has no operator of its own is highest.
abbrev pub precedence : ExprTree → ℕ
precedence (TernaryTree c l r) = 0
precedence (BinaryTree o l r) = binary_precedence o
precedence (UnaryTree o e) = 12
precedence _ = 13

abbrev pub is_reduction_operator : UnaryOp → Bool
is_reduction_operator op = elim op [ NegateOp ↦ false | BitwiseNotOp ↦ false | LogicalNotOp ↦ false | _ ↦ true ]

abbrev pub is_reduction : ExprTree → Bool
is_reduction (UnaryTree o e) = is_reduction_operator o
is_reduction _ = false

abbrev pub is_width_cast : ExprTree → Bool
is_width_cast (WidthCastTree w e) = true
is_width_cast _ = false

abbrev pub starts_with_minus : List ℕ → Bool
starts_with_minus [] = false
starts_with_minus (c ∷ w) = c == 45

abbrev pub is_negative_literal : ExprTree → Bool
is_negative_literal (LiteralTree text value) = starts_with_minus text
is_negative_literal _ = false

abbrev pub is_scalar_type : TypeTree → Bool
is_scalar_type (ScalarTree signed) = true
is_scalar_type _ = false

abbrev pub is_typed_scalar : MaybeType → Bool
is_typed_scalar Untyped = false
is_typed_scalar (Typed t) = is_scalar_type t

-- A name that carries a scalar type.
abbrev pub is_scalar_name : ExprTree → Bool
is_scalar_name (NameTree name type) = is_typed_scalar type
is_scalar_name _ = false

-- A literal's value, where that is known.
abbrev pub literal_value : ExprTree → Option ℤ
literal_value (LiteralTree text value) = value
literal_value _ = None

abbrev pub is_zero_number : ℤ → Bool
is_zero_number (pos n) = n == 0
is_zero_number _ = false

abbrev pub is_zero_value : Option ℤ → Bool
is_zero_value None = false
is_zero_value (Some v) = is_zero_number v

-- A literal of value zero.
abbrev pub is_zero : ExprTree → Bool
is_zero (LiteralTree text value) = is_zero_value value
is_zero _ = false

-- An index of a scalar name by 0, and a slice of one from 0 to 0, stand for the name.
abbrev pub is_elided_index : (subject index : ExprTree) → Bool
is_elided_index subject index = is_scalar_name subject && is_zero index

abbrev pub is_elided_slice : (subject high low : ExprTree) → Bool
is_elided_slice subject high low = is_scalar_name subject && (is_zero high && is_zero low)

-- Under a unary operator: what binds no more tightly than a unary, a width cast, a literal with a minus.
abbrev pub unary_wraps : ExprTree → Bool
unary_wraps e = nat_le (precedence e) 12 || (is_width_cast e || is_negative_literal e)

-- To the left of a binary operator: what binds less tightly, a reduction.
abbrev pub left_child_wraps : BinaryOp → ExprTree → Bool
left_child_wraps o e = nat_lt (precedence e) (binary_precedence o) || is_reduction e

-- To the right of a binary operator: what binds no more tightly, a reduction.
abbrev pub right_child_wraps : BinaryOp → ExprTree → Bool
right_child_wraps o e = nat_le (precedence e) (binary_precedence o) || is_reduction e

-- In a ternary: a ternary.
abbrev pub ternary_wraps : ExprTree → Bool
ternary_wraps e = precedence e == 0

-- Before brackets and before a member: whatever has an operator, a literal with a minus.
abbrev pub select_wraps : ExprTree → Bool
select_wraps e = nat_lt (precedence e) 13 || is_negative_literal e

-- Before ` - 1` in a range: what binds less tightly than the minus.
abbrev pub highest_index_wraps : ExprTree → Bool
highest_index_wraps e = nat_lt (precedence e) 9

-- Types.

-- The type within the arrays.
abbrev pub base_of : TypeTree → TypeTree
base_of (PackedTree element dimensions) = base_of element
base_of (UnpackedTree element dimensions) = base_of element
base_of base = base

-- Expressions before others.
abbrev pub joined : (before after : Exprs) → Exprs
joined NoExprs after = after
joined (MoreExprs e es) after = MoreExprs e (joined es after)

-- The dimensions of the arrays around it, packed and unpacked, the outermost array's first.
abbrev pub packed_dimensions : TypeTree → Exprs
packed_dimensions (PackedTree element dimensions) = joined dimensions (packed_dimensions element)
packed_dimensions (UnpackedTree element dimensions) = packed_dimensions element
packed_dimensions _ = NoExprs

abbrev pub unpacked_dimensions : TypeTree → Exprs
unpacked_dimensions (UnpackedTree element dimensions) = joined dimensions (unpacked_dimensions element)
unpacked_dimensions (PackedTree element dimensions) = unpacked_dimensions element
unpacked_dimensions _ = NoExprs

-- A type that is declared elsewhere.
abbrev pub is_external : TypeTree → Bool
is_external type = elim type [ ExternalTree name ↦ true | PackageTree package_name name ↦ true | _ ↦ false ]

-- The kind of a port and of a function's input, which stands before no external type.
abbrev pub port_kind : Kind → TypeTree → Kind
port_kind kind type = cond (is_external (base_of type)) UserKind kind

-- The kind that the type of a header's parameter brings.
abbrev pub base_kind : (base : TypeTree) → Kind
base_kind (ScalarTree signed) = LogicKind
base_kind (VectorTree width value signed) = LogicKind
base_kind (IntegerTree signed) = IntegerKind
base_kind (IntTree signed) = IntKind
base_kind _ = UserKind

-- The kind of a function's result: an integer's own, `logic` in SystemVerilog, none before an external type.
abbrev pub dialect_kind : Dialect → Kind
dialect_kind VerilogDialect = UserKind
dialect_kind SystemVerilogDialect = LogicKind

-- The kind of a function's result: that of its type, or by dialect `reg` or `logic`.
abbrev pub result_kind : Dialect → TypeTree → Kind
result_kind dialect (IntegerTree signed) = IntegerKind
result_kind dialect (IntTree signed) = IntKind
result_kind dialect type = cond (is_external (base_of type)) UserKind (dialect_kind dialect)

-- Statements.

-- One assignment of a procedural block.
abbrev pub is_one_assignment : Statements → Bool
is_one_assignment (MoreStatements (AssignTree Blocking left right) NoStatements) = true
is_one_assignment (MoreStatements (AssignTree Nonblocking left right) NoStatements) = true
is_one_assignment _ = false

-- An arm of a casez that is one assignment stands without `begin` and `end`.
abbrev pub is_bare_arm : CaseWord → Statements → Bool
is_bare_arm CaseZ block = is_one_assignment block
is_bare_arm _ block = false

-- A call without arguments, whose name alone stands as a statement.
abbrev pub name_alone : ExprTree → Option (List ℕ)
name_alone (CallTree name NoExprs) = Some name
name_alone _ = None

-- One casez, which stands without `begin` and `end` as the body of a function.
abbrev pub is_casez : StatementTree → Bool
is_casez (CaseTree unique CaseZ e arms) = true
is_casez _ = false

-- The block is one `casez`, so it stands without `begin` and `end`.
abbrev pub is_one_casez : Statements → Bool
is_one_casez (MoreStatements s NoStatements) = is_casez s
is_one_casez _ = false

-- How an always block begins, and whether a list of what it waits for stands behind that.
abbrev pub always_row : AlwaysWord → List Token × Bool
always_row AlwaysFFWord = (Reserved AlwaysFFKey ∷ Mark At ∷ Mark OpenParen ∷ [], true)
always_row AlwaysAtWord = (Reserved AlwaysKey ∷ Mark At ∷ Mark OpenParen ∷ [], true)
always_row AlwaysCombWord = (Reserved AlwaysCombKey ∷ [], false)
always_row AlwaysStarWord = (Reserved AlwaysKey ∷ Mark At ∷ Operator Times ∷ [], false)
always_row AlwaysLatchWord = (Reserved AlwaysLatchKey ∷ [], false)
always_row InitialWord = (Reserved InitialKey ∷ [], false)

abbrev pub always_words : AlwaysWord → List Token
always_words word = (always_row word).0

abbrev pub has_events : AlwaysWord → Bool
has_events word = (always_row word).1

-- import P :: * ;
abbrev pub import_words : (package_name : List ℕ) → List Token
import_words package_name = Reserved ImportKey ∷ Word package_name ∷ Mark DoubleColon ∷ Operator Times ∷ Mark Semicolon ∷ []

-- i = X ; i < e ; i = i + 1 ), the condition among tokens
abbrev pub counting : (i : List ℕ) (start condition behind : List Token) → List Token
counting i xs cs ts = Word i ∷ (Mark Assign ∷ (xs ++ (Mark Semicolon ∷ (cs ++ (Mark Semicolon ∷ (Word i ∷ (Mark Assign ∷ (Word i ∷ (Operator Plus ∷ (Number (codes "1") ∷ (Mark CloseParen ∷ ts)))))))))))

-- for ( W i = X ; i < e ; i = i + 1 ) begin ..
abbrev pub loop_words : (word : Key) (i : List ℕ) (start condition behind : List Token) → List Token
loop_words word i xs cs ts = Reserved ForKey ∷ (Mark OpenParen ∷ (Reserved word ∷ counting i xs cs (Reserved BeginKey ∷ ts)))
