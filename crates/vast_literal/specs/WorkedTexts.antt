-- Worked statements, proved in the law `worked_texts`: what the grammar derives from some texts, and the normal forms of some trees.
use Rattle.std.specs.Prelude.{◌≡◌, ℕ, pos, negsuc, List, [], ◌∷◌, true, false, codes, Some, None}
use Rattle.vast_literal.specs.Tokens.{Minus, LessEqual, Power, CasezKey, WireKey}
use Rattle.vast_literal.specs.Tree.{AlwaysCombWord}
use Rattle.vast_literal.specs.NormalExpr.{NormalExpr, Name, Literal, Unary, Binary, Ternary, Index, MemberOf, Concat, Replicated, Cast, NormalExprs, NoNormals, MoreNormals, normal}
use Rattle.vast_literal.specs.NormalFile.{BlockingStatement, NonblockingStatement, CaseStatement, Done, Then, NoLabels, Label, Range, NormalMember, DeclarationPart, AlwaysPart, FunctionPart, NoParts, MoreParts, ModulePart, NormalFile}
use Rattle.vast_literal.specs.Tree.{SubOp, PowerOp, ExprTree, NameTree, LiteralTree, BinaryTree, WidthCastTree, TypeCastTree, TypeTree, VectorTree, ExternalTree, Untyped}
use Rattle.vast_literal.specs.Tree.{SystemVerilogDialect, WireKind, AssignMember, NoMembers, MoreMembers, InputDirection, OutputDirection, ModuleItem, FileTree}
use Rattle.vast_literal.specs.PlainFile.{is_plain_file}
use Rattle.vast_literal.specs.Grammar.{DerivesExpression}
use Rattle.vast_literal.specs.FileGrammar.{DerivesFile}

-- The grammar derives the expression from the text, and no other.
pub record HasOneTree (text : List ℕ) (t : NormalExpr) : Type 0 where
  pub derived : DerivesExpression text t
  pub no_other : (u : NormalExpr) → DerivesExpression text u → u ≡ t

-- The grammar derives no expression from the text.
abbrev pub HasNoTree : List ℕ → Type 0
HasNoTree text = (t : NormalExpr) → DerivesExpression text t → ⊥

-- The grammar derives the file from the text, and no other.
pub record HasOneFile (text : List ℕ) (t : NormalFile) : Type 0 where
  pub derived : DerivesFile text t
  pub no_other : (u : NormalFile) → DerivesFile text u → u ≡ t

-- The grammar derives no file from the text.
abbrev pub HasNoFile : List ℕ → Type 0
HasNoFile text = (t : NormalFile) → DerivesFile text t → ⊥

-- Normal expressions.

-- less
abbrev pub minus : (left right : NormalExpr) → NormalExpr
minus left right = Binary Minus left right

abbrev pub one_part : NormalExpr → NormalExprs
one_part x = MoreNormals x NoNormals

-- Normal files: the module `m` with one member.
abbrev pub module_of : NormalMember → NormalFile
module_of x = record { items = ModulePart (record { name = codes "m"; parameters = []; ports = []; members = MoreParts x NoParts }) ∷ [] }

-- x is given the comparison of a with b
unfoldable pub given_comparison : NormalMember
given_comparison = AlwaysPart AlwaysCombWord [] (Then (NonblockingStatement (Name (codes "x")) (Binary LessEqual (Name (codes "a")) (Name (codes "b")))) Done)

-- an arm whose label is a ternary
unfoldable pub ternary_label : NormalMember
ternary_label = AlwaysPart AlwaysCombWord [] (Then (CaseStatement false CasezKey (Name (codes "s")) (Label (Some (Ternary (Name (codes "a")) (Name (codes "b")) (Name (codes "c")))) (Then (BlockingStatement (Name (codes "x")) (Literal (codes "1"))) Done) NoLabels)) Done)

-- a wire x of two elements of the type t
unfoldable pub typed_wire : NormalMember
typed_wire = DeclarationPart (record { kind = Some WireKey; package_name = None; type_name = Some (codes "t"); sign = None; groups = Range (Literal (codes "1")) (Literal (codes "0")) ∷ []; name = codes "x"; behind = [] })

-- a variable x of the type t
unfoldable pub typed_variable : NormalMember
typed_variable = DeclarationPart (record { kind = None; package_name = None; type_name = Some (codes "t"); sign = None; groups = []; name = codes "x"; behind = [] })

-- an array x of two wires, of no named type
unfoldable pub wire_array : NormalMember
wire_array = DeclarationPart (record { kind = Some WireKey; package_name = None; type_name = None; sign = None; groups = []; name = codes "x"; behind = Range (Literal (codes "0")) (Literal (codes "1")) ∷ [] })

-- a function whose body is one casez
unfoldable pub casez_function : NormalMember
casez_function = FunctionPart (record { kind = None; package_name = None; type_name = None; sign = None; groups = []; name = codes "f"; behind = [] }) [] []
    (Then (CaseStatement false CasezKey (Name (codes "s")) (Label None (Then (BlockingStatement (Name (codes "f")) (Literal (codes "1"))) Done) NoLabels)) Done)

-- Trees.

abbrev pub named : List ℕ → ExprTree
named w = NameTree w Untyped

abbrev pub byte_type : TypeTree
byte_type = VectorTree (LiteralTree (codes "8") (Some (pos 8))) (Some (pos 8)) false

-- The module `passthrough` of the README: a wire of eight bits in, one out, and one assignment.
abbrev pub passthrough_file : FileTree
passthrough_file = record {
  dialect = SystemVerilogDialect;
  items = ModuleItem (record {
    name = codes "passthrough";
    parameters = [];
    ports =
        record { direction = InputDirection; declaration = record { kind = WireKind; type = byte_type; name = codes "input_data" } }
        ∷ record { direction = OutputDirection; declaration = record { kind = WireKind; type = byte_type; name = codes "output_data" } } ∷ [];
    members = MoreMembers (AssignMember (named (codes "output_data")) (named (codes "input_data"))) NoMembers;
  }) ∷ [];
}

-- What the grammar derives from some texts, and the normal forms of some trees.
pub record WorkedTexts : Type 0 where
  -- Parentheses leave nothing behind.
  pub nested_parentheses : HasOneTree (codes "((a))") (Name (codes "a"))
  -- Spaces around an operator may be left out.
  pub no_spaces : HasOneTree (codes "a-b") (minus (Name (codes "a")) (Name (codes "b")))
  -- Two names are no expression.
  pub two_names : HasNoTree (codes "a b")
  -- An operator that stands between two operands alone begins no expression.
  pub two_ands : HasNoTree (codes "&&a")
  -- An operator before a name, and one after an operator between.
  pub negated_name : HasOneTree (codes "- a") (Unary Minus (Name (codes "a")))
  pub minus_minus : HasOneTree (codes "a - - 1") (minus (Name (codes "a")) (Unary Minus (Literal (codes "1"))))
  -- Operators of one level group from the left, unless parentheses say otherwise.
  pub no_group : HasOneTree (codes "a - b - c") (minus (minus (Name (codes "a")) (Name (codes "b"))) (Name (codes "c")))
  pub left_group : HasOneTree (codes "(a - b) - c") (minus (minus (Name (codes "a")) (Name (codes "b"))) (Name (codes "c")))
  pub right_group : HasOneTree (codes "a - (b - c)") (minus (Name (codes "a")) (minus (Name (codes "b")) (Name (codes "c"))))
  -- Ternaries group from the right.
  pub two_choices : HasOneTree (codes "a ? b : c ? d : e") (Ternary (Name (codes "a")) (Name (codes "b")) (Ternary (Name (codes "c")) (Name (codes "d")) (Name (codes "e"))))
  pub grouped_choices : HasOneTree (codes "a ? b : (c ? d : e)") (Ternary (Name (codes "a")) (Name (codes "b")) (Ternary (Name (codes "c")) (Name (codes "d")) (Name (codes "e"))))
  -- A cast by a name has the same tree whether the name is in parentheses or not.
  pub bare_cast : HasOneTree (codes "W'(x)") (Cast (Name (codes "W")) (Name (codes "x")))
  pub wrapped_cast : HasOneTree (codes "(W)'(x)") (Cast (Name (codes "W")) (Name (codes "x")))
  -- A replication is no concatenation in a concatenation.
  pub replication : HasOneTree (codes "{a{b}}") (Replicated (Name (codes "a")) (one_part (Name (codes "b"))))
  pub nested_concatenation : HasOneTree (codes "{a, {b}}") (Concat (MoreNormals (Name (codes "a")) (one_part (Concat (one_part (Name (codes "b")))))))
  -- A dot names a member of all before it, and no member has a number for its name.
  pub member_of_element : HasOneTree (codes "a[1].b.c") (MemberOf (MemberOf (Index (Name (codes "a")) (Literal (codes "1"))) (codes "b")) (codes "c"))
  pub numbered_member : HasNoTree (codes "a.1")
  -- The first arrow assigns, the second compares.
  pub assigned_comparison : HasOneFile (codes "module m; always_comb begin x <= a <= b; end endmodule") (module_of given_comparison)
  -- The first colon is the ternary's, the second the label's.
  pub labelled_by_ternary : HasOneFile (codes "module m; always_comb begin casez (s) a ? b : c: x = 1; endcase end endmodule") (module_of ternary_label)
  -- A name before another is a type; one before brackets is what is declared.
  pub wire_of_type : HasOneFile (codes "module m; wire t [1:0] x; endmodule") (module_of typed_wire)
  pub variable_of_type : HasOneFile (codes "module m; t x; endmodule") (module_of typed_variable)
  pub wire_of_name : HasOneFile (codes "module m; wire x [0:1]; endmodule") (module_of wire_array)
  -- A loop goes on while its name is less than something, and not while a disjunction holds.
  pub no_disjunction : HasNoFile (codes "module m; for (genvar i = 0; i < a || b; i = i + 1) begin end endmodule")
  -- One casez as a function's body has the same tree bare and between `begin` and `end`.
  pub bare_body : HasOneFile (codes "module m; function automatic f (); casez (s) default: f = 1; endcase endfunction endmodule") (module_of casez_function)
  pub block_of_casez : HasOneFile (codes "module m; function automatic f (); begin casez (s) default: f = 1; endcase end endfunction endmodule") (module_of casez_function)
  -- The normal form tells groups apart.
  pub groups_differ :
      normal (BinaryTree SubOp (named (codes "a")) (BinaryTree SubOp (named (codes "b")) (named (codes "c"))))
      ≡ normal (BinaryTree SubOp (BinaryTree SubOp (named (codes "a")) (named (codes "b"))) (named (codes "c"))) → ⊥
  -- A negative literal is a negation: -1 ** a is the power of one.
  pub negated_base : normal (BinaryTree PowerOp (LiteralTree (codes "-1") (Some (negsuc 0))) (named (codes "a"))) ≡ Binary Power (Unary Minus (Literal (codes "1"))) (Name (codes "a"))
  -- A cast to the width W reads as one to a type of that name.
  pub width_or_type : normal (WidthCastTree (named (codes "W")) (named (codes "x"))) ≡ normal (TypeCastTree (ExternalTree (codes "W")) (named (codes "x")))
  -- The module of the README is plain, so that what is proved of plain files holds of it.
  pub passthrough_is_plain : is_plain_file passthrough_file ≡ true
