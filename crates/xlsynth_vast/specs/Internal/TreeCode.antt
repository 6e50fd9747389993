-- A code of expressions and types: the letters of a tree, each after those of its parts, which give the tree back. By it
-- a proof tells what one file holds from what another does; no contract reads it.
use Rattle.std.proofs.Common.{◌≡◌, ℕ, ℤ, Bool, List, [], ◌∷◌, Option, refl, ap, ◌∙◌}
use Rattle.std.specs.Coded.{Coded, code_by, coded_list, codes}
use Rattle.vast_literal.specs.declared.operator.UnaryOperator.{UnaryOperator}
use Rattle.vast_literal.specs.declared.operator.BinaryOperator.{BinaryOperator}
use Rattle.vast_literal.specs.Tree.{ExprTree, TypeTree, MaybeType, MaybeExpr, Exprs, MaybeExprs, NameTree, LiteralTree, StringTree, UnaryTree, BinaryTree, TernaryTree, IndexTree, SliceTree, PartSelectTree, MemberOfTree, ConcatTree, PatternTree, WidthCastTree, TypeCastTree, PosEdgeTree, NegEdgeTree, MacroTree, CallTree, MissingExpr, ScalarTree, VectorTree, IntegerTree, IntTree, ExternalTree, PackageTree, PackedTree, UnpackedTree, MissingType, Untyped, Typed, NoExpr, SomeExpr, NoExprs, MoreExprs, NoArguments, SomeArguments}

-- A node without its parts.
pub data Letter : Type 0 where
  NameLetter : List ℕ → Letter
  LiteralLetter : List ℕ → Option ℤ → Letter
  StringLetter : List ℕ → Letter
  UnaryLetter : UnaryOperator → Letter
  BinaryLetter : BinaryOperator → Letter
  TernaryLetter : Letter
  IndexLetter : Letter
  SliceLetter : Letter
  PartSelectLetter : ℤ → Letter
  MemberOfLetter : List ℕ → Letter
  ConcatLetter : Letter
  PatternLetter : Letter
  WidthCastLetter : Letter
  TypeCastLetter : Letter
  PosEdgeLetter : Letter
  NegEdgeLetter : Letter
  MacroLetter : List ℕ → Letter
  CallLetter : List ℕ → Letter
  MissingExprLetter : Letter
  ScalarLetter : Bool → Letter
  VectorLetter : Option ℤ → Bool → Letter
  IntegerLetter : Bool → Letter
  IntLetter : Bool → Letter
  ExternalLetter : List ℕ → Letter
  PackageLetter : List ℕ → List ℕ → Letter
  PackedLetter : Letter
  UnpackedLetter : Letter
  MissingTypeLetter : Letter
  UntypedLetter : Letter
  TypedLetter : Letter
  NoExprLetter : Letter
  SomeExprLetter : Letter
  NoExprsLetter : Letter
  MoreExprsLetter : Letter
  NoArgumentsLetter : Letter
  SomeArgumentsLetter : Letter

-- A tree that is read, until the node that it is a part of.
pub data Part : Type 0 where
  AnExpr : ExprTree → Part
  AType : TypeTree → Part
  AMaybeType : MaybeType → Part
  AMaybeExpr : MaybeExpr → Part
  SomeExprs : Exprs → Part
  TheArguments : MaybeExprs → Part

-- The letters of a tree, in front of others.
abbrev mutual
  pub spell_expr : ExprTree → List Letter → List Letter
  spell_expr (NameTree name type) ls = spell_maybe_type type (NameLetter name ∷ ls)
  spell_expr (LiteralTree text value) ls = LiteralLetter text value ∷ ls
  spell_expr (StringTree text) ls = StringLetter text ∷ ls
  spell_expr (UnaryTree op operand) ls = spell_expr operand (UnaryLetter op ∷ ls)
  spell_expr (BinaryTree op left right) ls = spell_expr left (spell_expr right (BinaryLetter op ∷ ls))
  spell_expr (TernaryTree condition consequent alternate) ls = spell_expr condition (spell_expr consequent (spell_expr alternate (TernaryLetter ∷ ls)))
  spell_expr (IndexTree subject index) ls = spell_expr subject (spell_expr index (IndexLetter ∷ ls))
  spell_expr (SliceTree subject high low) ls = spell_expr subject (spell_expr high (spell_expr low (SliceLetter ∷ ls)))
  spell_expr (PartSelectTree subject start width) ls = spell_expr subject (spell_expr start (PartSelectLetter width ∷ ls))
  spell_expr (MemberOfTree subject name) ls = spell_expr subject (MemberOfLetter name ∷ ls)
  spell_expr (ConcatTree count parts) ls = spell_maybe_expr count (spell_exprs parts (ConcatLetter ∷ ls))
  spell_expr (PatternTree parts) ls = spell_exprs parts (PatternLetter ∷ ls)
  spell_expr (WidthCastTree width operand) ls = spell_expr width (spell_expr operand (WidthCastLetter ∷ ls))
  spell_expr (TypeCastTree type operand) ls = spell_type type (spell_expr operand (TypeCastLetter ∷ ls))
  spell_expr (PosEdgeTree operand) ls = spell_expr operand (PosEdgeLetter ∷ ls)
  spell_expr (NegEdgeTree operand) ls = spell_expr operand (NegEdgeLetter ∷ ls)
  spell_expr (MacroTree name arguments) ls = spell_arguments arguments (MacroLetter name ∷ ls)
  spell_expr (CallTree name arguments) ls = spell_exprs arguments (CallLetter name ∷ ls)
  spell_expr MissingExpr ls = MissingExprLetter ∷ ls

  pub spell_type : TypeTree → List Letter → List Letter
  spell_type (ScalarTree signed) ls = ScalarLetter signed ∷ ls
  spell_type (VectorTree width value signed) ls = spell_expr width (VectorLetter value signed ∷ ls)
  spell_type (IntegerTree signed) ls = IntegerLetter signed ∷ ls
  spell_type (IntTree signed) ls = IntLetter signed ∷ ls
  spell_type (ExternalTree name) ls = ExternalLetter name ∷ ls
  spell_type (PackageTree package_name name) ls = PackageLetter package_name name ∷ ls
  spell_type (PackedTree element dimensions) ls = spell_type element (spell_exprs dimensions (PackedLetter ∷ ls))
  spell_type (UnpackedTree element dimensions) ls = spell_type element (spell_exprs dimensions (UnpackedLetter ∷ ls))
  spell_type MissingType ls = MissingTypeLetter ∷ ls

  pub spell_maybe_type : MaybeType → List Letter → List Letter
  spell_maybe_type Untyped ls = UntypedLetter ∷ ls
  spell_maybe_type (Typed type) ls = spell_type type (TypedLetter ∷ ls)

  pub spell_maybe_expr : MaybeExpr → List Letter → List Letter
  spell_maybe_expr NoExpr ls = NoExprLetter ∷ ls
  spell_maybe_expr (SomeExpr expr) ls = spell_expr expr (SomeExprLetter ∷ ls)

  pub spell_exprs : Exprs → List Letter → List Letter
  spell_exprs NoExprs ls = NoExprsLetter ∷ ls
  spell_exprs (MoreExprs part parts) ls = spell_expr part (spell_exprs parts (MoreExprsLetter ∷ ls))

  pub spell_arguments : MaybeExprs → List Letter → List Letter
  spell_arguments NoArguments ls = NoArgumentsLetter ∷ ls
  spell_arguments (SomeArguments arguments) ls = spell_exprs arguments (SomeArgumentsLetter ∷ ls)

-- A letter takes the parts of its node, the last of them first.
abbrev pub take_letter : Letter → List Part → List Part
take_letter (NameLetter name) (AMaybeType type ∷ ps) = AnExpr (NameTree name type) ∷ ps
take_letter (LiteralLetter text value) ps = AnExpr (LiteralTree text value) ∷ ps
take_letter (StringLetter text) ps = AnExpr (StringTree text) ∷ ps
take_letter (UnaryLetter op) (AnExpr operand ∷ ps) = AnExpr (UnaryTree op operand) ∷ ps
take_letter (BinaryLetter op) (AnExpr right ∷ AnExpr left ∷ ps) = AnExpr (BinaryTree op left right) ∷ ps
take_letter TernaryLetter (AnExpr alternate ∷ AnExpr consequent ∷ AnExpr condition ∷ ps) = AnExpr (TernaryTree condition consequent alternate) ∷ ps
take_letter IndexLetter (AnExpr index ∷ AnExpr subject ∷ ps) = AnExpr (IndexTree subject index) ∷ ps
take_letter SliceLetter (AnExpr low ∷ AnExpr high ∷ AnExpr subject ∷ ps) = AnExpr (SliceTree subject high low) ∷ ps
take_letter (PartSelectLetter width) (AnExpr start ∷ AnExpr subject ∷ ps) = AnExpr (PartSelectTree subject start width) ∷ ps
take_letter (MemberOfLetter name) (AnExpr subject ∷ ps) = AnExpr (MemberOfTree subject name) ∷ ps
take_letter ConcatLetter (SomeExprs parts ∷ AMaybeExpr count ∷ ps) = AnExpr (ConcatTree count parts) ∷ ps
take_letter PatternLetter (SomeExprs parts ∷ ps) = AnExpr (PatternTree parts) ∷ ps
take_letter WidthCastLetter (AnExpr operand ∷ AnExpr width ∷ ps) = AnExpr (WidthCastTree width operand) ∷ ps
take_letter TypeCastLetter (AnExpr operand ∷ AType type ∷ ps) = AnExpr (TypeCastTree type operand) ∷ ps
take_letter PosEdgeLetter (AnExpr operand ∷ ps) = AnExpr (PosEdgeTree operand) ∷ ps
take_letter NegEdgeLetter (AnExpr operand ∷ ps) = AnExpr (NegEdgeTree operand) ∷ ps
take_letter (MacroLetter name) (TheArguments arguments ∷ ps) = AnExpr (MacroTree name arguments) ∷ ps
take_letter (CallLetter name) (SomeExprs arguments ∷ ps) = AnExpr (CallTree name arguments) ∷ ps
take_letter MissingExprLetter ps = AnExpr MissingExpr ∷ ps
take_letter (ScalarLetter signed) ps = AType (ScalarTree signed) ∷ ps
take_letter (VectorLetter value signed) (AnExpr width ∷ ps) = AType (VectorTree width value signed) ∷ ps
take_letter (IntegerLetter signed) ps = AType (IntegerTree signed) ∷ ps
take_letter (IntLetter signed) ps = AType (IntTree signed) ∷ ps
take_letter (ExternalLetter name) ps = AType (ExternalTree name) ∷ ps
take_letter (PackageLetter package_name name) ps = AType (PackageTree package_name name) ∷ ps
take_letter PackedLetter (SomeExprs dimensions ∷ AType element ∷ ps) = AType (PackedTree element dimensions) ∷ ps
take_letter UnpackedLetter (SomeExprs dimensions ∷ AType element ∷ ps) = AType (UnpackedTree element dimensions) ∷ ps
take_letter MissingTypeLetter ps = AType MissingType ∷ ps
take_letter UntypedLetter ps = AMaybeType Untyped ∷ ps
take_letter TypedLetter (AType type ∷ ps) = AMaybeType (Typed type) ∷ ps
take_letter NoExprLetter ps = AMaybeExpr NoExpr ∷ ps
take_letter SomeExprLetter (AnExpr expr ∷ ps) = AMaybeExpr (SomeExpr expr) ∷ ps
take_letter NoExprsLetter ps = SomeExprs NoExprs ∷ ps
take_letter MoreExprsLetter (SomeExprs parts ∷ AnExpr part ∷ ps) = SomeExprs (MoreExprs part parts) ∷ ps
take_letter NoArgumentsLetter ps = TheArguments NoArguments ∷ ps
take_letter SomeArgumentsLetter (SomeExprs arguments ∷ ps) = TheArguments (SomeArguments arguments) ∷ ps
take_letter _ _ = []

abbrev pub read_letters : List Letter → List Part → List Part
read_letters [] ps = ps
read_letters (l ∷ ls) ps = read_letters ls (take_letter l ps)

-- What is spelled is read.
mutual
  pub expr-read : (t : ExprTree) (ls : List Letter) (ps : List Part) → read_letters (spell_expr t ls) ps ≡ read_letters ls (AnExpr t ∷ ps)
  expr-read (NameTree name type) ls ps = maybe_type-read type (NameLetter name ∷ ls) ps
  expr-read (UnaryTree op operand) ls ps = expr-read operand (UnaryLetter op ∷ ls) ps
  expr-read (BinaryTree op left right) ls ps = expr-read left (spell_expr right (BinaryLetter op ∷ ls)) ps ∙ expr-read right ((BinaryLetter op) ∷ ls) (AnExpr left ∷ ps)
  expr-read (TernaryTree condition consequent alternate) ls ps = expr-read condition (spell_expr consequent (spell_expr alternate (TernaryLetter ∷ ls))) ps ∙ expr-read consequent (spell_expr alternate (TernaryLetter ∷ ls)) (AnExpr condition ∷ ps) ∙ expr-read alternate (TernaryLetter ∷ ls) (AnExpr consequent ∷ AnExpr condition ∷ ps)
  expr-read (IndexTree subject index) ls ps = expr-read subject (spell_expr index (IndexLetter ∷ ls)) ps ∙ expr-read index (IndexLetter ∷ ls) (AnExpr subject ∷ ps)
  expr-read (SliceTree subject high low) ls ps = expr-read subject (spell_expr high (spell_expr low (SliceLetter ∷ ls))) ps ∙ expr-read high (spell_expr low (SliceLetter ∷ ls)) (AnExpr subject ∷ ps) ∙ expr-read low (SliceLetter ∷ ls) (AnExpr high ∷ AnExpr subject ∷ ps)
  expr-read (PartSelectTree subject start width) ls ps = expr-read subject (spell_expr start (PartSelectLetter width ∷ ls)) ps ∙ expr-read start ((PartSelectLetter width) ∷ ls) (AnExpr subject ∷ ps)
  expr-read (MemberOfTree subject name) ls ps = expr-read subject (MemberOfLetter name ∷ ls) ps
  expr-read (ConcatTree count parts) ls ps = maybe_expr-read count (spell_exprs parts (ConcatLetter ∷ ls)) ps ∙ exprs-read parts (ConcatLetter ∷ ls) (AMaybeExpr count ∷ ps)
  expr-read (PatternTree parts) ls ps = exprs-read parts (PatternLetter ∷ ls) ps
  expr-read (WidthCastTree width operand) ls ps = expr-read width (spell_expr operand (WidthCastLetter ∷ ls)) ps ∙ expr-read operand (WidthCastLetter ∷ ls) (AnExpr width ∷ ps)
  expr-read (TypeCastTree type operand) ls ps = type-read type (spell_expr operand (TypeCastLetter ∷ ls)) ps ∙ expr-read operand (TypeCastLetter ∷ ls) (AType type ∷ ps)
  expr-read (PosEdgeTree operand) ls ps = expr-read operand (PosEdgeLetter ∷ ls) ps
  expr-read (NegEdgeTree operand) ls ps = expr-read operand (NegEdgeLetter ∷ ls) ps
  expr-read (MacroTree name arguments) ls ps = arguments-read arguments (MacroLetter name ∷ ls) ps
  expr-read (CallTree name arguments) ls ps = exprs-read arguments (CallLetter name ∷ ls) ps
  expr-read _ ls ps = refl

  pub type-read : (t : TypeTree) (ls : List Letter) (ps : List Part) → read_letters (spell_type t ls) ps ≡ read_letters ls (AType t ∷ ps)
  type-read (VectorTree width value signed) ls ps = expr-read width (VectorLetter value signed ∷ ls) ps
  type-read (PackedTree element dimensions) ls ps = type-read element (spell_exprs dimensions (PackedLetter ∷ ls)) ps ∙ exprs-read dimensions (PackedLetter ∷ ls) (AType element ∷ ps)
  type-read (UnpackedTree element dimensions) ls ps = type-read element (spell_exprs dimensions (UnpackedLetter ∷ ls)) ps ∙ exprs-read dimensions (UnpackedLetter ∷ ls) (AType element ∷ ps)
  type-read _ ls ps = refl

  pub maybe_type-read : (t : MaybeType) (ls : List Letter) (ps : List Part) → read_letters (spell_maybe_type t ls) ps ≡ read_letters ls (AMaybeType t ∷ ps)
  maybe_type-read Untyped ls ps = refl
  maybe_type-read (Typed type) ls ps = type-read type (TypedLetter ∷ ls) ps

  pub maybe_expr-read : (t : MaybeExpr) (ls : List Letter) (ps : List Part) → read_letters (spell_maybe_expr t ls) ps ≡ read_letters ls (AMaybeExpr t ∷ ps)
  maybe_expr-read NoExpr ls ps = refl
  maybe_expr-read (SomeExpr expr) ls ps = expr-read expr (SomeExprLetter ∷ ls) ps

  pub exprs-read : (t : Exprs) (ls : List Letter) (ps : List Part) → read_letters (spell_exprs t ls) ps ≡ read_letters ls (SomeExprs t ∷ ps)
  exprs-read NoExprs ls ps = refl
  exprs-read (MoreExprs part parts) ls ps = expr-read part (spell_exprs parts (MoreExprsLetter ∷ ls)) ps ∙ exprs-read parts (MoreExprsLetter ∷ ls) (AnExpr part ∷ ps)

  pub arguments-read : (t : MaybeExprs) (ls : List Letter) (ps : List Part) → read_letters (spell_arguments t ls) ps ≡ read_letters ls (TheArguments t ∷ ps)
  arguments-read NoArguments ls ps = refl
  arguments-read (SomeArguments arguments) ls ps = exprs-read arguments (SomeArgumentsLetter ∷ ls) ps

abbrev first_expr : List Part → ExprTree
first_expr (AnExpr t ∷ ps) = t
first_expr _ = MissingExpr

abbrev first_type : List Part → TypeTree
first_type (AType t ∷ ps) = t
first_type _ = MissingType

letters_code : Coded (List Letter)
letters_code = coded_list (hlevel codes)

-- The letters of an expression, which give it back: by these a proof tells apart what files hold.
pub expr_code : Coded ExprTree
expr_code = code_by (List Letter) letters_code (λ t. spell_expr t []) (λ ls. first_expr (read_letters ls [])) (λ t. ap first_expr (expr-read t [] []))

-- The same of a type.
pub type_code : Coded TypeTree
type_code = code_by (List Letter) letters_code (λ t. spell_type t []) (λ ls. first_type (read_letters ls [])) (λ t. ap first_type (type-read t [] []))
