-- What the grammar says of printed texts: each plain tree's text derives its normal form, and no other.
use Rattle.std.specs.Prelude.{◌≡◌, ℕ, List, true, None}
use Rattle.vast_literal.specs.Tree.{ExprTree, FileTree}
use Rattle.vast_literal.specs.Plain.{is_plain}
use Rattle.vast_literal.specs.PlainFile.{is_plain_file}
use Rattle.vast_literal.specs.WellFormed.{is_well_formed}
use Rattle.vast_literal.specs.WellFormedFile.{is_well_formed_file}
use Rattle.vast_literal.specs.NormalExpr.{NormalExpr, normal}
use Rattle.vast_literal.specs.NormalFile.{NormalFile}
use Rattle.vast_literal.specs.NormalTree.{normal_file}
use Rattle.vast_literal.specs.Grammar.{DerivesExpression}
use Rattle.vast_literal.specs.FileGrammar.{DerivesFile}
use Rattle.vast_print.specs.Text.{expr_text}
use Rattle.vast_print.specs.Page.{print}
use Rattle.vast_print.specs.Layout.{layout}

-- The text derives the normal form of the expression, and no other tree.
pub record DerivesOnly (text : List ℕ) (e : ExprTree) : Type 0 where
  pub derived : DerivesExpression text (normal e)
  pub no_other : (t : NormalExpr) → DerivesExpression text t → t ≡ normal e

-- That, where the expression is plain.
abbrev pub DerivesIfPlain : List ℕ → ExprTree → Type 0
DerivesIfPlain text e = is_plain e ≡ true → DerivesOnly text e

-- Nothing refuses the expression, it is plain, and its literals and strings are tokens.
pub record PrintsPlainly (e : ExprTree) : Type 0 where
  pub plain : is_plain e ≡ true
  pub well_formed : is_well_formed e ≡ true
  pub printed : (expr_text e).fault ≡ None

-- The text of each such expression derives its normal form, and no other.
abbrev pub PrintedExpressions : Type 0
PrintedExpressions = (e : ExprTree) → PrintsPlainly e → DerivesOnly (expr_text e).text e

-- Two such expressions of equal text have equal normal forms.
abbrev pub EqualTexts : Type 0
EqualTexts = (a b : ExprTree) → PrintsPlainly a → PrintsPlainly b → (expr_text a).text ≡ (expr_text b).text → normal a ≡ normal b

-- The text derives the normal form of the file, and no other tree.
pub record FileDerivesOnly (text : List ℕ) (f : FileTree) : Type 0 where
  pub derived : DerivesFile text (normal_file f)
  pub no_other : (t : NormalFile) → DerivesFile text t → t ≡ normal_file f

-- That, where the file is plain.
abbrev pub FileDerivesIfPlain : List ℕ → FileTree → Type 0
FileDerivesIfPlain text f = is_plain_file f ≡ true → FileDerivesOnly text f

-- Nothing refuses the file, it is plain, and it is well formed, as each file is that was built.
pub record FilePrintsPlainly (f : FileTree) : Type 0 where
  pub plain : is_plain_file f ≡ true
  pub well_formed : is_well_formed_file f ≡ true
  pub printed : (layout f).fault ≡ None

-- The printed layout of each such file derives its normal form, and no other.
abbrev pub PrintedFiles : Type 0
PrintedFiles = (f : FileTree) → FilePrintsPlainly f → FileDerivesOnly (print (layout f)) f

-- Files of equal text have equal normal forms, whatever their dialects.
pub record EqualFiles : Type 0 where
  -- Of trees: both are plain and well formed, and nothing refuses them.
  pub of_trees : (a b : FileTree) → FilePrintsPlainly a → FilePrintsPlainly b → print (layout a) ≡ print (layout b) → normal_file a ≡ normal_file b
  -- Of two files that were printed, where each answer says so much of its text: both are plain.
  pub of_answers : (text : List ℕ) (a b : FileTree) → FileDerivesIfPlain text a → FileDerivesIfPlain text b → is_plain_file a ≡ true → is_plain_file b ≡ true → normal_file a ≡ normal_file b
