-- What the text of a printed expression and that of a printed file derive.
use Rattle.std.proofs.Common.{◌≡◌, ℕ, List, Result, Ok, Err, IfOk, String, string_bytes, subst, true}
use Rattle.std.specs.declared.alloc.Global.{Global}
use Rattle.vast_literal.specs.Tree.{ExprTree, FileTree}
use Rattle.vast_literal.specs.NormalExpr.{normal}
use Rattle.vast_literal.specs.NormalTree.{normal_file}
use Rattle.vast_literal.specs.WellFormedFile.{is_well_formed_file}
use Rattle.vast_literal.specs.Grammar.{DerivesExpression}
use Rattle.vast_literal.specs.FileGrammar.{DerivesFile}
use Rattle.vast_literal.specs.declared.error.VastFault.{VastFault}
use Rattle.vast_expressions.proofs.DerivedOnce.{expression_once}
use Rattle.vast_rows.proofs.OneEach.{file_once}
use Rattle.vast_core.specs.declared.handle.Expr.{Expr}
use Rattle.vast_core.specs.Bench.{Bench, OwnsExpr, AreWellFormed, tree_of}
use Rattle.vast_core.proofs.WellFormed.{well_formed}
use Rattle.vast_print.specs.Text.{expr_text}
use Rattle.vast_print.specs.Page.{print}
use Rattle.vast_print.specs.Layout.{layout}
use Rattle.vast_print.specs.Emits.{Emits, EmitsText}
use Rattle.vast_print.specs.Derived.{DerivesOnly, DerivesIfPlain, PrintsPlainly, FileDerivesOnly, FileDerivesIfPlain, FilePrintsPlainly, EqualFiles}
use Rattle.vast_print.proofs.ExprReads.{expr_derived}
use Rattle.vast_print.proofs.FileReads.{file_derived}

pub printed-derives : (e : ExprTree) → PrintsPlainly e → DerivesOnly (expr_text e).text e
printed-derives e p =
    let d : DerivesExpression (expr_text e).text (normal e) = expr_derived e p.plain p.well_formed p.printed in
    record { derived = d; no_other = λ t o. expression_once (expr_text e).text t (normal e) o d }

pub equal-texts : (a b : ExprTree) → PrintsPlainly a → PrintsPlainly b → (expr_text a).text ≡ (expr_text b).text → normal a ≡ normal b
equal-texts a b p q e = (printed-derives b q).no_other (normal a) (subst (λ t. DerivesExpression t (normal a)) e (printed-derives a p).derived)

pub emitted-derives :
    (b : Bench) (e : Expr) (r : Result (String Global) VastFault) → AreWellFormed b → OwnsExpr b e → EmitsText (expr_text (tree_of b e)) r →
    IfOk r (λ s. DerivesIfPlain (string_bytes s) (tree_of b e))
emitted-derives b e (Ok s) w o h = λ p.
    rw h.1 (printed-derives (tree_of b e) (record { plain = p; well_formed = well_formed (tree_of b e) (w.exprs e o); printed = h.0 }))
emitted-derives b e (Err x) w o h = tt

-- files

pub printed-file : (f : FileTree) → FilePrintsPlainly f → FileDerivesOnly (print (layout f)) f
printed-file f p =
    let d : DerivesFile (print (layout f)) (normal_file f) = file_derived f p.plain p.well_formed p.printed in
    record { derived = d; no_other = λ t o. file_once (print (layout f)) t (normal_file f) o d }

same-files : (text : List ℕ) (a b : FileTree) → FileDerivesOnly text a → FileDerivesOnly text b → normal_file a ≡ normal_file b
same-files text a b x y = y.no_other (normal_file a) x.derived

pub equal-files : EqualFiles
equal-files =
    record {
      of_trees = λ a b p q e. same-files (print (layout b)) a b (subst (λ t. FileDerivesOnly t a) e (printed-file a p)) (printed-file b q);
      of_answers = λ text a b x y p q. same-files text a b (x p) (y q);
    }

pub emitted-file : (f : FileTree) (r : Result (String Global) VastFault) → is_well_formed_file f ≡ true → Emits (layout f) r → IfOk r (λ s. FileDerivesIfPlain (string_bytes s) f)
emitted-file f (Ok s) w h = λ p. rw h.1 (printed-file f (record { plain = p; well_formed = w; printed = h.0 }))
emitted-file f (Err x) w h = tt
