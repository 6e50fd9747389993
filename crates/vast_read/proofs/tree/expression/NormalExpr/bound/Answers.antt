use Rattle.std.proofs.Common.{◌≡◌, true, false, sym, ap, ◌∙◌}
use Rattle.vast_literal.specs.NormalExpr.{NormalExpr, Binary}
use Rattle.vast_read.specs.Internal.Bounds.{is_bounded}
use Rattle.vast_read.specs.Texts.{infix_of}
use Rattle.vast_read.specs.View.{view, view_step}
use Rattle.vast_read.specs.declared.tree.expression.NormalExpr.TheFolds.{fold-roll-NormalExpr}
use Rattle.vast_read.specs.declared.tree.expression.NormalExpr.TheOpen.{NormalExpr-F}
use Rattle.vast_read.specs.declared.tree.expression.NormalExpr.TheVariants.{Binary as TreeBinary, rolls-Binary}
use Rattle.vast_read.proofs.Bounds.{bound_given, bound_missing}
use Rattle.vast_read.proofs.tree.expression.NormalExpr.bound.Goals as goal

pub returns-then-is_bounded : goal.returns-then-is_bounded
returns-then-is_bounded c =
    let b : view (TreeBinary c.in-Binary.sign c.in-Binary.left c.in-Binary.right) ≡ Binary (infix_of c.in-Binary.sign) (view c.in-Binary.left.value) (view c.in-Binary.right.value) =
    ap view (sym (rolls-Binary c.in-Binary.sign c.in-Binary.left c.in-Binary.right)) ∙ fold-roll-NormalExpr NormalExpr view_step (NormalExpr-F.Binary c.in-Binary.sign c.in-Binary.left c.in-Binary.right) in
    let h = c.if-is_bounded.ensures in
    let d = c.deref.ensures in
    let k : is_bounded c.args.name.now c.in-Binary.sign (view c.in-Binary.left.value) ≡ true = cc (h, d) in
    let a = bound_given c.args.name.now c.in-Binary.sign (view c.in-Binary.left.value) (view c.in-Binary.right.value) k in
    rw (c.in-Binary.is, b) a

pub returns-in-Binary : goal.returns-in-Binary
returns-in-Binary c =
    let b : view (TreeBinary c.in-Binary.sign c.in-Binary.left c.in-Binary.right) ≡ Binary (infix_of c.in-Binary.sign) (view c.in-Binary.left.value) (view c.in-Binary.right.value) =
    ap view (sym (rolls-Binary c.in-Binary.sign c.in-Binary.left c.in-Binary.right)) ∙ fold-roll-NormalExpr NormalExpr view_step (NormalExpr-F.Binary c.in-Binary.sign c.in-Binary.left c.in-Binary.right) in
    let h = c.if-is_bounded.ensures in
    let d = c.deref.ensures in
    let k : is_bounded c.args.name.now c.in-Binary.sign (view c.in-Binary.left.value) ≡ false = cc (h, d) in
    rw (c.in-Binary.is, b) (bound_missing c.args.name.now c.in-Binary.sign (view c.in-Binary.left.value) (view c.in-Binary.right.value) k)
