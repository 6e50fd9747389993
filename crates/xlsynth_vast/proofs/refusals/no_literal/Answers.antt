use Rattle.std.proofs.Common.{rules, ◌≡◌, ◌++◌, IfOk, codes, string_bytes}
use Rattle.vast_core.specs.Bench.{tree_of}
use Rattle.vast_core.specs.View.{bench}
use Rattle.vast_print.specs.Text.{expr_text}
use Rattle.xlsynth_vast.proofs.Widths.{worded, printed, unprinted}
use Rattle.xlsynth_vast.proofs.refusals.no_literal.Goals as goal

pub returns-in-Ok : goal.returns-in-Ok
returns-in-Ok c =
    let text = string_bytes c.in-Ok.text in
    let made : IfOk c.format.result (λ s. string_bytes s ≡ codes "Width is not a literal: " ++ text) = search rules in
    printed (expr_text (tree_of (bench c.args.ast.now) c.args.width)) text c.refusal.result c.in-Ok.ensures.text.0 c.in-Ok.ensures.text.1
    (worded c.format.result (codes "Width is not a literal: " ++ text) c.refusal.result made c.refusal.ensures)

pub returns-in-Err : goal.returns-in-Err
returns-in-Err c = unprinted (expr_text (tree_of (bench c.args.ast.now) c.args.width)) c.in-Err.fault c.in-Err.ensures.text
