use Rattle.std.proofs.Common.{sym, ◌∙◌, arith}
use Rattle.vast_core.specs.View.{bench}
use Rattle.vast_print.specs.Output.{Unstopped}
use Rattle.vast_print.proofs.ContainerLaws.{cases, inline-arm-bare, inline-arm-full}
use Rattle.vast_print.proofs.+print.Goals as goal

pub case::print_arm-returns-in-Some : goal.case::print_arm-returns-in-Some
case::print_arm-returns-in-Some t c =
    let b = bench c.args.ast.now in
    let e = c.bare_assignment.ensures in
    let s = c.in-Some.s in
    grind (arith, cases, c.block.ensures.tree, inline-arm-bare b c.args.arm.block.id.index c.args.out.now.margin (Unstopped c.print_label.new.out.draft) c.args.kind c.block.result.now s (sym c.in-Some.is ∙ e) c.block.ensures.sound)

pub case::print_arm-returns-in-None : goal.case::print_arm-returns-in-None
case::print_arm-returns-in-None t c =
    let b = bench c.args.ast.now in
    let e = c.bare_assignment.ensures in
    grind (arith, cases, c.block.ensures.tree, inline-arm-full b c.args.out.now.margin (Unstopped c.print_label.new.out.draft) c.args.kind c.block.result.now (sym c.in-None.is ∙ e))
