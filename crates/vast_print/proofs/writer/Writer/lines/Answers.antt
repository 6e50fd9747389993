use Rattle.std.proofs.Common.{rules, arith}
use Rattle.vast_print.specs.Output.{Unstopped}
use Rattle.vast_print.proofs.Lines.{cut, uncut}
use Rattle.vast_print.proofs.OutputLaws.{plain-word, written-step}
use Rattle.vast_print.proofs.writer.Writer.lines.Goals as goal

pub loop-line-preserved : goal.loop-line-preserved
loop-line-preserved c =
    let q = cut c.loop-line.rest.now (c.in-Some.line, c.in-Some.more) c.in-Some.ensures.cases in
    (search rules, grind (arith, written-step c.args.self.now.margin (Unstopped c.loop-line.self.draft) c.loop-line.rest.now c.in-Some.line.now c.in-Some.more.now q.0 q.1), grind arith)

pub returns : goal.returns
returns c =
    let q = uncut c.loop-line.rest.now c.in_default.ensures.cases in
    grind (arith, plain-word c.args.self.now.margin (Unstopped c.loop-line.self.draft) c.loop-line.rest.now q)
