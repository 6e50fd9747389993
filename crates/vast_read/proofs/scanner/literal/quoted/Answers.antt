use Rattle.std.proofs.Common.{◌-◌, arith}
use Rattle.vast_read.specs.Internal.Scanner.{EndsString}
use Rattle.vast_read.proofs.scanner.Cuts.{cut_behind}
use Rattle.vast_read.proofs.scanner.literal.quoted.Goals as goal

pub split_at-requires : goal.split_at-requires
split_at-requires c =
    let e : EndsString c.args.text.now c.in-Some.end = c.in-Some.ensures in
    cut_behind c.args.text.now (c.in-Some.end - 1) c.in-Some.end c.utf8.text (omega arith) (omega (arith, e.closed)) (omega arith)

pub returns-in-Some : goal.returns-in-Some
returns-in-Some c =
    let e : EndsString c.args.text.now c.in-Some.end = c.in-Some.ensures in
    (rw (c.split_at.ensures.front, c.split_at.ensures.back) e.scanned, omega (arith, e.moved, c.split_at.ensures.back_len), rw c.split_at.ensures.back e.behind)
