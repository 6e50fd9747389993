use Rattle.std.proofs.Common.{◌<◌, length, option_map}
use Rattle.vast_rows.specs.Internal.Headers.{InHeader}
use Rattle.vast_rows.proofs.header.reach_loop_head.Given as goal

abbrev pub invariant-parts : goal.invariant-parts
invariant-parts g l = record {
  header : InHeader (option_map g.S.Source.text l.variable) l.stack (g.S.Source.left l.fn.source) (g.S.Source.left l.source) l.more;
  fewer : length (g.S.Source.left l.source) < length (g.S.Source.left l.fn.source);
}

abbrev pub decreases-parts : goal.decreases-parts
decreases-parts g l = length (g.S.Source.left l.source)
