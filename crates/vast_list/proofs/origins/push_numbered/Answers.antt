use Rattle.std.proofs.Common.{rules, ◌∙◌}
use Rattle.std.proofs.lemmas.List.{get_or_default}
use Rattle.vast_list.proofs.Numbered.{more_numbered}
use Rattle.vast_list.proofs.origins.push_numbered.Goals as goal

pub loop-line-preserved : goal.loop-line-preserved
loop-line-preserved c =
    let inside = c.loop-line-test.true in
    more_numbered c.args.lines.now c.args.mapped.now.items c.loop-line.mapped.items c.as_bytes.result.now c.extend_from_slice.new.self.items _ c.loop-line.line-index c.line-item.result inside
    (c.line-item.is ∙ get_or_default c.args.lines.now c.loop-line.line-index _ _ inside) c.loop-line.invariant (search rules) (search rules) (search rules)
