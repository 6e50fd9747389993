use Rattle.std.proofs.Common.{◌++◌, List, ℕ, ap, ◌∙◌}
use Rattle.vast_list.proofs.TextLines.{more_made}
use Rattle.vast_list.proofs.origins.made_lines.Goals as goal

pub loop-rest-preserved : goal.loop-rest-preserved
loop-rest-preserved c =
    more_made c.args.call c.args.kept.now c.loop-rest.made.items c.push.new.self.items c.args.text.now c.loop-rest.rest.now c.next_line.result.0.now c.next_line.result.1.now _
    c.loop-rest.invariant c.next_line.ensures.whole c.in_ok-push.ensures.items
    (c.in_ok-extend_from_slice.ensures.items ∙ ap (λ (xs : List ℕ). xs ++ c.next_line.result.0.now) c.new-bytes.ensures.items)
    c.origin_of-origin.ensures
