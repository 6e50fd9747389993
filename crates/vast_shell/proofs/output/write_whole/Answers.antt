use Rattle.std.proofs.Common.{◌≡◌, ◌++◌, take, drop, ap, ◌∙◌}
use Rattle.std.proofs.KnownBytes.{Appends-kept}
use Rattle.vast_shell.proofs.Streams.{write_more, all_left}
use Rattle.vast_shell.proofs.output.write_whole.Goals as goal
use Rattle.vast_shell.proofs.output.write_whole.Goals.{in-Ok, in-Err+else-ne}

pub loop-preserved : goal.loop-preserved
loop-preserved g c =
    let before = c.loop.invariant in
    elim c.match-write.branch [
      | in-Ok w ↦ let more = write_more _ _ _ before.0 c.loop.rest.now _ w.in-Ok.count before.1 before.2 w.in-Ok.ensures.bytes in
          let left : c.match-write.rest.now ≡ drop w.in-Ok.count c.loop.rest.now = ap (λ b. b.now) w.rest-is ∙ all_left w.in-Ok.count c.loop.rest.now in
          (before.0 ++ take w.in-Ok.count c.loop.rest.now, rw left more.0, more.1)
      | in-Err+else-ne w ↦ let left : c.match-write.rest.now ≡ c.loop.rest.now = ap (λ b. b.now) w.rest-is in (before.0, rw left before.1, Appends-kept _ _ _ before.0 before.2 w.in-Err.ensures.bytes)
    ]
