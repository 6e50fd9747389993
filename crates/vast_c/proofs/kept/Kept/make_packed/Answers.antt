use Rattle.std.proofs.Common.{refl, sym, subst, ◌∙◌, arith}
use Rattle.vast_c.specs.Seen.{more_lines}
use Rattle.vast_c.specs.SeenPacked.{TellsPacked}
use Rattle.vast_c.proofs.PackedSteps.{packed_more}
use Rattle.vast_c.proofs.kept.Kept.make_packed.Goals as goal

pub loop-rest-preserved : goal.loop-rest-preserved
loop-rest-preserved c =
    let run = c.loop-rest.invariant in let one = c.in-Ok.ensures in
    record {
      made = packed_more c.loop-rest.taken c.args.self.now.session c.loop-rest.self.session c.make_front.new.self.session c.args.calls.now c.loop-rest.rest.now c.in-Ok.behind.now run.made one.given;
      counted = omega (arith, run.counted, one.lines);
      none = one.none ∙ run.none;
      file = one.file ∙ run.file;
      bounded = omega (arith, run.bounded, one.shorter);
    }

pub returns-clause-made : goal.returns-clause-made
returns-clause-made c =
    let run = c.loop-rest.invariant in let here = c.loop-rest.self.session in
    record {
      between = here;
      behind = c.loop-rest.rest.now;
      made = run.made;
      same = refl;
      counted = run.counted;
      fault = subst (TellsPacked here here (more_lines c.loop-rest.self.lines 1) c.loop-rest.rest.now) (sym run.none) tt;
    }

pub returns-in-Err-clause-made : goal.returns-in-Err-clause-made
returns-in-Err-clause-made c =
    let run = c.loop-rest.invariant in let stopped = c.in-Err.ensures in let after = c.make_front.new.self in
    let told = subst (λ n. TellsPacked c.loop-rest.self.session after.session (more_lines n 1) c.loop-rest.rest.now after.told) (sym stopped.lines) stopped.fault in
    record {
      between = c.loop-rest.self.session;
      behind = c.loop-rest.rest.now;
      made = run.made;
      same = stopped.left;
      counted = stopped.lines ∙ run.counted;
      fault = told;
    }
