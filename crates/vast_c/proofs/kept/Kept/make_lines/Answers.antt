use Rattle.std.proofs.Common.{◌≡◌, List, ℕ, length, drop, take, refl, sym, ap, subst, ◌∙◌, arith}
use Rattle.std.proofs.lemmas.List.{length-drop}
use Rattle.vast_calls.specs.Lines.{lines_of}
use Rattle.vast_c.specs.Seen.{Gave, TellsFault, more_lines}
use Rattle.vast_c.proofs.Steps.{fault_of_first, gave_more, next, no_lines}
use Rattle.vast_c.proofs.kept.Kept.make_lines.Goals as goal

pub loop-rest-preserved : goal.loop-rest-preserved
loop-rest-preserved c =
    let lines = lines_of c.args.lines.now in let line = c.first_line.result.0.now in let behind = c.first_line.result.1.now in
    let one = next lines c.loop-rest.taken line (lines_of behind) (c.loop-rest.invariant.behind ∙ c.first_line.ensures.lines) in
    let before = c.args.self.now.session in let after = c.make_line.new.self.session in
    let gave = gave_more before (take c.loop-rest.taken lines) c.loop-rest.self.session line after c.loop-rest.invariant.gave c.in_default.ensures.given in
    record {
      gave = subst (λ (made : List (List ℕ)). Gave before made after) (sym one.taken) gave;
      counted = omega (arith, c.loop-rest.invariant.counted, c.in_default.ensures.lines);
      none = c.in_default.ensures.none ∙ c.loop-rest.invariant.none;
      file = c.in_default.ensures.file ∙ c.loop-rest.invariant.file;
      behind = one.dropped;
      within = omega (arith, one.within);
      bounded = omega (arith, c.loop-rest.invariant.bounded, c.first_line.ensures.shorter);
    }

pub returns-clause-made : goal.returns-clause-made
returns-clause-made c =
    let run = c.loop-rest.invariant in
    let lines = lines_of c.args.lines.now in let here = c.loop-rest.self.session in
    record {
      between = here;
      gave = run.gave;
      same = refl;
      counted = run.counted;
      fault = subst (TellsFault here here (more_lines c.loop-rest.self.lines 1) (drop c.loop-rest.taken lines)) (sym run.none) tt;
    }

pub returns-clause-all : goal.returns-clause-all
returns-clause-all c = λ _.
    let left : length (drop c.loop-rest.taken (lines_of c.args.lines.now)) ≡ 0 = ap length (c.loop-rest.invariant.behind ∙ no_lines c.loop-rest.rest.now (sym c.loop-rest-test.false ∙ c.is_empty.ensures)) in
    omega (arith, left, length-drop c.loop-rest.taken (lines_of c.args.lines.now), c.loop-rest.invariant.within)

pub returns-in-Err-clause-made : goal.returns-in-Err-clause-made
returns-in-Err-clause-made c =
    let run = c.loop-rest.invariant in let stopped = c.in-Err.ensures in let after = c.make_line.new.self in
    let lines = lines_of c.args.lines.now in let line = c.first_line.result.0.now in
    record {
      between = c.loop-rest.self.session;
      gave = run.gave;
      same = stopped.left;
      counted = stopped.lines ∙ run.counted;
      fault = fault_of_first c.loop-rest.self.session after.session (more_lines after.lines 1) (more_lines c.loop-rest.self.lines 1) line (lines_of c.first_line.result.1.now) (drop c.loop-rest.taken lines) after.told
          (ap (λ n. more_lines n 1) stopped.lines) (run.behind ∙ c.first_line.ensures.lines) stopped.fault;
    }
