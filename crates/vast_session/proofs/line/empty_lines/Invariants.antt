use Rattle.std.proofs.Common.{◌≡◌, List, ℕ, take, All}
use Rattle.vast_calls.specs.Lines.{Passed, line_kind, line_texts}
use Rattle.vast_session.proofs.line.empty_lines.Given as goal

abbrev pub invariant-loop-line : goal.invariant-loop-line
invariant-loop-line l = record {
  counted : l.count ≡ l.line-index;
  passed : All (λ (line : List ℕ). line_kind line ≡ Passed) (line_texts (take l.line-index l.lines));
}
