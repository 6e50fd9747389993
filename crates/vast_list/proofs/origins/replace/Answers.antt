use Rattle.std.proofs.Common.{◌++◌, List, take, drop, ap, ◌∙◌}
use Rattle.vast_list.specs.declared.origins.TextLine.{TextLine}
use Rattle.vast_list.proofs.TextLines.{all_came}
use Rattle.vast_list.proofs.origins.replace.Goals as goal

pub returns-clause-replaced : goal.returns-clause-replaced
returns-clause-replaced c =
    let h = c.in_ok-splice.ensures.items in
    h.4 ∙ ap (λ (xs : List TextLine). take c.args.begin c.args.lines.now.items ++ (xs ++ drop c.args.end c.args.lines.now.items)) (all_came c.args.made.items h.0 h.1 h.2.0 (h.2.1 ∙ c.args.made.ok.0) h.3)
