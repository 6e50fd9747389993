use Rattle.std.proofs.Common.{◌∙◌}
use Rattle.vast_literal.proofs.KeywordTable.{searched}
use Rattle.vast_literal.proofs.keyword.is_system_verilog_keyword.Goals as goal

pub returns : goal.returns
returns c =
    c.is_ok.ensures.value
    ∙ searched (λ t. t.now) c.system_verilog_keywords.result.now c.args.identifier.now c.binary_search.result c.system_verilog_keywords.ensures.words c.binary_search.ensures.bound c.binary_search.ensures.position
