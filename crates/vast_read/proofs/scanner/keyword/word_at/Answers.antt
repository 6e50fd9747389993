use Rattle.std.proofs.Common.{ℕ, List, get_or, [], ap, ◌∙◌, arith}
use Rattle.vast_read.proofs.scanner.Keywords.{mapped_at}
use Rattle.vast_read.proofs.scanner.keyword.word_at.Goals as goal

pub returns : goal.returns
returns c =
    mapped_at (λ t. t.now) c.system_verilog_keywords.result.now c.args.place _ [] (omega (arith, c.requires, c.system_verilog_keywords.ensures.count))
    ∙ ap (λ (ws : List (List ℕ)). get_or ws c.args.place []) c.system_verilog_keywords.ensures.words
