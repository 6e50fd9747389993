use Rattle.std.proofs.Common.{◌≡◌, rules}
use Rattle.vast_literal.specs.declared.kind.VastFileType.TheVariants.{SystemVerilog}
use Rattle.vast_core.specs.Bench.{start}
use Rattle.vast_designs.proofs.DesignTexts.{design-printed}
use Rattle.vast_designs.proofs.design_text.Goals as goal

pub returns : goal.returns
returns c =
    let started : c.unwrap-file.result ≡ start SystemVerilog 1 = search rules in
    design-printed c.unwrap-file.result c.replay.new.file c.args.steps.now c.in_ok-_answers._answers.items c.in_ok-text.text started c.in_ok-_answers.ensures c.in_ok-text.ensures.text
