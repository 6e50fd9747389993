use Rattle.std.proofs.Common.{◌≡◌, get_or, true, sym, ap, ◌∙◌, arith}
use Rattle.vast_literal.specs.Scan.{is_space}
use Rattle.vast_read.proofs.scanner.Cuts.{run_cut}
use Rattle.vast_read.proofs.scanner.Signs.{space_small, space_gap, space_behind}
use Rattle.vast_read.proofs.scanner.front_of.Goals as goal

pub split_at-requires : goal.split_at-requires
split_at-requires c =
    let space : is_space (get_or c.args.text.now 0 10) ≡ true = ap is_space (sym c.byte_at-first.ensures) ∙ (sym c.is_space.ensures ∙ c.if-is_space.true) in
    run_cut is_space space_small c.args.text.now 1 c.run_end.result c.utf8.text (omega arith) (omega (arith, c.requires)) (space_small _ space) c.run_end.ensures.place

pub returns-then-is_space-clause-front : goal.returns-then-is_space-clause-front
returns-then-is_space-clause-front c =
    let space : is_space (get_or c.args.text.now 0 10) ≡ true = ap is_space (sym c.byte_at-first.ensures) ∙ (sym c.is_space.ensures ∙ c.if-is_space.true) in (
      rw c.split_at.ensures.back (space_gap c.args.text.now c.run_end.result space c.requires c.run_end.ensures.place),
      omega (arith, c.split_at.ensures.back_len),
      rw c.split_at.ensures.back (space_behind c.args.text.now c.run_end.result space c.requires c.run_end.ensures.place),
    )
