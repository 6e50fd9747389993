use Rattle.std.proofs.Common.{◌≡◌, refl, ap}
use Rattle.vast_designs.specs.declared.clocked.Signals.{Signals}
use Rattle.vast_designs.specs.Internal.RegistersFile.{clock, reset, the_signals, the_state, the_values, enabled, plain}
use Rattle.vast_designs.proofs.RegistersSteps.{owns-owner, owns-clock, owns-reset, owns-both}
use Rattle.vast_designs.proofs.RegistersText.{registers-added}
use Rattle.vast_designs.proofs.clocked.add_both.Goals as goal

pub add_registers-requires-clause-clk : goal.add_registers-requires-clause-clk
add_registers-requires-clause-clk c =
    let x : c.to_expr-2.result ≡ record { id = clock.id } = rw (c.to_expr-2.ensures, c.requires.signals) refl in
    owns-clock _ _ c.requires.file x

pub add_registers-requires-clause-reset : goal.add_registers-requires-clause-reset
add_registers-requires-clause-reset c =
    let s : c.to_expr.result ≡ record { id = reset.id } = rw (c.to_expr.ensures, c.requires.signals) refl in
    owns-reset _ _ c.requires.file s

pub add_registers-requires-clause-registers : goal.add_registers-requires-clause-registers
add_registers-requires-clause-registers c =
    let r : c.enabled_register-first.result ≡ enabled the_signals the_state the_values = rw (c.enabled_register-first.ensures, c.requires.signals, c.requires.state, c.requires.values) refl in
    let q : c.plain_register-second.result ≡ plain the_state the_values = rw (c.plain_register-second.ensures, c.requires.state, c.requires.values) refl in
    owns-both _ _ _ c.requires.file r q

pub add_registers-requires-clause-scope : goal.add_registers-requires-clause-scope
add_registers-requires-clause-scope c = owns-owner _ _ c.requires.file (ap (λ (x : Signals). x.owner) c.requires.signals)

pub returns : goal.returns
returns c =
    let x : c.to_expr-2.result ≡ record { id = clock.id } = rw (c.to_expr-2.ensures, c.requires.signals) refl in
    let s : c.to_expr.result ≡ record { id = reset.id } = rw (c.to_expr.ensures, c.requires.signals) refl in
    let r : c.enabled_register-first.result ≡ enabled the_signals the_state the_values = rw (c.enabled_register-first.ensures, c.requires.signals, c.requires.state, c.requires.values) refl in
    let q : c.plain_register-second.result ≡ plain the_state the_values = rw (c.plain_register-second.ensures, c.requires.state, c.requires.values) refl in
    registers-added
    c.args.file.now c.add_registers.new.file c.add_registers.result
    c.to_expr-2.result c.to_expr.result c.enabled_register-first.result c.plain_register-second.result c.args.signals.now.owner
    c.requires.file x s r q (ap (λ (x : Signals). x.owner) c.requires.signals) c.add_registers.ensures.built
