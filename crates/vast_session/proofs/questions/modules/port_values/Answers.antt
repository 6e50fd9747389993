use Rattle.std.proofs.Common.{◌≡◌, ◌+◌, ◌<◌, ℕ, List, [], ◌∷◌, ◌++◌, ap, get_or, length, map, sym, take, ◌∙◌}
use Rattle.std.proofs.lemmas.List.{get_or_default, map-append, take_more}
use Rattle.vast_core.specs.Bench.{Bench}
use Rattle.vast_core.specs.declared.handle.ModulePort.{ModulePort}
use Rattle.vast_session.specs.declared.questions.answered.PortValue.{PortValue}
use Rattle.vast_session.specs.Questions.{port_fact, port_told}
use Rattle.vast_session.proofs.questions.modules.port_values.Goals as goal

-- One port more is told.
port_next :
    (b : Bench) (ports : List ModulePort) (i : ℕ) (port : ModulePort) (values : List PortValue) (value : PortValue) → i < length ports → port ≡ get_or ports i port →
    map (port_fact b) (take i ports) ≡ map port_told values → port_fact b port ≡ port_told value → map (port_fact b) (take (i + 1) ports) ≡ map port_told (values ++ value ∷ [])
port_next b ports i port values value l at h k =
    ap (map (port_fact b)) (take_more ports i port l ∙ ap (λ (p : ModulePort). take i ports ++ p ∷ []) (sym at))
    ∙ map-append (port_fact b) (take i ports) (port ∷ [])
    ∙ (λ j. h j ++ k j ∷ [])
    ∙ sym (map-append port_told values (value ∷ []))

pub loop-port-preserved : goal.loop-port-preserved
loop-port-preserved c =
    let inside = c.loop-port-test.true in
    let ports = c.args.ports.now in
    let i = c.loop-port.port-index in
    rw c.in_ok-push.ensures.items
    (port_next c.args.file.now ports i _ c.loop-port.values.items c.in_ok-value.value inside (get_or_default ports i _ _ inside) c.loop-port.invariant c.in_ok-value.ensures.told)
