-- Beside `specs/Modules.antt`: what private contracts say, and no public one.
use Rattle.std.specs.Prelude.{ℕ, List}
use Rattle.vast_literal.specs.declared.kind.ModulePortDirection.TheVariants.{Input as InputPort, Output as OutputPort, InOut as InOutPort}
use Rattle.vast_literal.specs.declared.kind.DataKind.TheVariants.{Wire as WireKind, Logic as LogicKind}
use Rattle.vast_core.specs.declared.handle.VastModule.{VastModule as ModuleHandle}
use Rattle.vast_core.specs.declared.handle.VastDataType.{VastDataType as TypeHandle}
use Rattle.vast_core.specs.Bench.{Bench}
use Rattle.vast_core.specs.Growth.{next_logic_ref, with_declaration, with_port}
use Rattle.xlsynth_vast.specs.Conditions.{is_free}
use Rattle.vast_script.specs.declared.answer.Answer.TheVariants.{LogicRef}
use Rattle.vast_script.specs.declared.signal.Signal.{Signal}
use Rattle.vast_script.specs.declared.signal.Signal.TheVariants.{Input, Output, InOut, LogicInput, LogicOutput, Wire}
use Rattle.vast_script.specs.Arguments.{takes_two}
use Rattle.vast_script.specs.Kinds.{a_module, a_type}
use Rattle.vast_script.specs.Outcome.{Call, Made, provided}

-- A signal more in the module: a port of a direction and a kind, or a wire.
abbrev pub with_signal : Signal → ModuleHandle → List ℕ → TypeHandle → Bench → Bench
with_signal Input owner name type = with_port owner InputPort WireKind name type
with_signal Output owner name type = with_port owner OutputPort WireKind name type
with_signal InOut owner name type = with_port owner InOutPort WireKind name type
with_signal LogicInput owner name type = with_port owner InputPort LogicKind name type
with_signal LogicOutput owner name type = with_port owner OutputPort LogicKind name type
with_signal Wire owner name type = with_declaration owner WireKind name type

-- What becomes of a step that adds a signal.
abbrev pub add_signal : Signal → ℕ → List ℕ → ℕ → Call
add_signal signal owner name type =
    takes_two a_module a_type owner type (λ owner type b. provided (is_free b owner name) (Made (LogicRef (next_logic_ref b)) (with_signal signal owner name type b)))
