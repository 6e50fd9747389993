use Rattle.std.proofs.Common.{◌≡◌, map, take}
use Rattle.vast_session.specs.Questions.{port_fact, port_told}
use Rattle.vast_session.proofs.questions.modules.port_values.Given as goal

abbrev pub invariant-loop-port : goal.invariant-loop-port
invariant-loop-port l = map (port_fact l.file) (take l.port-index l.ports) ≡ map port_told l.values.items
