use Rattle.std.proofs.Common.{List, ℕ, [], ◌∷◌, ◌++◌, subst}
use Rattle.vast_list.specs.Untitled.{HasTaken}
use Rattle.vast_replay.proofs.input.InputLines.take_left.Goals as goal

pub returns-clause-taken : goal.returns-clause-taken
returns-clause-taken c = λ lines h.
    subst (λ (line : List ℕ). HasTaken (lines ++ line ∷ []) c.take.new.self) c.deref.ensures.value (c.in_ok-take.ensures lines h)
