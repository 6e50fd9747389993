-- What becomes of a run.
use Rattle.std.specs.Prelude.{ℕ, if◌then◌else◌, nat_lt}

-- the worse of two
abbrev pub worse : {Outcome : Type 0} → (badness : Outcome → ℕ) → (one other : Outcome) → Outcome
worse badness one other = if nat_lt (badness one) (badness other) then other else one
