-- What the tests of conditions return.
use Rattle.std.proofs.Common.{◌≡◌, ℕ, Bool, true, false, not, IsTrue, List, Some, slice_get, refl}
use Rattle.std.specs.Prelude.{◌↔◌}
use Rattle.vast_literal.specs.Keyword.{is_among}
use Rattle.vast_core.specs.declared.handle.VastModule.{VastModule}
use Rattle.vast_core.specs.Records.{ModuleRecord, IsFree}
use Rattle.vast_core.specs.Bench.{Bench}
use Rattle.vast_core.proofs.Sound.{never}
use Rattle.xlsynth_vast.specs.Conditions.{is_free}
use Rattle.xlsynth_vast.proofs.Taken.{not-among, among}

free-test : (name : List ℕ) (names : List (List ℕ)) (t : Bool) → (IsTrue t ↔ IsFree name names) → t ≡ not (is_among names name)
free-test name names true h = rw (not-among name names (h.0 refl)) refl
free-test name names false h = rw (among name names (λ free. never (h.1 free))) refl

-- Of the record that a module has.
pub free_there : (b : Bench) (m : VastModule) (r : ModuleRecord) (name : List ℕ) (t : Bool) → slice_get b.modules m.id.index ≡ Some r → (IsTrue t ↔ IsFree name r.names) → t ≡ is_free b m name
unfolding is_free
free_there b m r name t e h = rw e (free-test name r.names t h)
