-- What a file holds, and that it stays sound, after an expression or a type more.
use Rattle.std.proofs.Common.{◌≡◌, ℕ, ◌+◌, IsTrue, nat_lt, Result, Ok, Err, IsErr, arith, subst, ◌∙◌}
use Rattle.std.specs.declared.alloc.AllocError.{AllocError}
use Rattle.vast_core.specs.ArenaState.{ArenaState}
use Rattle.vast_core.specs.Nodes.{no_nodes, built}
use Rattle.vast_core.specs.Internal.Nodes.{RootWellFormed}
use Rattle.vast_core.specs.Bench.{Bench, AreWellFormed}
use Rattle.vast_core.specs.View.{bench}
use Rattle.vast_core.specs.Growth.{Grows}
use Rattle.vast_core.specs.Sound.{Each}
use Rattle.vast_core.specs.Internal.Sound.{IsSound}
use Rattle.vast_core.proofs.NodeLaws.{built-well_formed, expr-well_formed, type-well_formed}

-- The trees of a sound file are well formed.

sound-well_formed : (a : ArenaState) → IsSound a → AreWellFormed (bench a)
unfolding bench
sound-well_formed a s =
    let w : Each RootWellFormed (built (no_nodes a.id) a.terms).roots = built-well_formed (no_nodes a.id) a.terms tt s.terms in
    record { exprs = expr-well_formed (built (no_nodes a.id) a.terms) w; types = type-well_formed (built (no_nodes a.id) a.terms) w }

pub trees-well_formed : (a b : ArenaState) → b ≡ a → IsSound b → AreWellFormed (bench a)
trees-well_formed a b e s = let P : ArenaState → Type 0 = λ r. AreWellFormed (bench r) in subst P e (sound-well_formed b s)

pub last-test : (n : ℕ) → IsTrue (nat_lt n (n + 1))
last-test n = grind arith

pub refused : {A : Type 0} (old new : ArenaState) (r : Result A AllocError) (answer : Bench → A) (after : Bench → Bench) → IsErr r → bench new ≡ bench old → Grows old new r answer after
refused old new (Ok x) answer after h e = cc
refused old new (Err x) answer after h e = e

-- Two changes of what the file held that leave the same.
pub leaves-same : {A : Type 0} (old new : ArenaState) (r : Result A AllocError) (answer : Bench → A) (one other : Bench → Bench) → one (bench old) ≡ other (bench old) → Grows old new r answer one → Grows old new r answer other
leaves-same old new (Ok x) answer one other e h = (h.0, h.1 ∙ e)
leaves-same old new (Err x) answer one other e h = h
