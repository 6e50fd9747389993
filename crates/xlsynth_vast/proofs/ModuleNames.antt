-- The names that a module declares, counted, are distinct and taken.
use Rattle.std.proofs.Common.{◌≡◌, ◌≢◌, ◌↔◌, ℕ, Bool, true, false, List, [], ◌∷◌, Option, Some, None, slice_get, IfSome, refl, sym, ◌∙◌, arith}
use Rattle.std.specs.Str.{bytes_eq}
use Rattle.std.proofs.lemmas.Slice.Eq.{bytes_eq-Decides}
use Rattle.vast_core.specs.declared.handle.VastModule.{VastModule}
use Rattle.vast_core.specs.Records.{ModuleRecord, IsFree}
use Rattle.vast_core.specs.declared.node.Port.{Port}
use Rattle.vast_core.specs.Nests.{FunctionRecord}
use Rattle.vast_core.specs.Bench.{Bench}
use Rattle.vast_core.specs.DeclaredNames.{names_declared, times, NamesSound}
use Rattle.vast_core.specs.Sound.{NamesAreSound}
use Rattle.vast_core.proofs.Counts.{count-append}
use Rattle.vast_core.proofs.Lists.{All-cons, All-head, All-tail, Each-get}
use Rattle.vast_core.proofs.ModuleNames.{distinct-of}
use Rattle.xlsynth_vast.specs.Laws.{ModuleDeclaresDistinctly, ModuleNamesAreDistinct}

-- A name is free among names where none of them is it.

free-case : (name x : List ℕ) (xs : List (List ℕ)) (t : Bool) → bytes_eq name x ≡ t → IsFree name xs ↔ times name xs ≡ 0 → IsFree name (x ∷ xs) ↔ times name (x ∷ xs) ≡ 0
free-case name x xs true e h =
    let front = count-append (bytes_eq name) (x ∷ []) xs in
    let one : times name (x ∷ []) ≡ 1 = rw e refl in (
      λ k. absurd (All-head (λ taken. taken ≢ name) x xs k (sym ((bytes_eq-Decides name x).0 e))),
      λ k. absurd (omega (arith, k, front, one)),
    )
free-case name x xs false e h =
    let front = count-append (bytes_eq name) (x ∷ []) xs in
    let none : times name (x ∷ []) ≡ 0 = rw e refl in
    let other : x ≢ name = λ is. let t : bytes_eq name x ≡ true = (bytes_eq-Decides name x).1 (sym is) in cc in (
      λ k. let rest = h.0 (All-tail (λ taken. taken ≢ name) x xs k) in omega (arith, rest, front, none),
      λ k. All-cons (λ taken. taken ≢ name) x xs other (h.1 (omega (arith, k, front, none))),
    )

free-counted : (name : List ℕ) (names : List (List ℕ)) → IsFree name names ↔ times name names ≡ 0
free-counted name [] = (λ k. refl, λ k i d below. absurd (omega arith))
free-counted name (x ∷ xs) = free-case name x xs (bytes_eq name x) refl (free-counted name xs)

free-alike : (name : List ℕ) (xs ys : List (List ℕ)) → times name ys ≡ times name xs → IsFree name xs ↔ IsFree name ys
free-alike name xs ys e =
    let left = free-counted name xs in
    let right = free-counted name ys in (λ k. right.1 (e ∙ left.0 k), λ k. left.1 (sym e ∙ right.0 k))

declares-distinctly : (ports : List Port) (functions : List FunctionRecord) (m : ModuleRecord) → NamesSound ports functions m → ModuleDeclaresDistinctly ports functions m
declares-distinctly ports functions m h =
    record {
      distinct = distinct-of (names_declared ports functions m) (λ name. let same = h.taken name in let once = h.once name in omega (arith, same, once));
      taken = λ name. free-alike name m.names (names_declared ports functions m) (h.taken name);
    }

there : (b : Bench) (o : Option ModuleRecord) (m : VastModule) → NamesAreSound b → slice_get b.modules m.id.index ≡ o → IfSome o (ModuleDeclaresDistinctly b.ports b.functions)
there b None m h e = tt
there b (Some r) m h e = declares-distinctly b.ports b.functions r (Each-get (NamesSound b.ports b.functions) b.modules m.id.index r h e)

pub module-names-are-distinct : (b : Bench) (m : VastModule) → NamesAreSound b → ModuleNamesAreDistinct b m
module-names-are-distinct b m h = there b (slice_get b.modules m.id.index) m h refl
