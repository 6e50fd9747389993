-- What the readers of records cite.
use Rattle.std.proofs.Common.{◌≡◌, ℕ, ◌<◌, ◌≤◌, IsTrue, List, [], ◌∷◌, length, map, get_or, nat_lt, Option, Some, None, slice_get, All, refl, ap, ◌∙◌, arith, subst}
use Rattle.vast_core.specs.ArenaState.{ArenaState}
use Rattle.vast_core.specs.Records.{Assignment, module_record, instance_record}
use Rattle.vast_core.specs.Bench.{Bench, is_continuous}
use Rattle.vast_core.specs.View.{bench}
use Rattle.vast_core.specs.Sound.{Each, PortSound, AssignmentSound, ModuleSound, DefinitionSound, ArtifactSound, InstanceSound, EntrySound, NestSound, NestsSound, FunctionSound, AlwaysSound, RecordsSound}
use Rattle.vast_core.specs.Internal.Sound.{IsSound}
use Rattle.vast_core.specs.declared.node.Nest.{Nest}
use Rattle.vast_core.specs.Nests.{nest_record, function_record, always_record}
use Rattle.vast_core.specs.FileTree.{family, families}
use Rattle.std.proofs.lemmas.List.{length-map}
use Rattle.vast_core.proofs.Nests.{nest-at, family-at}
use Rattle.vast_core.proofs.Lists.{below-of, slice_get-map, slice_get-past, Each-get, All-own}
use Rattle.std.proofs.lemmas.Option.{slice_get_within}

-- What a list of records holds at an index, and what a sound file says of it.
pub record IsAt {B : Type 0} (rs : List B) (P : B → Type 0) (i : ℕ) (x : B) : Type 0 where
  pub there : slice_get rs i ≡ Some x
  pub sound : P x

-- An arena: what contracts see of its nodes, and what a sound file says of each.
pub record Arena {A B : Type 0} (nodes : ArenaState → List A) (view : A → B) (records : Bench → List B) (P : Bench → B → Type 0) : Type 0 where
  pub seen : (a : ArenaState) → records (bench a) ≡ map view (nodes a)
  pub sound : (b : Bench) → RecordsSound b → Each (P b) (records b)

map-same : {A : Type 0} (xs : List A) → xs ≡ map (λ x. x) xs
map-same [] = refl
map-same (x ∷ xs) = ap (λ r. x ∷ r) (map-same xs)

pub port-arena : Arena (λ a. a.ports) (λ x. x) (λ b. b.ports) PortSound
unfolding bench
port-arena = record { seen = λ a. map-same a.ports; sound = λ b s. s.ports }

pub assignment-arena : Arena (λ a. a.assignments) (λ x. x) (λ b. b.assignments) AssignmentSound
unfolding bench
assignment-arena = record { seen = λ a. map-same a.assignments; sound = λ b s. s.assignments }

pub definition-arena : Arena (λ a. a.definitions) (λ x. x) (λ b. b.definitions) DefinitionSound
unfolding bench
definition-arena = record { seen = λ a. map-same a.definitions; sound = λ b s. s.definitions }

pub artifact-arena : Arena (λ a. a.artifacts) (λ x. x) (λ b. b.artifacts) ArtifactSound
unfolding bench
artifact-arena = record { seen = λ a. map-same a.artifacts; sound = λ b s. s.artifacts }

pub module-arena : Arena (λ a. a.modules) module_record (λ b. b.modules) ModuleSound
unfolding bench
module-arena = record { seen = λ a. refl; sound = λ b s. s.modules }

pub instance-arena : Arena (λ a. a.instances) instance_record (λ b. b.instances) InstanceSound
unfolding bench
instance-arena = record { seen = λ a. refl; sound = λ b s. s.instances }

pub function-arena : Arena (λ a. a.functions) function_record (λ b. b.functions) FunctionSound
unfolding bench
function-arena = record { seen = λ a. refl; sound = λ b s. s.functions }

pub always-arena : Arena (λ a. a.always_blocks) always_record (λ b. b.always_blocks) AlwaysSound
unfolding bench
always-arena = record { seen = λ a. refl; sound = λ b s. s.always_blocks }

records-of : (a b : ArenaState) → b ≡ a → IsSound b → RecordsSound (bench a)
records-of a b e s = let P : ArenaState → Type 0 = λ r. RecordsSound (bench r) in subst P e s.file.records

pub arena-below :
    {A B : Type 0} {nodes : ArenaState → List A} {view : A → B} {records : Bench → List B} {P : Bench → B → Type 0} → Arena nodes view records P → (a b : ArenaState) (i : ℕ) → b ≡ a →
    IsTrue (nat_lt i (length (records (bench a)))) → i < length (nodes b)
arena-below {nodes} r a b i e h = below-of i (length (nodes b)) (rw (← e, r.seen b, length-map) at h)

pub arena-read :
    {A B : Type 0} {nodes : ArenaState → List A} {view : A → B} {records : Bench → List B} {P : Bench → B → Type 0} → Arena nodes view records P → (a b : ArenaState) (i : ℕ) (x : A) → b ≡ a → IsSound b →
    i < length (nodes b) → x ≡ get_or (nodes b) i x → IsAt (records (bench a)) (P (bench a)) i (view x)
arena-read {nodes} {view} {records} {P} r a b i x e s here is =
    let there : slice_get (records (bench a)) i ≡ Some (view x) = rw (← e, r.seen b) (slice_get-map view (nodes b) i x here is) in
    record { there = there; sound = Each-get (P (bench a)) (records (bench a)) i (view x) (r.sound (bench a) (records-of a b e s)) there }

is_there : (xs : List Assignment) (i : ℕ) (o : Option Assignment) → slice_get xs i ≡ o → IsTrue (is_continuous o) → i < length xs
is_there xs i None e h = cc
is_there xs i (Some x) e h = slice_get_within xs i x e

pub assignment-below : (a b : ArenaState) (i : ℕ) → b ≡ a → IsTrue (is_continuous (slice_get (bench a).assignments i)) → i < length b.assignments
unfolding bench
assignment-below a b i e h = is_there b.assignments i (slice_get b.assignments i) refl (rw (← e) at h)

item-all : (b : ArenaState) → IsSound b → All (EntrySound (bench b)) b.items
unfolding bench
item-all b s = All-own (EntrySound (bench b)) b.items s.file.records.items

pub items-sound : (a b : ArenaState) → b ≡ a → IsSound b → All (EntrySound (bench a)) b.items
items-sound a b e s = let P : ArenaState → Type 0 = λ r. All (EntrySound (bench r)) b.items in subst P e (item-all b s)

pub items-of : (a b : ArenaState) → b ≡ a → (bench a).items ≡ b.items
unfolding bench
items-of a b e = rw (← e) refl

pub artifact-past : (a b : ArenaState) (i : ℕ) → b ≡ a → length b.artifacts ≤ i → slice_get (bench a).artifacts i ≡ None
unfolding bench
artifact-past a b i e past = rw (← e) (slice_get-past b.artifacts i past)

-- A container.

pub length-nests : (a b : ArenaState) → b ≡ a → length (bench a).nests ≡ length b.nests
unfolding bench
length-nests a b e = rw (← e) (simp length-map)

pub nest-past : (a b : ArenaState) (i : ℕ) → b ≡ a → length b.nests ≤ i → slice_get (bench a).nests i ≡ None
nest-past a b i e past = slice_get-past (bench a).nests i (rw (length-nests a b e) past)

pub nest-there : (a b : ArenaState) (i : ℕ) (x : Nest) → b ≡ a → i < length b.nests → x ≡ get_or b.nests i x → slice_get (bench a).nests i ≡ Some (nest_record x)
unfolding bench
nest-there a b i x e below is = rw (← e) (slice_get-map nest_record b.nests i x below is)

nests-of : (a b : ArenaState) → b ≡ a → IsSound b → NestsSound (bench a) 0 (bench a).nests
nests-of a b e s = let P : ArenaState → Type 0 = λ r. NestsSound (bench r) 0 (bench r).nests in subst P e s.file.records.nests

pub nest-sound : (a b : ArenaState) (i : ℕ) (x : Nest) → b ≡ a → IsSound b → i < length b.nests → x ≡ get_or b.nests i x → NestSound (bench a) i (nest_record x)
nest-sound a b i x e s below is = nest-at (bench a) 0 (bench a).nests i i (nest_record x) (nests-of a b e s) (nest-there a b i x e below is) (omega arith)

pub nest-unfolded :
    (a b : ArenaState) (i : ℕ) (x : Nest) → b ≡ a → IsSound b → i < length b.nests → x ≡ get_or b.nests i x →
    families (bench a) i ≡ family (bench a) (families (bench a)) (Some (nest_record x))
nest-unfolded a b i x e s below is =
    family-at (bench a) i (nests-of a b e s) ∙ ap (λ o. family (bench a) (families (bench a)) o) (nest-there a b i x e below is)
