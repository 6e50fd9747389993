-- That a file keeps what it has follows from the equation of the call: its lists have elements more, or elements changed
-- that stay of their kind. Each law is one of a list. The crate's functions are proved with `kept` (src/lib.rt).
use Rattle.std.proofs.Common.{◌≡◌, ℕ, zero, suc, ◌<◌, ◌≤◌, Bool, List, [], ◌∷◌, ◌++◌, length, take, drop, Some, slice_get, refl, ap, arith}
use Rattle.std.proofs.lemmas.List.{take-append-drop, length-append}
use Rattle.std.proofs.Math.Seq.{take-append_seam, take-length}
use Rattle.vast_core.specs.declared.node.Statement.{Statement}
use Rattle.vast_core.specs.declared.node.ElseIf.{ElseIf}
use Rattle.vast_core.specs.declared.node.CaseArm.{CaseArm}
use Rattle.vast_core.specs.declared.node.Member.{Member}
use Rattle.vast_core.specs.declared.handle.VastStatementBlock.{VastStatementBlock}
use Rattle.vast_core.specs.Records.{changed_at}
use Rattle.vast_core.specs.Nests.{NestRecord, BlockRecord, NestKind, nest_kind}
use Rattle.vast_core.specs.Containers.{StatementEnters, ElseIfEnters, ElseEnters, CaseArmEnters, MemberEnters, with_entry, with_unique}
use Rattle.vast_core.specs.Bench.{Bench}
use Rattle.vast_core.specs.ArenaState.{ArenaState}
use Rattle.vast_core.specs.View.{bench}
use Rattle.vast_core.proofs.Lists.{slice_get-append}
use Rattle.vast_core.proofs.Nests.{entry-kind}
use Rattle.xlsynth_vast.specs.Keeps.{Keeps}
use Rattle.xlsynth_vast.proofs.Callers.{more_modules, more_functions, changed_modules, changed_functions}
use Rattle.xlsynth_vast.proofs.Kept.{keeps-grown}
use Rattle.xlsynth_vast.proofs.KeptReductions.{made-keeps}
use Rattle.std.specs.declared.alloc.AllocError.{AllocError}
use Rattle.std.proofs.Common.{Result}
use Rattle.vast_core.specs.Growth.{Grows as GrowsTo}

-- As much of the second list's front as the first is long.
unfoldable pub front : {A : Type 0} → List A → List A → List A
front xs ys = take (length xs) ys

front-there : {A : Type 0} (xs ys : List A) (i : ℕ) (x : A) → front xs ys ≡ xs → slice_get xs i ≡ Some x → slice_get ys i ≡ Some x
unfolding front
front-there xs ys i x f h =
    let whole : xs ++ drop (length xs) ys ≡ ys = rw f at (take-append-drop (length xs) ys)
    in rw whole at (slice_get-append xs (drop (length xs) ys) i x h)

pub front-same : {A : Type 0} (xs : List A) → front xs xs ≡ xs
unfolding front
front-same xs = take-length xs

pub front-one : {A : Type 0} (xs ys : List A) → front xs (xs ++ ys) ≡ xs
unfolding front
front-one xs ys = take-append_seam xs ys

pub front-two : {A : Type 0} (xs ys zs : List A) → front xs ((xs ++ ys) ++ zs) ≡ xs
unfolding front
front-two [] ys zs = front-one [] (ys ++ zs)
front-two (x ∷ xs) ys zs = ap (λ l. x ∷ l) (front-two xs ys zs)

pub front-three : {A : Type 0} (xs ys zs us : List A) → front xs (((xs ++ ys) ++ zs) ++ us) ≡ xs
unfolding front
front-three [] ys zs us = front-one [] ((ys ++ zs) ++ us)
front-three (x ∷ xs) ys zs us = ap (λ l. x ∷ l) (front-three xs ys zs us)

-- The kinds of containers.
unfoldable pub kinds : List NestRecord → List NestKind
kinds [] = []
kinds (n ∷ ns) = nest_kind (Some n) ∷ kinds ns

kinds-there : (xs ys : List NestRecord) (i : ℕ) → front (kinds xs) (kinds ys) ≡ kinds xs → i < length xs → nest_kind (slice_get ys i) ≡ nest_kind (slice_get xs i)
unfolding front kinds
kinds-there [] ys i f below = absurd (omega arith)
kinds-there (x ∷ xs) [] i f below = cc
kinds-there (x ∷ xs) (y ∷ ys) zero f below = cc
kinds-there (x ∷ xs) (y ∷ ys) (suc i) f below = let rest : take (length (kinds xs)) (kinds ys) ≡ kinds xs = cc in kinds-there xs ys i rest (omega arith)

kinds-changed : (f : NestRecord → NestRecord) → ((n : NestRecord) → nest_kind (Some (f n)) ≡ nest_kind (Some n)) → (xs : List NestRecord) (i : ℕ) → kinds (changed_at i f xs) ≡ kinds xs
unfolding kinds
kinds-changed f h [] i = refl
kinds-changed f h (x ∷ xs) zero = ap (λ k. k ∷ kinds xs) (h x)
kinds-changed f h (x ∷ xs) (suc i) = ap (λ ks. nest_kind (Some x) ∷ ks) (kinds-changed f h xs i)

pub kinds-more : (xs ys : List NestRecord) → kinds (xs ++ ys) ≡ kinds xs ++ kinds ys
unfolding kinds
kinds-more [] ys = refl
kinds-more (x ∷ xs) ys = ap (λ ks. nest_kind (Some x) ∷ ks) (kinds-more xs ys)

pub kinds-statement : (s : Statement) (xs : List NestRecord) (i : ℕ) → kinds (changed_at i (with_entry (StatementEnters s)) xs) ≡ kinds xs
kinds-statement s xs i = kinds-changed (with_entry (StatementEnters s)) (entry-kind (StatementEnters s)) xs i

pub kinds-else_if : (a : ElseIf) (xs : List NestRecord) (i : ℕ) → kinds (changed_at i (with_entry (ElseIfEnters a)) xs) ≡ kinds xs
kinds-else_if a xs i = kinds-changed (with_entry (ElseIfEnters a)) (entry-kind (ElseIfEnters a)) xs i

pub kinds-else : (x : VastStatementBlock) (xs : List NestRecord) (i : ℕ) → kinds (changed_at i (with_entry (ElseEnters x)) xs) ≡ kinds xs
kinds-else x xs i = kinds-changed (with_entry (ElseEnters x)) (entry-kind (ElseEnters x)) xs i

pub kinds-case_arm : (a : CaseArm) (xs : List NestRecord) (i : ℕ) → kinds (changed_at i (with_entry (CaseArmEnters a)) xs) ≡ kinds xs
kinds-case_arm a xs i = kinds-changed (with_entry (CaseArmEnters a)) (entry-kind (CaseArmEnters a)) xs i

pub kinds-member : (m : Member) (xs : List NestRecord) (i : ℕ) → kinds (changed_at i (with_entry (MemberEnters m)) xs) ≡ kinds xs
kinds-member m xs i = kinds-changed (with_entry (MemberEnters m)) (entry-kind (MemberEnters m)) xs i

unique-kind : (unique : Bool) (n : NestRecord) → nest_kind (Some (with_unique unique n)) ≡ nest_kind (Some n)
unique-kind unique (BlockRecord ss) = refl
unique-kind unique _ = refl

pub kinds-unique : (unique : Bool) (xs : List NestRecord) (i : ℕ) → kinds (changed_at i (with_unique unique) xs) ≡ kinds xs
kinds-unique unique xs i = kinds-changed (with_unique unique) (unique-kind unique) xs i

front-length : {A : Type 0} (xs ys : List A) → front xs ys ≡ xs → length xs ≤ length ys
unfolding front
front-length xs ys f =
    let whole : xs ++ drop (length xs) ys ≡ ys = rw f at (take-append-drop (length xs) ys)
    in omega (arith, length-append xs (drop (length xs) ys), ap length whole)

-- What holds of the lists of two files. The first equation is there for `grind`, which takes a lemma up at a call that
-- shows all its variables.
pub keeps-lists :
    (b c : Bench) → c.file_type ≡ b.file_type → c.nodes.id ≡ b.nodes.id → front b.nodes.roots c.nodes.roots ≡ b.nodes.roots →
    front (kinds b.nests) (kinds c.nests) ≡ kinds b.nests → front b.ports c.ports ≡ b.ports → front b.assignments c.assignments ≡ b.assignments →
    length b.modules ≤ length c.modules → length b.functions ≤ length c.functions → front b.definitions c.definitions ≡ b.definitions →
    front b.artifacts c.artifacts ≡ b.artifacts → front b.instances c.instances ≡ b.instances → front b.always_blocks c.always_blocks ≡ b.always_blocks →
    (front b.nodes.roots c.nodes.roots ≡ front b.nodes.roots c.nodes.roots) × Keeps b c
keeps-lists b c dialect id roots nests ports assignments modules functions definitions artifacts instances always_blocks = (
  refl,
  keeps-grown b c (record {
    nodes = record { same_id = id; same_roots = λ i r h. front-there b.nodes.roots c.nodes.roots i r roots h };
    ports = front-length b.ports c.ports ports;
    assignments = λ i a h. front-there b.assignments c.assignments i a assignments h;
    modules = modules;
    definitions = front-length b.definitions c.definitions definitions;
    artifacts = λ i a h. front-there b.artifacts c.artifacts i a artifacts h;
    instances = front-length b.instances c.instances instances;
    nests = λ i below. kinds-there b.nests c.nests i nests below;
    functions = functions;
    always_blocks = λ i a h. front-there b.always_blocks c.always_blocks i a always_blocks h;
  }) dialect,
)

-- The lists before a call and after it: from the call's equation `grind` takes the two files.
pub seen :
    {A : Type 0} (old new : ArenaState) (result : Result A AllocError) (answer : Bench → A) (after : Bench → Bench) →
    GrowsTo old new result answer after → front (bench old).nodes.roots (bench new).nodes.roots ≡ front (bench old).nodes.roots (bench new).nodes.roots
seen old new result answer after h = refl

pub ruleset kept = (seen, made-keeps, keeps-lists, front-same, front-one, front-two, front-three, kinds-more, kinds-statement, kinds-else_if, kinds-else, kinds-case_arm, kinds-member, kinds-unique, more_modules, changed_modules, more_functions, changed_functions)
