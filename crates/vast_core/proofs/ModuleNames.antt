-- The names that modules declare stay distinct, and are those that are taken, whatever grows.
use Rattle.std.proofs.Common.{◌≡◌, ◌≢◌, ℕ, zero, suc, ◌+◌, ◌<◌, ◌≤◌, Bool, true, false, List, [], ◌∷◌, ◌++◌, length, flat_map, Option, Some, None, slice_get, refl, sym, ap, ◌∙◌, arith}
use Rattle.std.specs.Prelude.{IfSome}
use Rattle.std.specs.declared.cmp.Ordering.{Ordering}
use Rattle.std.specs.declared.cmp.Ordering.TheVariants.{Less, Equal, Greater}
use Rattle.std.specs.Ordering.{nat_cmp}
use Rattle.std.specs.Cmp.Lexicographic.{slice_cmp}
use Rattle.std.specs.Str.{bytes_eq}
use Rattle.std.proofs.lemmas.Slice.Eq.{bytes_eq-Decides}
use Rattle.vast_core.specs.Handles.{ModulePort, VastModule}
use Rattle.vast_core.specs.Records.{Port, ModuleRecord, Member, DeclarationEntry, FunctionEntry, IsFree, with_name, changed_at, with_listed_port, with_listed_name}
use Rattle.vast_core.specs.Nests.{FunctionVariable, FunctionRecord}
use Rattle.vast_core.specs.Bench.{Bench, OwnsPort, names_of}
use Rattle.vast_core.specs.Functions.{with_listed_variable}
use Rattle.vast_core.specs.Hoisting.{with_members_hoisted}
use Rattle.vast_core.specs.DeclaredNames.{name_of_port, name_of_function, names_by_port, names_by_member, names_declared, times, NamesSound}
use Rattle.vast_core.specs.Sound.{AreDistinct, Each, MemberSound, ModuleSound, RecordsSound, NamesAreSound}
use Rattle.vast_core.specs.Internal.Containers.{ModuleChange, HeaderGains, PortsGain, MembersGain, Hoists, with_change, ChangeSound, Listing, InModule, InFunction, with_listed, listed_name, with_listing, Fresh, with_fresh, ListingSound}
use Rattle.vast_core.proofs.Lists.{below-of, All-cons, All-head, All-tail, Each-changed_there}
use Rattle.vast_core.proofs.Added.{Each-added, get-added}
use Rattle.vast_core.proofs.Names.{test-equal}
use Rattle.vast_core.proofs.Counts.{count-append, over-push, over-hoisted}

-- A name more in a set.

free-none-case : (name x : List ℕ) (xs : List (List ℕ)) (t : Bool) → bytes_eq name x ≡ t → (x ≢ name) → times name xs ≡ 0 → times name (x ∷ xs) ≡ 0
free-none-case name x xs true e other h = absurd (other (sym ((bytes_eq-Decides name x).0 e)))
free-none-case name x xs false e other h = rw e h

free-none : (name : List ℕ) (names : List (List ℕ)) → IsFree name names → times name names ≡ 0
free-none name [] h = refl
free-none name (x ∷ xs) h =
    let P : List ℕ → Type 0 = λ taken. taken ≢ name in
    free-none-case name x xs (bytes_eq name x) refl (All-head P x xs h) (free-none name xs (All-tail P x xs h))

times-with-case :
    (n new x : List ℕ) (xs : List (List ℕ)) (o : Ordering) → slice_cmp nat_cmp new x ≡ o → (x ≢ new) →
    times n (with_name new xs) ≡ times n xs + times n (new ∷ []) → times n (with_name new (x ∷ xs)) ≡ times n (x ∷ xs) + times n (new ∷ [])
times-with-case n new x xs Less e other h = let front = count-append (bytes_eq n) (new ∷ []) (x ∷ xs) in rw e (omega (arith, front))
times-with-case n new x xs Equal e other h = absurd (other (test-equal new x (rw e refl)))
times-with-case n new x xs Greater e other h =
    let old = count-append (bytes_eq n) (x ∷ []) xs in
    let next = count-append (bytes_eq n) (x ∷ []) (with_name new xs) in
    rw e (omega (arith, h, old, next))

times-with : (n new : List ℕ) (names : List (List ℕ)) → IsFree new names → times n (with_name new names) ≡ times n names + times n (new ∷ [])
times-with n new [] h = omega arith
times-with n new (x ∷ xs) h =
    let P : List ℕ → Type 0 = λ taken. taken ≢ new in
    times-with-case n new x xs (slice_cmp nat_cmp new x) refl (All-head P x xs h) (times-with n new xs (All-tail P x xs h))

once-with-case : (n new : List ℕ) (names : List (List ℕ)) (t : Bool) → bytes_eq n new ≡ t → IsFree new names → times n names ≤ 1 → times n names + times n (new ∷ []) ≤ 1
once-with-case n new names true e free h =
    let same : n ≡ new = (bytes_eq-Decides n new).0 e in
    let none : times n names ≡ 0 = rw same (free-none new names free) in
    rw e (omega (arith, none))
once-with-case n new names false e free h = rw e (omega (arith, h))

once-with : (n new : List ℕ) (names : List (List ℕ)) → IsFree new names → times n names ≤ 1 → times n (with_name new names) ≤ 1
once-with n new names free h =
    let more = times-with n new names free in
    let once = once-with-case n new names (bytes_eq n new) refl free h in
    omega (arith, more, once)

-- A module that declares a name more, and takes it.
gained :
    (ports : List Port) (functions : List FunctionRecord) (x y : ModuleRecord) (name : List ℕ) →
    ((n : List ℕ) → times n (names_declared ports functions y) ≡ times n (names_declared ports functions x) + times n (name ∷ [])) → y.names ≡ with_name name x.names →
    IsFree name x.names → NamesSound ports functions x → NamesSound ports functions y
gained ports functions x y name more is free h =
    record {
      taken = λ n.
          let old = h.taken n in
          let new = more n in
          let set = times-with n name x.names free in
          let here = ap (times n) is in
          omega (arith, old, new, set, here);
      once = λ n. rw is (once-with n name x.names free (h.once n));
    }

-- Other records in which the module's ports and functions have the same names.

ports-read :
    (b : Bench) (more : List Port) → ((i : ℕ) → i < length b.ports → slice_get more i ≡ slice_get b.ports i) → (ps : List ModulePort) → Each (OwnsPort b) ps →
    flat_map (names_by_port more) ps ≡ flat_map (names_by_port b.ports) ps
ports-read b more same [] h = refl
ports-read b more same (p ∷ ps) h =
    rw (same p.id.index (below-of p.id.index (length b.ports) h.0.of_kind)) (ap (λ r. name_of_port (slice_get b.ports p.id.index) ∷ r) (ports-read b more same ps h.1))

members-read :
    (b : Bench) (more : List FunctionRecord) → ((i : ℕ) → i < length b.functions → name_of_function (slice_get more i) ≡ name_of_function (slice_get b.functions i)) → (ms : List Member) →
    Each (MemberSound b) ms → flat_map (names_by_member more) ms ≡ flat_map (names_by_member b.functions) ms
members-read b more same [] h = refl
members-read b more same (DeclarationEntry kind name data_type ∷ ms) h = ap (λ r. name ∷ r) (members-read b more same ms h.1)
members-read b more same (FunctionEntry f ∷ ms) h =
    rw (same f.id.index (below-of f.id.index (length b.functions) h.0.of_kind)) (ap (λ r. name_of_function (slice_get b.functions f.id.index) ∷ r) (members-read b more same ms h.1))
members-read b more same (_ ∷ ms) h = members-read b more same ms h.1

-- The records of c name what those of b named.
record SameNames (b c : Bench) : Type 0 where
  ports : (i : ℕ) → i < length b.ports → slice_get c.ports i ≡ slice_get b.ports i
  functions : (i : ℕ) → i < length b.functions → name_of_function (slice_get c.functions i) ≡ name_of_function (slice_get b.functions i)

names-read : (b c : Bench) (m : ModuleRecord) → SameNames b c → ModuleSound b m → names_declared c.ports c.functions m ≡ names_declared b.ports b.functions m
names-read b c m same h = rw (ports-read b c.ports same.ports m.ports h.ports, members-read b c.functions same.functions m.members h.members) refl

names-kept : (b c : Bench) → SameNames b c → (m : ModuleRecord) → ModuleSound b m → NamesSound b.ports b.functions m → NamesSound c.ports c.functions m
names-kept b c same m s h = record { taken = λ n. ap (times n) (names-read b c m same s) ∙ h.taken n; once = h.once }

Each-map-both : {A : Type 0} {P Q R : A → Type 0} → ((x : A) → P x → Q x → R x) → (xs : List A) → Each P xs → Each Q xs → Each R xs
Each-map-both f [] h k = tt
Each-map-both f (x ∷ xs) h k = (f x h.0 k.0, Each-map-both f xs h.1 k.1)

all-kept : (b c : Bench) → SameNames b c → (ms : List ModuleRecord) → Each (ModuleSound b) ms → Each (NamesSound b.ports b.functions) ms → Each (NamesSound c.ports c.functions) ms
all-kept b c same ms s h = Each-map-both (names-kept b c same) ms s h

-- New nodes.

same-fresh : (b : Bench) (f : Fresh) → SameNames b (with_fresh f b)
same-fresh b f = record { ports = get-added b.ports f.port; functions = λ i below. ap name_of_function (get-added b.functions f.function i below) }

pub names-fresh : (b : Bench) (f : Fresh) → RecordsSound b → IfSome f.fresh_module (NamesSound (with_fresh f b).ports (with_fresh f b).functions) → NamesAreSound b → NamesAreSound (with_fresh f b)
names-fresh b f s new h =
    let c : Bench = with_fresh f b in
    Each-added (NamesSound c.ports c.functions) b.modules f.fresh_module (all-kept b c (same-fresh b f) b.modules s.modules h) new

-- A new entry.

free-there : (name : List ℕ) (o : Option ModuleRecord) (x : ModuleRecord) → o ≡ Some x → IsFree name (names_of o) → IsFree name x.names
free-there name o x e h = rw e at h

port-listed :
    (b : Bench) (port : ModulePort) (name : List ℕ) → names_by_port b.ports port ≡ name ∷ [] → (x : ModuleRecord) → IsFree name x.names →
    NamesSound b.ports b.functions x → NamesSound b.ports b.functions (with_listed_port port name x)
port-listed b port name e x free h =
    gained b.ports b.functions x (with_listed_port port name x) name
    (λ n.
    let t = bytes_eq n in
    let members = flat_map (names_by_member b.functions) x.members in
    let push = over-push t (names_by_port b.ports) x.ports port in
    let old = count-append t (flat_map (names_by_port b.ports) x.ports) members in
    let new = count-append t (flat_map (names_by_port b.ports) (x.ports ++ port ∷ [])) members in
    let is = ap (times n) e in
    omega (arith, push, old, new, is))
    refl free h

member-more :
    (b : Bench) (entry : Member) (names : List (List ℕ)) (x : ModuleRecord) (n : List ℕ) → names_by_member b.functions entry ≡ names →
    times n (flat_map (names_by_port b.ports) x.ports ++ flat_map (names_by_member b.functions) (x.members ++ entry ∷ [])) ≡ times n (names_declared b.ports b.functions x) + times n names
member-more b entry names x n e =
    let t = bytes_eq n in
    let ports = flat_map (names_by_port b.ports) x.ports in
    let push = over-push t (names_by_member b.functions) x.members entry in
    let old = count-append t ports (flat_map (names_by_member b.functions) x.members) in
    let new = count-append t ports (flat_map (names_by_member b.functions) (x.members ++ entry ∷ [])) in
    let is = ap (times n) e in
    omega (arith, push, old, new, is)

member-listed :
    (b : Bench) (entry : Member) (name : Option (List ℕ)) → names_by_member b.functions entry ≡ listed_name name → (x : ModuleRecord) → IfSome name (λ n. IsFree n x.names) →
    NamesSound b.ports b.functions x → NamesSound b.ports b.functions (with_listed entry name x)
member-listed b entry None e x free h = record { taken = λ n. let more = member-more b entry [] x n e in let old = h.taken n in omega (arith, more, old); once = h.once }
member-listed b entry (Some name) e x free h = gained b.ports b.functions x (with_listed_name entry name x) name (λ n. member-more b entry (name ∷ []) x n e) refl free h

maybe-free : (name : Option (List ℕ)) (o : Option ModuleRecord) (x : ModuleRecord) → o ≡ Some x → IfSome name (λ n. IsFree n (names_of o)) → IfSome name (λ n. IsFree n x.names)
maybe-free None o x e h = tt
maybe-free (Some name) o x e h = free-there name o x e h

listed-name : (local : Bool) (v : FunctionVariable) (r : FunctionRecord) → (with_listed_variable local v r).name ≡ r.name
listed-name false v r = refl
listed-name true v r = refl

name-changed :
    (change : FunctionRecord → FunctionRecord) → ((r : FunctionRecord) → (change r).name ≡ r.name) → (rs : List FunctionRecord) (i j : ℕ) →
    name_of_function (slice_get (changed_at i change rs) j) ≡ name_of_function (slice_get rs j)
name-changed change k [] i j = refl
name-changed change k (r ∷ rs) zero zero = k r
name-changed change k (r ∷ rs) zero (suc j) = refl
name-changed change k (r ∷ rs) (suc i) zero = refl
name-changed change k (r ∷ rs) (suc i) (suc j) = name-changed change k rs i j

hoisted-names : (ports : List Port) (functions : List FunctionRecord) (start : ℕ) (x : ModuleRecord) → NamesSound ports functions x → NamesSound ports functions (with_members_hoisted start x)
hoisted-names ports functions start x h =
    record {
      taken = λ n.
          let t = bytes_eq n in
          let y : ModuleRecord = with_members_hoisted start x in
          let names = flat_map (names_by_port ports) x.ports in
          let same = over-hoisted t (names_by_member functions) start x.members in
          let before = count-append t names (flat_map (names_by_member functions) x.members) in
          let after = count-append t names (flat_map (names_by_member functions) y.members) in
          let old = h.taken n in
          omega (arith, same, before, after, old);
      once = h.once;
    }

change-names :
    (c : Bench) (owner : VastModule) (change : ModuleChange) → ChangeSound c owner change → (x : ModuleRecord) → slice_get c.modules owner.id.index ≡ Some x → NamesSound c.ports c.functions x →
    NamesSound c.ports c.functions (with_change change x)
change-names c owner (HeaderGains p) k x at e = record { taken = e.taken; once = e.once }
change-names c owner (PortsGain port name) k x at e = port-listed c port name k.declares x (free-there name (slice_get c.modules owner.id.index) x at k.free) e
change-names c owner (MembersGain entry name) k x at e = member-listed c entry name k.declares x (maybe-free name (slice_get c.modules owner.id.index) x at k.free) e
change-names c owner (Hoists start) k x at e = hoisted-names c.ports c.functions start x e

pub names-listing : (b c : Bench) (l : Listing) → RecordsSound c → ListingSound b c l → NamesAreSound c → NamesAreSound (with_listing l c)
names-listing b c (InModule owner change) s k h = Each-changed_there (NamesSound c.ports c.functions) (with_change change) c.modules owner.id.index (change-names c owner change k.1) h
names-listing b c (InFunction f local v) s k h =
    let d : Bench = with_listing (InFunction f local v) c in
    all-kept c d (record { ports = λ i below. refl; functions = λ i below. name-changed (with_listed_variable local v) (listed-name local v) c.functions f.id.index i }) c.modules s.modules h
names-listing b c _ s k h = h

true-is-not-false : true ≡ false → ⊥
true-is-not-false h = cc

-- Where each name stands once at most in a list, no two of the list are the same.

free-of-case : (name x : List ℕ) (xs : List (List ℕ)) (t : Bool) → bytes_eq name x ≡ t → times name (x ∷ xs) ≡ 0 → (times name xs ≡ 0 → IsFree name xs) → IsFree name (x ∷ xs)
free-of-case name x xs true e h k = let front = count-append (bytes_eq name) (x ∷ []) xs in let one : times name (x ∷ []) ≡ 1 = rw e refl in absurd (omega (arith, h, front, one))
free-of-case name x xs false e h k =
    let front = count-append (bytes_eq name) (x ∷ []) xs in
    let other : x ≢ name = λ is. true-is-not-false (sym ((bytes_eq-Decides name x).1 (sym is)) ∙ e) in
    All-cons (λ taken. taken ≢ name) x xs other (k (omega (arith, h, front)))

free-of : (name : List ℕ) (names : List (List ℕ)) → times name names ≡ 0 → IsFree name names
free-of name [] h = λ k d below. absurd (omega arith)
free-of name (x ∷ xs) h = free-of-case name x xs (bytes_eq name x) refl h (free-of name xs)

pub distinct-of : (names : List (List ℕ)) → ((name : List ℕ) → times name names ≤ 1) → AreDistinct names
distinct-of [] h = tt
distinct-of (x ∷ xs) h = (
  free-of x xs (let front = count-append (bytes_eq x) (x ∷ []) xs in let one : times x (x ∷ []) ≡ 1 = rw ((bytes_eq-Decides x x).1 refl) refl in let all = h x in omega (arith, front, one, all)),
  distinct-of xs (λ n. let front = count-append (bytes_eq n) (x ∷ []) xs in let all = h n in omega (arith, front, all)),
)
