-- What calls know that add a member to a scope: what comes, and the entry that names it, are the file's.
use Rattle.std.proofs.Common.{◌≡◌, ℕ, ◌<◌, Bool, true, false, List, [], ◌++◌, length, Option, Some, All, refl, ap}
use Rattle.std.specs.Prelude.{IfSome, String}
use Rattle.std.specs.declared.alloc.Global.{Global}
use Rattle.vast_core.specs.declared.ast.scope.Scope.{Scope}
use Rattle.vast_core.specs.declared.ast.scope.Scope.TheVariants.{Module as ScopeModule, Loop as ScopeLoop}
use Rattle.vast_core.specs.Handles.{Expr, LogicRef, GenerateLoop, VastDataType, VastStatementBlock}
use Rattle.vast_literal.specs.declared.kind.AlwaysKind.{AlwaysKind}
use Rattle.vast_core.specs.Records.{Member, DeclarationEntry, AssignmentEntry, ParameterEntry, TypedefEntry, DeclaredType, FunctionEntry, AlwaysEntry, ConditionalEntry, LoopEntry, ParameterForm}
use Rattle.vast_core.specs.Nests.{LoopNestRecord, FunctionRecord}
use Rattle.vast_core.specs.Bench.{Bench, OwnsExpr, OwnsType, OwnsBlock}
use Rattle.vast_core.specs.DeclaredNames.{names_by_member}
use Rattle.vast_core.specs.Parents.{held_by_member}
use Rattle.vast_core.specs.WrittenKinds.{HasOwnKind}
use Rattle.vast_core.specs.Sound.{EventSound, FormSound, TypedefSound, MemberSound, MemberNewer}
use Rattle.vast_core.specs.Growth.{next_logic_ref, next_continuous, with_expr}
use Rattle.vast_core.specs.Internal.Parameters.{IsDeclaredBy}
use Rattle.vast_core.specs.Containers.{next_conditional, new_conditional}
use Rattle.vast_core.specs.Internal.Containers.{Fresh, FreshSound, GrowthSound, with_fresh, after_growth, no_fresh, fresh_assignment, made, held_by_fresh, detached_used}
use Rattle.vast_core.proofs.Containers.{fresh_container}
use Rattle.vast_core.specs.Loops.{next_always, next_loop, new_always, new_loop, with_loop}
use Rattle.vast_core.proofs.Loops.{fresh_always, fresh_loop, fresh_name, fresh_type}
use Rattle.vast_core.specs.Unattached.{always_over}
use Rattle.vast_core.specs.Scopes.{OwnsScope, IsShared, IsOlder, with_scope_member, with_scope_parameter}
use Rattle.vast_core.specs.Internal.Scopes.{listing_in}
use Rattle.vast_core.proofs.Lists.{slice_get-seam}
use Rattle.vast_core.proofs.Sound.{MemberSound-kept}
use Rattle.vast_core.proofs.Growing.{Grows-fresh}
use Rattle.vast_core.proofs.Enters.{loop-place, nothing-comes, conditional-comes, next_conditional_owned}
use Rattle.vast_core.proofs.EntersMembers.{always-comes, next_always_owned, loop-comes, loop_owned, name-comes, type-comes, next_continuous_owned}
use Rattle.vast_core.proofs.Unattached.{fresh_over, over-comes, next_over_owned}

-- A member without a name of its own.
abbrev IsUnnamed : Member → Type 0
IsUnnamed (DeclarationEntry kind name data_type) = ⊥
IsUnnamed (FunctionEntry f) = ⊥
IsUnnamed _ = Unit {0}

no-names : (fs : List FunctionRecord) (m : Member) → IsUnnamed m → names_by_member fs m ≡ []
no-names fs (DeclarationEntry kind name data_type) h = absurd h
no-names fs (FunctionEntry f) h = absurd h
no-names fs _ h = refl

own-kind : (m : Member) → IsUnnamed m → HasOwnKind m
own-kind (DeclarationEntry kind name data_type) h = absurd h
own-kind (FunctionEntry f) h = absurd h
own-kind _ h = tt

-- What the member holds is newer than the loop that holds it.
abbrev NewerIn : Scope → Bench → Member → Type 0
NewerIn (ScopeModule m) c entry = Unit {0}
NewerIn (ScopeLoop l) c entry = MemberNewer c l.id.index entry

-- The entry of a scope is sound where the member is, and places what is made.
scope-enters :
    (b : Bench) (scope : Scope) (m : Member) (f : Fresh) → OwnsScope b scope → FreshSound b (with_fresh f b) f → MemberSound (with_fresh f b) m → IsUnnamed m → NewerIn scope (with_fresh f b) m →
    held_by_member m ++ held_by_fresh f ≡ made b f ++ detached_used f.takes_detached b.detached → GrowthSound b (listing_in scope m) f
scope-enters b (ScopeModule owner) m f o h k unnamed newer placed =
    record { fresh = h; listing = (o, record { member = k; kind = own-kind m unnamed; declares = no-names (with_fresh f b).functions m unnamed; free = tt }); placed = placed }
scope-enters b (ScopeLoop owner) m f o h k unnamed newer placed = record { fresh = h; listing = (loop-place b owner o, (k, newer)); placed = placed }

-- What is newer than each loop there was.
newer-in : (b c : Bench) (scope : Scope) (m : Member) → OwnsScope b scope → ((i : ℕ) → i < length b.nests → MemberNewer c i m) → NewerIn scope c m
newer-in b c (ScopeModule owner) m o h = tt
newer-in b c (ScopeLoop owner) m o h = h owner.id.index (loop-place b owner o)

-- Members that any number of scopes may hold.

shared-unnamed : (m : Member) → IsShared m → IsUnnamed m
shared-unnamed (DeclarationEntry kind name data_type) h = h
shared-unnamed (FunctionEntry f) h = h
shared-unnamed _ h = tt

shared-newer : (c : Bench) (i : ℕ) (m : Member) → IsShared m → MemberNewer c i m
shared-newer c i (DeclarationEntry kind name data_type) h = h
shared-newer c i (FunctionEntry f) h = h
shared-newer c i (AlwaysEntry a) h = absurd h
shared-newer c i (ConditionalEntry x) h = absurd h
shared-newer c i (LoopEntry l) h = absurd h
shared-newer c i _ h = tt

shared-alone : (m : Member) → IsShared m → held_by_member m ≡ []
shared-alone (DeclarationEntry kind name data_type) h = absurd h
shared-alone (FunctionEntry f) h = absurd h
shared-alone (AlwaysEntry a) h = absurd h
shared-alone (ConditionalEntry c) h = absurd h
shared-alone (LoopEntry l) h = absurd h
shared-alone _ h = refl

pub shared-enters : (b : Bench) (scope : Scope) (m : Member) → OwnsScope b scope → MemberSound b m → IsShared m → GrowthSound b (listing_in scope m) no_fresh
shared-enters b scope m o k shared =
    scope-enters b scope m no_fresh o (nothing-comes b b) k (shared-unnamed m shared) (newer-in b b scope m o (λ i below. shared-newer b i m shared)) (rw (shared-alone m shared) refl)

pub assignment-enters :
    (b : Bench) (scope : Scope) (lhs rhs : Expr) → OwnsScope b scope → OwnsExpr b lhs → OwnsExpr b rhs →
    GrowthSound b (listing_in scope (AssignmentEntry (next_continuous b))) (fresh_assignment (record { lhs = lhs; rhs = rhs; nonblocking = false }))
assignment-enters b scope lhs rhs o h k =
    let f : Fresh = fresh_assignment (record { lhs = lhs; rhs = rhs; nonblocking = false }) in
    scope-enters b scope (AssignmentEntry (next_continuous b)) f o
    (record { terms = tt; port = tt; fresh_module = tt; definition = tt; artifact = tt; instance = tt; assignment = (h, k); container = tt; function = tt; always_block = tt })
    (next_continuous_owned b lhs rhs) tt (newer-in b (with_fresh f b) scope (AssignmentEntry (next_continuous b)) o (λ i below. tt)) refl

pub parameter-enters :
    (b : Bench) (scope : Scope) (local : Bool) (form : ParameterForm) (value : Expr) (name : List ℕ) (type : Option VastDataType) → OwnsScope b scope → FormSound b form → OwnsExpr b value →
    IfSome type (OwnsType b) → GrowthSound b (listing_in scope (ParameterEntry local form value)) (fresh_name name type)
parameter-enters b scope local form value name type o h k m =
    let f : Fresh = fresh_name name type in
    scope-enters b scope (ParameterEntry local form value) f o (name-comes b name type m) (MemberSound-kept b (with_fresh f b) (Grows-fresh b f) (ParameterEntry local form value) (h, k)) tt
    (newer-in b (with_fresh f b) scope (ParameterEntry local form value) o (λ i below. tt)) refl

pub typedef-enters :
    (b : Bench) (scope : Scope) (t : DeclaredType) (name : String Global) → OwnsScope b scope → TypedefSound b t →
    GrowthSound b (listing_in scope (TypedefEntry t)) (fresh_type name)
typedef-enters b scope t name o h =
    let f : Fresh = fresh_type name in
    scope-enters b scope (TypedefEntry t) f o (type-comes b name) (MemberSound-kept b (with_fresh f b) (Grows-fresh b f) (TypedefEntry t) h) tt
    (newer-in b (with_fresh f b) scope (TypedefEntry t) o (λ i below. tt)) refl

-- Members that hold what comes with them.

pub always-enters :
    (b : Bench) (scope : Scope) (kind : AlwaysKind) (events : List Expr) → OwnsScope b scope → All (EventSound b) events →
    GrowthSound b (listing_in scope (AlwaysEntry (next_always b))) (fresh_always (new_always b kind events))
always-enters b scope kind events o h =
    let f : Fresh = fresh_always (new_always b kind events) in
    scope-enters b scope (AlwaysEntry (next_always b)) f o (always-comes b kind events h) (next_always_owned b kind events) tt
    (newer-in b (with_fresh f b) scope (AlwaysEntry (next_always b)) o (λ i below. rw (slice_get-seam b.always_blocks (new_always b kind events)) below)) refl

over-newer :
    (b : Bench) (scope : Scope) (kind : AlwaysKind) (events : List Expr) (block : VastStatementBlock) → IsOlder scope block →
    NewerIn scope (with_fresh (fresh_over (always_over kind events block)) b) (AlwaysEntry (next_always b))
over-newer b (ScopeModule owner) kind events block older = tt
over-newer b (ScopeLoop owner) kind events block older = rw (slice_get-seam b.always_blocks (always_over kind events block)) older

pub always_over-enters :
    (b : Bench) (scope : Scope) (kind : AlwaysKind) (events : List Expr) (block : VastStatementBlock) → OwnsScope b scope → All (EventSound b) events → OwnsBlock b block → b.detached ≡ Some block →
    IsOlder scope block → GrowthSound b (listing_in scope (AlwaysEntry (next_always b))) (fresh_over (always_over kind events block))
always_over-enters b scope kind events block o h k detached older =
    scope-enters b scope (AlwaysEntry (next_always b)) (fresh_over (always_over kind events block)) o (over-comes b kind events block h k) (next_over_owned b kind events block) tt
    (over-newer b scope kind events block older) (rw detached refl)

pub conditional-enters :
    (b : Bench) (scope : Scope) (condition : Expr) → OwnsScope b scope → OwnsExpr b condition →
    GrowthSound b (listing_in scope (ConditionalEntry (next_conditional b))) (fresh_container (new_conditional b condition) true)
conditional-enters b scope condition o h =
    let f : Fresh = fresh_container (new_conditional b condition) true in
    scope-enters b scope (ConditionalEntry (next_conditional b)) f o (conditional-comes b condition h) (next_conditional_owned b condition) tt
    (newer-in b (with_fresh f b) scope (ConditionalEntry (next_conditional b)) o (λ i below. below)) refl

pub loop-enters :
    (b : Bench) (scope : Scope) (variable : List ℕ) (name : List ℕ) (start end : Expr) (label : Option (List ℕ)) → OwnsScope b scope → OwnsExpr b start → OwnsExpr b end →
    GrowthSound b (listing_in scope (LoopEntry (next_loop b))) (fresh_loop variable (new_loop b name start end label))
loop-enters b scope variable name start end label o h k =
    let f : Fresh = fresh_loop variable (new_loop b name start end label) in
    scope-enters b scope (LoopEntry (next_loop b)) f o (loop-comes b variable name start end label h k) (loop_owned b variable name start end label) tt
    (newer-in b (with_fresh f b) scope (LoopEntry (next_loop b)) o (λ i below. below)) refl

-- The same, of nodes that are known to be these.
pub loop-enters-as :
    (b : Bench) (scope : Scope) (h : GenerateLoop) (variable : List ℕ) (g : LogicRef) (name : List ℕ) (start end : Expr) (label : Option (List ℕ)) (ms : List Member) →
    h ≡ next_loop b → g ≡ next_logic_ref b → ms ≡ [] → OwnsScope b scope → OwnsExpr b start → OwnsExpr b end →
    GrowthSound b (listing_in scope (LoopEntry h)) (fresh_loop variable (LoopNestRecord (record { genvar = g; name = name; start = start; end = end; label = label; members = ms })))
loop-enters-as b scope h variable g name start end label ms e f m o k l = rw (e, f, m) (loop-enters b scope variable name start end label o k l)

-- What the file is after these growths.

pub scope-grown : (b : Bench) (scope : Scope) (m : Member) (f : Fresh) → after_growth (listing_in scope m) f b ≡ with_scope_member scope m (with_fresh f b)
scope-grown b (ScopeModule owner) m f = refl
scope-grown b (ScopeLoop owner) m f = refl

pub loop-grown :
    (b : Bench) (scope : Scope) (h : GenerateLoop) (variable : List ℕ) (n : List ℕ) (g : LogicRef) (name : List ℕ) (start end : Expr) (label : Option (List ℕ)) (ms : List Member) →
    h ≡ next_loop b → g ≡ next_logic_ref b → ms ≡ [] → variable ≡ n → name ≡ n →
    with_scope_member scope (LoopEntry h) (with_fresh (fresh_loop variable (LoopNestRecord (record { genvar = g; name = name; start = start; end = end; label = label; members = ms }))) b)
    ≡ with_scope_member scope (LoopEntry (next_loop b)) (with_loop n start end label b)
loop-grown b scope h variable n g name start end label ms e f m v o = rw (e, f, m, v, o) refl

-- A name may come before the member or after it.
pub parameter-grown :
    (b : Bench) (scope : Scope) (local : Bool) (form : ParameterForm) (value : Expr) (name : List ℕ) (type : Option VastDataType) → IsDeclaredBy b form (name, type) →
    with_scope_member scope (ParameterEntry local form value) (with_fresh (fresh_name name type) b) ≡ with_scope_parameter scope local form value b
parameter-grown b (ScopeModule owner) local form value name type h = ap (λ t. with_expr t (with_scope_member (ScopeModule owner) (ParameterEntry local form value) b)) h.0
parameter-grown b (ScopeLoop owner) local form value name type h = ap (λ t. with_expr t (with_scope_member (ScopeLoop owner) (ParameterEntry local form value) b)) h.0

pub ruleset enters_scopes = (shared-enters, parameter-enters, typedef-enters, always-enters, always_over-enters, loop-enters)
