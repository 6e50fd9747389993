-- What calls that add always blocks, loops, conditionals and functions know: what comes, and the member that names it,
-- are the file's.
use Rattle.std.proofs.Common.{◌≡◌, ℕ, false, List, [], ◌∷◌, length, Option, Some, All, refl, arith, length-append}
use Rattle.std.specs.Prelude.{IfSome, String}
use Rattle.std.specs.declared.alloc.Global.{Global}
use Rattle.vast_literal.specs.Tree.{NameTree, MaybeType, Untyped, Typed}
use Rattle.vast_core.specs.Handles.{Expr, VastModule, VastDataType, LogicRef, VastFunction, VastStatementBlock}
use Rattle.vast_literal.specs.declared.kind.AlwaysKind.{AlwaysKind}
use Rattle.vast_core.specs.Nodes.{Root, ExprRoot, with_node}
use Rattle.vast_core.specs.Records.{FunctionEntry}
use Rattle.vast_core.specs.Nests.{BlockRecord, FunctionVariable}
use Rattle.vast_core.specs.Bench.{Bench, NameIsFree, OwnsExpr, OwnsType, OwnsBlock, OwnsModule, OwnsLoop, OwnsAlways, OwnsFunction, OwnsLogicRef, OwnsContinuous, type_of}
use Rattle.vast_core.specs.Growth.{with_named_member, next_logic_ref, next_continuous, with_assignment}
use Rattle.vast_core.specs.Sound.{EventSound}
use Rattle.vast_core.specs.Containers.{next_block}
use Rattle.vast_core.specs.Internal.Containers.{after_growth, MembersGain, InModule, with_fresh, GrowthSound, FreshSound}
use Rattle.vast_core.specs.Loops.{with_function, next_always, next_loop, next_function, new_always, with_always, new_loop, new_function}
use Rattle.vast_core.proofs.Loops.{fresh_always, fresh_name, fresh_type, fresh_loop, fresh_function}
use Rattle.vast_core.proofs.Lists.{slice_get-seam, Each-own}
use Rattle.vast_core.proofs.NodeLaws.{Extends-root, HasExpr-kept, HasType-kept}
use Rattle.vast_core.proofs.Terms.{last-test}

-- Always blocks.

pub next_always_owned : (b : Bench) (kind : AlwaysKind) (events : List Expr) → OwnsAlways (with_always kind events b) (next_always b)
next_always_owned b kind events = record { of_file = refl; of_kind = rw (length-append b.always_blocks (new_always b kind events ∷ [])) (last-test (length b.always_blocks)) }

pub always_block_owned : (b : Bench) (kind : AlwaysKind) (events : List Expr) → OwnsBlock (with_always kind events b) (next_block b)
always_block_owned b kind events = record { of_file = refl; of_kind = rw (slice_get-seam b.nests (BlockRecord [])) refl }

pub always-comes : (b : Bench) (kind : AlwaysKind) (events : List Expr) → All (EventSound b) events → FreshSound b (with_always kind events b) (fresh_always (new_always b kind events))
always-comes b kind events h =
    record { terms = tt; port = tt; fresh_module = tt; definition = tt; artifact = tt; instance = tt; assignment = tt; container = tt; function = tt; always_block = record { events = Each-own (EventSound b) events h; block = always_block_owned b kind events } }

-- Loops.

abbrev pub grown_loop : Bench → List ℕ → List ℕ → Expr → Expr → Option (List ℕ) → Bench
grown_loop b variable name start end label = with_fresh (fresh_loop variable (new_loop b name start end label)) b

pub loop_owned : (b : Bench) (variable : List ℕ) (name : List ℕ) (start end : Expr) (label : Option (List ℕ)) → OwnsLoop (grown_loop b variable name start end label) (next_loop b)
loop_owned b variable name start end label = record { of_file = refl; of_kind = rw (slice_get-seam b.nests (new_loop b name start end label)) refl }

pub named_owned : (b c : Bench) (r : Root) (name : List ℕ) (type : MaybeType) → c.nodes ≡ with_node b.nodes r → r ≡ ExprRoot (NameTree name type) → OwnsLogicRef c (next_logic_ref b)
named_owned b c r name type n e = record { of_file = rw n refl; of_kind = rw (n, slice_get-seam b.nodes.roots r, e) refl }

pub loop-comes :
    (b : Bench) (variable : List ℕ) (name : List ℕ) (start end : Expr) (label : Option (List ℕ)) → OwnsExpr b start → OwnsExpr b end →
    FreshSound b (grown_loop b variable name start end label) (fresh_loop variable (new_loop b name start end label))
loop-comes b variable name start end label h k =
    let r : Root = ExprRoot (NameTree variable Untyped) in
    record {
      terms = (tt, tt, tt);
      port = tt;
      fresh_module = tt;
      definition = tt;
      artifact = tt;
      instance = tt;
      assignment = tt;
      container = record {
        genvar = named_owned b (grown_loop b variable name start end label) r variable Untyped refl refl;
        start = HasExpr-kept b.nodes (with_node b.nodes r) (Extends-root b.nodes r) start h;
        end = HasExpr-kept b.nodes (with_node b.nodes r) (Extends-root b.nodes r) end k;
        members = tt;
      };
      function = tt;
      always_block = tt;
    }

-- Names of parameters, and assignments.

pub name-comes : (b : Bench) (name : List ℕ) (type : Option VastDataType) → IfSome type (OwnsType b) → FreshSound b (with_fresh (fresh_name name type) b) (fresh_name name type)
name-comes b name type h = record { terms = (h, tt, tt); port = tt; fresh_module = tt; definition = tt; artifact = tt; instance = tt; assignment = tt; container = tt; function = tt; always_block = tt }

pub type-comes : (b : Bench) (name : String Global) → FreshSound b (with_fresh (fresh_type name) b) (fresh_type name)
type-comes b name = record { terms = (tt, tt, tt); port = tt; fresh_module = tt; definition = tt; artifact = tt; instance = tt; assignment = tt; container = tt; function = tt; always_block = tt }

pub next_continuous_owned : (b : Bench) (lhs rhs : Expr) → OwnsContinuous (with_assignment (record { lhs = lhs; rhs = rhs; nonblocking = false }) b) (next_continuous b)
next_continuous_owned b lhs rhs = record { of_file = refl; of_kind = rw (slice_get-seam b.assignments (record { lhs = lhs; rhs = rhs; nonblocking = false })) refl }

-- Functions.

abbrev grown_function : Bench → List ℕ → List ℕ → VastDataType → Bench
grown_function b variable name type = with_fresh (fresh_function variable type (new_function b name type)) b

function_owned : (b : Bench) (variable : List ℕ) (name : List ℕ) (type : VastDataType) → OwnsFunction (grown_function b variable name type) (next_function b)
function_owned b variable name type = record { of_file = refl; of_kind = rw (length-append b.functions (new_function b name type ∷ [])) (last-test (length b.functions)) }

body_owned : (b : Bench) (variable : List ℕ) (name : List ℕ) (type : VastDataType) → OwnsBlock (grown_function b variable name type) (next_block b)
body_owned b variable name type = record { of_file = refl; of_kind = rw (slice_get-seam b.nests (BlockRecord [])) refl }

pub function-enters :
    (b : Bench) (owner : VastModule) (variable : List ℕ) (name : List ℕ) (type : VastDataType) → OwnsModule b owner → OwnsType b type → NameIsFree b owner name →
    GrowthSound b (InModule owner (MembersGain (FunctionEntry (next_function b)) (Some name))) (fresh_function variable type (new_function b name type))
function-enters b owner variable name type h k free =
    let r : Root = ExprRoot (NameTree variable (Typed (type_of b type))) in
    record {
      fresh = record {
        terms = (k, tt, tt);
        port = tt;
        fresh_module = tt;
        definition = tt;
        artifact = tt;
        instance = tt;
        assignment = tt;
        container = tt;
        function = record {
          sound = record {
            result_type = HasType-kept b.nodes (with_node b.nodes r) (Extends-root b.nodes r) type k;
            result_name = named_owned b (grown_function b variable name type) r variable (Typed (type_of b type)) refl refl;
            inputs = tt;
            locals = tt;
            body = body_owned b variable name type;
            distinct = (λ k d below. absurd (omega arith), tt);
            taken = λ other. (λ h. h, λ h. h);
          };
          kinds = tt;
        };
        always_block = tt;
      };
      listing = (h, record { member = function_owned b variable name type; kind = tt; declares = rw (slice_get-seam b.functions (new_function b name type)) refl; free = free });
      placed = refl;
    }

-- The same, of a node that is known to be this.
pub function-enters-as :
    (b : Bench) (owner : VastModule) (h : VastFunction) (variable : List ℕ) (taken name : List ℕ) (type : VastDataType) (g : LogicRef) (inputs locals : List FunctionVariable) (body : VastStatementBlock) (names : List (List ℕ)) →
    h ≡ next_function b → g ≡ next_logic_ref b → inputs ≡ [] → locals ≡ [] → body ≡ next_block b → names ≡ name ∷ [] → taken ≡ name → OwnsModule b owner → OwnsType b type → NameIsFree b owner name →
    GrowthSound b (InModule owner (MembersGain (FunctionEntry h) (Some taken))) (fresh_function variable type (record { name = name; result_type = type; result_name = g; inputs = inputs; locals = locals; body = body; names = names }))
function-enters-as b owner h variable taken name type g inputs locals body names e f i l x n t o k free = rw (e, f, i, l, x, n, t) (function-enters b owner variable name type o k free)

-- What the file is after this growth.
pub function-grown :
    (b : Bench) (owner : VastModule) (h : VastFunction) (variable : List ℕ) (n taken name : List ℕ) (type : VastDataType) (g : LogicRef) (inputs locals : List FunctionVariable) (body : VastStatementBlock) (names : List (List ℕ)) →
    h ≡ next_function b → g ≡ next_logic_ref b → inputs ≡ [] → locals ≡ [] → body ≡ next_block b → names ≡ n ∷ [] → taken ≡ n → name ≡ n → variable ≡ n →
    after_growth (InModule owner (MembersGain (FunctionEntry h) (Some taken))) (fresh_function variable type (record { name = name; result_type = type; result_name = g; inputs = inputs; locals = locals; body = body; names = names })) b
    ≡ with_named_member owner (FunctionEntry (next_function b)) n (with_function n type b)
function-grown b owner h variable n taken name type g inputs locals body names e f i l x m t o v = rw (e, f, i, l, x, m, t, o, v) refl

pub ruleset enters_members = (function-enters)
