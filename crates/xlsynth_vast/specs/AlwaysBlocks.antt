-- Which lists of events are refused, and what a file holds after a call that adds an always block.
use Rattle.std.specs.Prelude.{ℕ, suc, List, [], ◌∷◌, ◌++◌, Result, Ok, Err, codes, decimal, if◌then◌else◌}
use Rattle.vast_core.specs.declared.handle.Expr.{Expr}
use Rattle.vast_core.specs.declared.ast.scope.Scope.{Scope}
use Rattle.vast_literal.specs.declared.kind.AlwaysKind.{AlwaysKind}
use Rattle.vast_core.specs.declared.node.Member.TheVariants.{Always as AlwaysEntry}
use Rattle.vast_core.specs.Bench.{Bench, tree_of}
use Rattle.vast_core.specs.Sound.{is_event}
use Rattle.vast_core.specs.Scopes.{with_scope_member}
use Rattle.vast_core.specs.Loops.{next_always, with_always}

-- The words that refuse the event at this place of a list, for an always block that begins with the word.
unfoldable pub wrong_event : (word : List ℕ) (index : ℕ) → List ℕ
wrong_event word index =
    codes "Unsupported expression type passed to sensitivity list for " ++ (word ++ (codes " at index " ++ (decimal index ++
    codes ". Only posedge, negedge, or logic-reference expressions are supported.")))

-- Each event is an edge or a name, or else the first that isn't is refused; the first of these has the place i.
abbrev pub events_from : (word : List ℕ) → Bench → (i : ℕ) → List Expr → Result (Unit {0}) (List ℕ)
events_from word b i [] = Ok tt
events_from word b i (e ∷ es) = if is_event (tree_of b e) then events_from word b (suc i) es else Err (wrong_event word i)

-- Each of the events is an edge or a name, or else the first that isn't is refused.
abbrev pub unless_wrong_event : (word : List ℕ) → Bench → List Expr → Result (Unit {0}) (List ℕ)
unless_wrong_event word b events = events_from word b 0 events

-- An always block with an empty block, as the last member of a module or of a loop.
abbrev pub with_scope_always : Scope → AlwaysKind → List Expr → Bench → Bench
with_scope_always owner kind events b = with_scope_member owner (AlwaysEntry (next_always b)) (with_always kind events b)
