use Rattle.std.proofs.Common.{◌≡◌, ℕ, List, map, ◌∙◌, ap, Bor, codes, rules, IfOk}
use Rattle.std.specs.List.{join_by}
use Rattle.std.proofs.lemmas.Iterator.{YieldsList-from_map_by}
use Rattle.std.proofs.lemmas.Iterator.Consumers.{map_from_collect, YieldsList-from_rest}
use Rattle.vast_core.specs.Records.{in_byte_order}
use Rattle.xlsynth_vast.specs.Declarations.{listed_names}
use Rattle.xlsynth_vast.proofs.Taken.{join_by-map}
use Rattle.xlsynth_vast.proofs.declarations.listed_names.Goals as goal

pub returns : goal.returns
returns c =
    let collected : IfOk c.collect.result (λ w. map (λ (r : Bor (List ℕ)). r.now) w.items ≡ map (λ (r : Bor (List ℕ)). r.now) c.in_ok-sorted.sorted.keys) =
    map_from_collect c.collect.result c.collect.ensures.ran (YieldsList-from_map_by _ (λ (r : Bor (List ℕ)). r.now) (λ (r : Bor (List ℕ)). r.now) (YieldsList-from_rest c.in_ok-sorted.sorted.keys cc) c.map.ensures.closure (λ x r q k. search rules)) in
    let views : map (λ (r : Bor (List ℕ)). r.now) c.in_ok-taken.taken.items ≡ map (λ (r : Bor (List ℕ)). r.now) c.in_ok-sorted.sorted.keys = rw c.in_ok-taken.was at collected in
    let listed : join_by (λ (r : Bor (List ℕ)). r.now) (codes ", ") c.deref.result.now ≡ listed_names (in_byte_order c.args.names.now) =
    join_by-map (λ (r : Bor (List ℕ)). r.now) (codes ", ") c.deref.result.now ∙ ap (λ (names : List (List ℕ)). listed_names names) (rw (← c.deref.ensures.value) at views ∙ c.in_ok-sorted.ensures) in
    rw (← listed) c.join.ensures.ok
