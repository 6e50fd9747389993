-- What rows spell hangs on their rules and items alone.
use Rattle.std.proofs.Common.{◌≡◌, ℕ, suc, zero, List, [], ◌∷◌, ◌++◌, Some, refl, sym, ap, ◌∙◌, subst}
use Rattle.std.specs.List.{slice_get}
use Rattle.vast_literal.specs.Tokens as tokens
use Rattle.vast_rows.specs.declared.grammar.Item.{Item}
use Rattle.vast_rows.specs.declared.grammar.Item.TheVariants.{Rule}
use Rattle.vast_rows.specs.Events.{Event, made_by}
use Rattle.vast_rows.specs.Laws.{Tells}
use Rattle.vast_rows.specs.Rows.{Row, bare_row, bare}
use Rattle.vast_rows.specs.Telling.{Spells, no_items, a_token, a_phrase, a_rule}
use Rattle.vast_rows.proofs.Sets.{some_one}

bare_found : (rows : List Row) (n : ℕ) (row : Row) → slice_get rows n ≡ Some row → slice_get (bare rows) n ≡ Some (bare_row row)
bare_found [] n row e = absurd (cc)
bare_found (x ∷ rows) zero row e = ap (λ (v : Row). Some (bare_row v)) (some_one x row e)
bare_found (x ∷ rows) (suc n) row e = bare_found rows n row e

bare_back : (rows : List Row) (n : ℕ) (b : Row) → slice_get (bare rows) n ≡ Some b → (row : Row) × (slice_get rows n ≡ Some row) × (bare_row row ≡ b)
bare_back [] n b e = absurd (cc)
bare_back (x ∷ rows) zero b e = (x, refl, some_one (bare_row x) b e)
bare_back (x ∷ rows) (suc n) b e = bare_back rows n b e

pub to_bare : {rows : List Row} {s : List Item} {ts : List tokens.Token} {es fs : List Event} → Spells rows s ts es fs → Spells (bare rows) s ts es fs
to_bare no_items = no_items
to_bare (a_token t e p) = a_token t e (to_bare p)
to_bare (a_phrase i p) = a_phrase i (to_bare p)
to_bare {rows = rows} (a_rule n row at ruled p q) = a_rule n (bare_row row) (bare_found rows n row at) ruled (to_bare p) (to_bare q)

pub from_bare : (rows : List Row) {s : List Item} {ts : List tokens.Token} {es fs : List Event} → Spells (bare rows) s ts es fs → Spells rows s ts es fs
from_bare rows no_items = no_items
from_bare rows (a_token t e p) = a_token t e (from_bare rows p)
from_bare rows (a_phrase i p) = a_phrase i (from_bare rows p)
from_bare rows (a_rule {r = r} {s = s} {ps = ps} {ts = ts} {es = es} {fs = fs} {gs = gs} n row at ruled p q) =
    let r' = bare_back rows n row at in
    let items : Spells rows (r'.0).items ps es fs = subst (λ (v : Row). Spells rows v.items ps es fs) (sym r'.2) (from_bare rows p) in
    let whole : Spells rows (Rule r ∷ s) (ps ++ ts) (made_by (r'.0).action es) gs = a_rule n r'.0 r'.1 (ap (λ (v : Row). v.rule) r'.2 ∙ ruled) items (from_bare rows q) in
    subst (λ (v : Row). Spells rows (Rule r ∷ s) (ps ++ ts) (made_by v.action es) gs) r'.2 whole

-- Rows that are the page but for what the machine looks at tell what it tells.
pub by_page : (rows page : List Row) (rule : ℕ) (ts : List tokens.Token) (es : List Event) → bare rows ≡ page → (Tells rows rule ts es → Tells page rule ts es) × (Tells page rule ts es → Tells rows rule ts es)
by_page rows page rule ts es e = (λ p. rw (← e) (to_bare p), λ p. from_bare rows (rw (← e) at p))
