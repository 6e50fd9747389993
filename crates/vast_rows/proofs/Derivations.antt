-- What is spelled is derived from the left, and back.
use Rattle.std.proofs.Common.{◌≡◌, ℕ, List, [], ◌∷◌, ◌++◌, refl, sym, ap, ◌∙◌, append_assoc, append-nil}
use Rattle.vast_literal.specs.Tokens as tokens
use Rattle.vast_rows.specs.declared.grammar.Item.{Item}
use Rattle.vast_rows.specs.declared.grammar.Item.TheVariants.{Token, Rule, Phrase}
use Rattle.vast_rows.specs.Events.{Event, Reads, name_of, made_by, named_by}
use Rattle.vast_rows.specs.Internal.Derives.{Derives, nothing, token, phrase, choice}
use Rattle.vast_rows.specs.Laws.{Tells}
use Rattle.vast_rows.specs.Rows.{Row}
use Rattle.vast_rows.specs.Telling.{Spells, no_items, a_token, a_phrase, a_rule}

-- What is spelled is derived, before any more.
pub derived : {rows : List Row} {s s' : List Item} {ts us : List tokens.Token} {es fs : List Event} → Spells rows s ts es fs → Derives rows s' us fs → Derives rows (s ++ s') (ts ++ us) es
derived no_items d = d
derived (a_token t e p) d = token t e (derived p d)
derived {us = us} (a_phrase {m = m} {ps = ps} {ts = ts} i p) d = phrase ps m i (append_assoc ps ts us) (derived p d)
derived {rows} {s' = s'} {us = us} (a_rule {s = s} {ps = ps} {ts = ts} {es = es} n row at ruled p q) d =
    let inner : Derives rows (row.items ++ (s ++ s')) (ps ++ (ts ++ us)) es = derived p (derived q d) in
    let whole : Derives rows (row.items ++ (s ++ s')) ((ps ++ ts) ++ us) es = rw (append_assoc ps ts us) inner in
    choice n row at ruled whole

record Cut (rows : List Row) (a b : List Item) (ts : List tokens.Token) (es fs : List Event) : Type 0 where
  before : List tokens.Token
  behind : List tokens.Token
  between : List Event
  spelled : Spells rows a before es between
  rest : Spells rows b behind between fs
  split : ts ≡ before ++ behind

-- Items one after the other come apart.
cut : {rows : List Row} {s : List Item} {ts : List tokens.Token} {es fs : List Event} (a b : List Item) → s ≡ a ++ b → Spells rows s ts es fs → Cut rows a b ts es fs
cut {rows} {s} {ts} {es} {fs} [] b e p = let q : Spells rows b ts es fs = rw e at p in record { before = []; behind = ts; between = es; spelled = no_items; rest = q; split = refl }
cut (i ∷ a) b e no_items = absurd (cc e)
cut {rows} (i ∷ a) b e (a_token {k = k} {s = s} {es = es} t h p) = let c = cut a b (let z : s ≡ a ++ b = cc e in z) p in
    let head : Token k ≡ i = cc e in
    let x : Spells rows (Token k ∷ a) (t ∷ c.before) (named_by (name_of t) es) c.between = a_token t h c.spelled in
    record { before = t ∷ c.before; behind = c.behind; between = c.between; spelled = rw head at x; rest = c.rest; split = ap (λ (v : List tokens.Token). t ∷ v) c.split }
cut {rows} (i ∷ a) b e (a_phrase {p = part} {m = m} {s = s} {ps = ps} {es = es} h p) = let c = cut a b (let z : s ≡ a ++ b = cc e in z) p in
    let head : Phrase part ≡ i = cc e in
    let x : Spells rows (Phrase part ∷ a) (ps ++ c.before) (Reads m ∷ es) c.between = a_phrase h c.spelled in
    record { before = ps ++ c.before; behind = c.behind; between = c.between; spelled = rw head at x; rest = c.rest; split = ap (λ (v : List tokens.Token). ps ++ v) c.split ∙ sym (append_assoc ps c.before c.behind) }
cut {rows} (i ∷ a) b e (a_rule {r = r} {s = s} {ps = ps} {es = es} n row at ruled q p) = let c = cut a b (let z : s ≡ a ++ b = cc e in z) p in
    let head : Rule r ≡ i = cc e in
    let x : Spells rows (Rule r ∷ a) (ps ++ c.before) (made_by row.action es) c.between = a_rule n row at ruled q c.spelled in
    record { before = ps ++ c.before; behind = c.behind; between = c.between; spelled = rw head at x; rest = c.rest; split = ap (λ (v : List tokens.Token). ps ++ v) c.split ∙ sym (append_assoc ps c.before c.behind) }

-- What is derived is spelled.
pub spelled : {rows : List Row} {s : List Item} {ts : List tokens.Token} {es : List Event} → Derives rows s ts es → Spells rows s ts es []
spelled nothing = no_items
spelled (token t e d) = a_token t e (spelled d)
spelled {rows} (phrase {p = part} {s = s} {ts = ts} {es = es} ps m i e d) =
    let x : Spells rows (Phrase part ∷ s) (ps ++ ts) (Reads m ∷ es) [] = a_phrase i (spelled d) in rw (← e) at x
spelled {rows} (choice {r = r} {s = s} {es = es} n row at ruled d) = let c = cut row.items s refl (spelled d) in
    let x : Spells rows (Rule r ∷ s) (c.before ++ c.behind) (made_by row.action es) [] = a_rule n row at ruled c.spelled c.rest in rw (← c.split) at x

-- Whole lists of tokens.
pub whole_derived : (rows : List Row) (r : ℕ) (ts : List tokens.Token) (es : List Event) → Tells rows r ts es → Derives rows (Rule r ∷ []) ts es
whole_derived rows r ts es p = let d : Derives rows (Rule r ∷ []) (ts ++ []) es = derived p nothing in rw (append-nil ts) at d
