-- How what the page spells is put together.
use Rattle.std.proofs.Common.{◌≡◌, ℕ, List, [], ◌∷◌, ◌++◌, Some, refl, sym, subst, append_assoc, append-nil}
use Rattle.std.specs.List.{slice_get}
use Rattle.vast_literal.specs.Tokens as tokens
use Rattle.vast_literal.specs.FileGrammar.{IsJoined, last_item, next_item}
use Rattle.vast_rows.specs.declared.action.Action.TheVariants.{NoMore, OneMore}
use Rattle.vast_rows.specs.declared.action.Listed.{Listed}
use Rattle.vast_rows.specs.declared.grammar.Item.{Item}
use Rattle.vast_rows.specs.declared.grammar.Item.TheVariants.{Rule, Phrase}
use Rattle.vast_rows.specs.declared.grammar.Phrase as code
use Rattle.vast_rows.specs.declared.rule.Rule.{Rule as RuleName}
use Rattle.vast_rows.specs.Events.{Event, Makes, Reads, made_by}
use Rattle.vast_rows.specs.Numbers.{rule_number, CloseParen}
use Rattle.vast_rows.specs.Page.{page}
use Rattle.vast_rows.specs.Phrases.{Meaning, IsPhrase}
use Rattle.vast_rows.specs.Rows.{Row}
use Rattle.vast_rows.specs.Symbols.{mark}
use Rattle.vast_rows.specs.Telling.{Spells, no_items, a_token, a_phrase, a_rule}
pub use Rattle.vast_rows.specs.Telling.{no_items as stop, a_token as tok, a_phrase as phr}
use Rattle.vast_rows.specs.Trace.{trace_list}
use Rattle.vast_rows.proofs.Means.{row_of}

abbrev pub Spelled : List Item → List tokens.Token → (told others : List Event) → Type 0
Spelled s ts es fs = Spells page s ts es fs

abbrev pub Node : RuleName → List tokens.Token → (told others : List Event) → Type 0
Node name ts es fs = Spelled (Rule (rule_number name) ∷ []) ts es fs

-- The same along an equation of tokens.
pub along : {s : List Item} {ts us : List tokens.Token} {es fs : List Event} → ts ≡ us → Spelled s ts es fs → Spelled s us es fs
along {s} {es = es} {fs = fs} e p = subst (λ (v : List tokens.Token). Spelled s v es fs) e p

-- Items after others.
pub thens : {s s' : List Item} {ts us : List tokens.Token} {es fs gs : List Event} → Spelled s ts es fs → Spelled s' us fs gs → Spelled (s ++ s') (ts ++ us) es gs
thens no_items q = q
thens (a_token t e p) q = a_token t e (thens p q)
thens {us = us} (a_phrase {ps = ps} {ts = ts} i p) q = along (sym (append_assoc ps ts us)) (a_phrase i (thens p q))
thens {us = us} (a_rule {ps = ps} {ts = ts} n row at ruled w p) q = along (sym (append_assoc ps ts us)) (a_rule n row at ruled w (thens p q))

pub nod : {r : ℕ} {s : List Item} {ps ts : List tokens.Token} {es fs gs : List Event} → Spelled (Rule r ∷ []) ps es fs → Spelled s ts fs gs → Spelled (Rule r ∷ s) (ps ++ ts) es gs
nod m p = thens m p

pub phr_last : {part : code.Phrase} {m : Meaning} {ps : List tokens.Token} {es : List Event} → IsPhrase part ps m → Spelled (Phrase part ∷ []) ps (Reads m ∷ es) es
phr_last {ps = ps} i = along (append-nil ps) (a_phrase i no_items)

-- Two items before a parenthesis.
pub closed_by : {i j : Item} {ts : List tokens.Token} {es fs : List Event} → Spelled (i ∷ (j ∷ [])) ts es fs → Spelled (i ∷ (j ∷ (mark CloseParen ∷ []))) (ts ++ (tokens.Mark CloseParen ∷ [])) es fs
closed_by p = thens p (a_token (tokens.Mark CloseParen) refl no_items)

-- A row by its rule and which it is of that.
pub at : {ts : List tokens.Token} {es fs : List Event} {row : Row} (name : RuleName) (which : ℕ) → slice_get page (row_of name which) ≡ Some row → Spelled row.items ts es fs → Spelled (Rule row.rule ∷ []) ts (made_by row.action es) fs
at {ts = ts} {row = row} name which e p = along (append-nil ts) (a_rule (row_of name which) row e refl p no_items)

-- What is told of a list after its first row.
abbrev pub listed_behind : {A : Type 0} → Listed → (A → List Event → List Event) → List A → List Event → List Event
listed_behind what one [] es = es
listed_behind what one (x ∷ xs) es = one x (trace_list what one xs es)

-- A list of which there is one.
pub listed : {A : Type 0} {P : List tokens.Token → A → Type 0} {between : tokens.Token} {ts us : List tokens.Token} {xs : List A} {s : List Item} {es : List Event} (what : Listed) (one : A → List Event → List Event) →
    IsJoined P between ts xs → Spelled s us (Makes (OneMore what) ∷ listed_behind what one xs es) es → Spelled s us (trace_list what one xs es) es
unfolding trace_list
listed what one (last_item p) q = q
listed what one (next_item p ps) q = q

-- Items with a token between each two: the first, and what a rule says of the others.
pub joined_to : {A : Type 0} {P : List tokens.Token → A → Type 0} {between : tokens.Token} {ts : List tokens.Token} {xs : List A} {item more : ℕ} {es : List Event} (what : Listed) (one : A → List Event → List Event) →
    ((us : List tokens.Token) (x : A) (fs : List Event) → P us x → Spelled (Rule item ∷ []) us (one x fs) fs) → Spelled (Rule more ∷ []) [] (Makes (NoMore what) ∷ es) es →
    ((us : List tokens.Token) (fs : List Event) → Spelled (Rule item ∷ (Rule more ∷ [])) us fs es → Spelled (Rule more ∷ []) (between ∷ us) (Makes (OneMore what) ∷ fs) es) →
    IsJoined P between ts xs → Spelled (Rule item ∷ (Rule more ∷ [])) ts (listed_behind what one xs es) es
unfolding trace_list
joined_to {ts = ts} what one each none next (last_item p) = along (append-nil ts) (nod (each _ _ _ p) none)
joined_to what one each none next (next_item p ps) = nod (each _ _ _ p) (listed what one ps (next _ _ (joined_to what one each none next ps)))
