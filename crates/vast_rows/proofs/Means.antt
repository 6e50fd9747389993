-- What rows make of what their items mean: one function for each row, from the parts to the whole.
use Rattle.std.proofs.Common.{◌≡◌, ℕ, suc, zero, ◌+◌, ◌-◌, List, [], ◌∷◌, ◌++◌, get_or, Bool, true, false, cond, codes, nat_eq, nat_lt, if◌then◌else◌, Option, Some, None, refl, sym, subst, append-nil}
use Rattle.std.specs.List.{slice_get}
use Rattle.std.specs.Str.{bytes_eq}
use Rattle.std.proofs.lemmas.Slice.Eq.{bytes_eq-Decides}
use Rattle.vast_literal.specs.Tokens as tokens
use Rattle.vast_rows.specs.declared.grammar.Item.{Item}
use Rattle.vast_rows.specs.declared.grammar.Item.TheVariants.{Token, Rule, Phrase}
use Rattle.vast_rows.specs.declared.rule.Rule.{Rule as RuleName}
use Rattle.vast_rows.specs.declared.rule.Rule.TheVariants.{File}
use Rattle.vast_rows.specs.declared.kind.Kind.TheVariants.{MacroWord, IncludeWord}
use Rattle.vast_rows.specs.Kinds.{token_kind, number}
use Rattle.vast_rows.specs.Internal.Orders.{marks, signs, keys}
use Rattle.vast_rows.proofs.Rules.{rules}
use Rattle.vast_rows.specs.Numbers.{rule_number, OpenParen, LogicOr, IfKey}
use Rattle.vast_rows.specs.Page.{page}
use Rattle.vast_rows.specs.Phrases.{Meaning, IsPhrase}
use Rattle.vast_rows.specs.Rows.{Row}
use Rattle.vast_rows.specs.Events.{Event}
use Rattle.vast_rows.specs.Telling.{Spells, no_items, a_token, a_phrase, a_rule}
use Rattle.vast_rows.proofs.Sets.{some_one}

-- The token of a kind of which there is one.
abbrev fixed : ℕ → Option tokens.Token
fixed k =
    if nat_lt k 9 then None
    else if nat_lt k 26 then Some (tokens.Mark (get_or marks (k - 9) OpenParen))
    else if nat_lt k 50 then Some (tokens.Operator (get_or signs (k - 26) LogicOr))
    else Some (tokens.Reserved (get_or keys (k - 50) IfKey))

-- What stands for each token of a kind: a name, a macro and a literal by their texts.
abbrev texted : ℕ → (tokens.Token → Type 0) → Type 0
texted (suc zero) F = (w : List ℕ) → F (tokens.Word w)
texted (suc (suc (suc zero))) F = (f : List ℕ) → F (tokens.SystemWord f)
texted (suc (suc (suc (suc zero)))) F = (m : List ℕ) → F (tokens.MacroWord m)
texted (suc (suc (suc (suc (suc zero))))) F = F (tokens.MacroWord (codes "include"))
texted (suc (suc (suc (suc (suc (suc zero)))))) F = (n : List ℕ) → F (tokens.Number n)
texted (suc (suc (suc (suc (suc (suc (suc zero))))))) F = (n : List ℕ) → F (tokens.Based n)
texted (suc (suc (suc (suc (suc (suc (suc (suc zero)))))))) F = (w : List ℕ) → F (tokens.Quoted w)
texted k F = (t : tokens.Token) → token_kind t ≡ k → F t

abbrev made : Option tokens.Token → ℕ → (tokens.Token → Type 0) → Type 0
made (Some t) k F = F t
made None k F = texted k F

abbrev pub ForToken : ℕ → (tokens.Token → Type 0) → Type 0
ForToken k F = made (fixed k) k F

pub for_token : (t : tokens.Token) (F : tokens.Token → Type 0) → ForToken (token_kind t) F → F t
for_token (tokens.Word w) F m = m w
for_token (tokens.MacroWord w) F m = go (bytes_eq w (codes "include")) refl
  where
    go : (b : Bool) → bytes_eq w (codes "include") ≡ b → F (tokens.MacroWord w)
    go true e = let n : ForToken (number (cond true IncludeWord MacroWord)) F = rw e at m in
        let same : w ≡ codes "include" = (bytes_eq-Decides w (codes "include")).0 e in
        subst (λ (v : List ℕ). F (tokens.MacroWord v)) (sym same) n
    go false e = let n : ForToken (number (cond false IncludeWord MacroWord)) F = rw e at m in n w
for_token (tokens.Mark OpenParen) F m = m
for_token (tokens.Mark _) F m = m
for_token (tokens.Operator LogicOr) F m = m
for_token (tokens.Operator _) F m = m
for_token (tokens.Reserved IfKey) F m = m
for_token (tokens.Reserved _) F m = m
for_token (tokens.Keyword w) F m = m (tokens.Keyword w) refl
for_token (tokens.SystemWord w) F m = m w
for_token (tokens.Number w) F m = m w
for_token (tokens.Based w) F m = m w
for_token (tokens.Quoted w) F m = m w

-- From the meanings of the items, one after the other, to that of their tokens.
abbrev pub MakesOf : (ℕ → List tokens.Token → Type 0) → List Item → (List tokens.Token → Type 0) → Type 0
MakesOf M [] K = K []
MakesOf M (Token k ∷ s) K = ForToken k (λ t. MakesOf M s (λ us. K (t ∷ us)))
MakesOf M (Phrase p ∷ []) K = (ps : List tokens.Token) (m : Meaning) → IsPhrase p ps m → K ps
MakesOf M (Phrase p ∷ (i ∷ s)) K = (ps : List tokens.Token) (m : Meaning) → IsPhrase p ps m → MakesOf M (i ∷ s) (λ us. K (ps ++ us))
MakesOf M (Rule r ∷ []) K = (ps : List tokens.Token) → M r ps → K ps
MakesOf M (Rule r ∷ (i ∷ s)) K = (ps : List tokens.Token) → M r ps → MakesOf M (i ∷ s) (λ us. K (ps ++ us))

-- Each row makes its rule.
abbrev pub AllMake : (ℕ → List tokens.Token → Type 0) → List Row → Type 0
AllMake M [] = Unit {0}
AllMake M (row ∷ rows) = MakesOf M row.items (M row.rule) × AllMake M rows

infixr 4 ◌&◌
abbrev pub ◌&◌ : {A B : Type 0} → A → B → A × B
a & b = (a, b)

row_makes : (M : ℕ → List tokens.Token → Type 0) (rows : List Row) (n : ℕ) (row : Row) → AllMake M rows → slice_get rows n ≡ Some row → MakesOf M row.items (M row.rule)
row_makes M [] n row m e = absurd (cc)
row_makes M (x ∷ rows) zero row m e = subst (λ (v : Row). MakesOf M v.items (M v.rule)) (some_one x row e) m.0
row_makes M (x ∷ rows) (suc n) row m e = row_makes M rows n row m.1 e

nothing_left : {rows : List Row} {ts : List tokens.Token} {es fs : List Event} → Spells rows [] ts es fs → ts ≡ []
nothing_left no_items = refl

-- What is spelled makes something.
pub folds : {rows : List Row} {s : List Item} {ts : List tokens.Token} {es fs : List Event} (M : ℕ → List tokens.Token → Type 0) (K : List tokens.Token → Type 0) → AllMake M rows → Spells rows s ts es fs → MakesOf M s K → K ts
folds M K m no_items k = k
folds M K m (a_token {s = s} {ts = ts} t e p) k =
    let n : ForToken (token_kind t) (λ t. MakesOf M s (λ us. K (t ∷ us))) = subst (λ (v : ℕ). ForToken v (λ t. MakesOf M s (λ us. K (t ∷ us)))) (sym e) k in
    folds M (λ us. K (t ∷ us)) m p (for_token t (λ t. MakesOf M s (λ us. K (t ∷ us))) n)
folds M K m (a_phrase {m = x} {s = []} {ps = ps} {ts = ts} i p) k = rw (nothing_left p, append-nil ps) (k ps x i)
folds M K m (a_phrase {m = x} {s = j ∷ s} {ps = ps} i p) k = folds M (λ us. K (ps ++ us)) m p (k ps x i)
folds {rows} M K m (a_rule {s = []} {ps = ps} n row at ruled p q) k =
    let below : M row.rule ps = folds M (M row.rule) m p (row_makes M rows n row m at) in
    rw (nothing_left q, append-nil ps) (k ps (subst (λ (v : ℕ). M v ps) ruled below))
folds {rows} M K m (a_rule {s = j ∷ s} {ps = ps} n row at ruled p q) k =
    let below : M row.rule ps = folds M (M row.rule) m p (row_makes M rows n row m at) in
    folds M (λ us. K (ps ++ us)) m q (k ps (subst (λ (v : ℕ). M v ps) ruled below))

-- The rows of the page.

-- Where the rows of a rule begin.
abbrev from_row : List Row → (rule place : ℕ) → ℕ
from_row [] rule place = place
from_row (row ∷ rows) rule place = if nat_eq row.rule rule then place else from_row rows rule (suc place)

-- The number of a row: which it is of its rule.
abbrev pub row_of : RuleName → ℕ → ℕ
row_of name which = from_row page (rule_number name) 0 + which

abbrev pub rule_of : ℕ → RuleName
rule_of n = get_or rules n File
