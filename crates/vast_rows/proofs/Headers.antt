-- Headers of loops are what their parts are.
use Rattle.std.proofs.Common.{◌≡◌, ℕ, suc, zero, List, [], ◌∷◌, ◌++◌, codes, Some, None, refl, sym, ap, ◌∙◌, subst, arith, append_assoc}
use Rattle.vast_literal.specs.Grammar.{Spells, up, binary, name, paren}
use Rattle.vast_literal.specs.NormalExpr.{NormalExpr, Name, Binary}
use Rattle.vast_literal.specs.Tokens.{level, Token, Word, Number, Operator, Mark}
use Rattle.vast_literal.proofs.Levels.{lower}
use Rattle.vast_rows.specs.declared.grammar.Phrase.TheVariants.{LoopHead}
use Rattle.vast_rows.specs.declared.header.Part.{Part}
use Rattle.vast_rows.specs.declared.header.Part.TheVariants as part
use Rattle.vast_rows.specs.declared.kind.Kind.TheVariants as kind
use Rattle.vast_rows.specs.Internal.Sources.{tail, SpellsPhrase}
use Rattle.vast_rows.specs.Internal.Headers.{MayBe, Coming, nothing, token, variable, one, expression, bound, opens, named, closes, compares, closing, header}
use Rattle.vast_rows.specs.Kinds.{token_kind}
use Rattle.vast_rows.specs.Numbers.{Less, Plus, OpenParen, CloseParen, Semicolon, Assign}
use Rattle.vast_rows.specs.Phrases.{IsPhrase, Meaning, IsLoop, loop_head}
use Rattle.vast_rows.proofs.Means.{ForToken, for_token}

-- The token of a kind of which there is one, and a name.
pub the_token : (k : ℕ) (F : Token → Type 0) → ForToken k F → (t : Token) → token_kind t ≡ k → F t
the_token k F m t e = for_token t F (subst (λ (j : ℕ). ForToken j F) (sym e) m)

mark_token : (u t : Token) → ForToken (token_kind u) (λ v. v ≡ u) → token_kind t ≡ token_kind u → t ≡ u
mark_token u t m e = the_token (token_kind u) (λ v. v ≡ u) m t e

module _ {i : List ℕ} where
  -- A variable, and a condition, in parentheses.
  names : {k : ℕ} {ls us : List Token} {s : List Part} → Spells k ls (Name i) → Coming (Some i) (part.Comparison ∷ s) us → Coming (Some i) (part.Condition ∷ s) (ls ++ us)
  names (up small e) c = names e c
  names (name w) c = named w refl c
  names {us = us} (paren {ts = ts} e) c = opens (Mark OpenParen) refl (rw (append_assoc ts (Mark CloseParen ∷ []) us) (names e (closes (Mark CloseParen) refl c)))

  conditions : {k : ℕ} {cs us : List Token} {s : List Part} {e : NormalExpr} → Spells k cs (Binary Less (Name i) e) → Coming (Some i) s us → Coming (Some i) (part.Condition ∷ s) (cs ++ us)
  unfolding level
  conditions (up small p) c = conditions p c
  conditions {us = us} (binary {ls = ls} {rs = rs} op pos l r) c = rw (append_assoc ls (Operator Less ∷ rs) us) (names l (compares (Operator Less) refl (bound rs refl (_, r) c)))
  conditions {us = us} (paren {ts = ts} p) c = opens (Mark OpenParen) refl (rw (append_assoc ts (Mark CloseParen ∷ []) us) (conditions p (closing (Mark CloseParen) refl c)))

-- What stands after the condition.
abbrev step : List Part
step =
    part.Variable ∷ part.Token (kind.Mark Assign) ∷ part.Variable ∷ part.Token (kind.Operator Plus) ∷ part.One ∷ part.Token (kind.Mark CloseParen) ∷ []

abbrev then_step : List Part
then_step = part.Token (kind.Mark Semicolon) ∷ step

head_parts : {i : List ℕ} (ts rest : List Token) (m : Meaning) → IsPhrase LoopHead ts m → ts ≡ Word i ∷ rest → Coming (Some i) header rest
head_parts {i} ts rest m (loop_head {xs = xs} {x = x} j p q) e =
    let same : i ≡ j = cc e in
    rw same (subst (λ (us : List Token). Coming (Some j) header us) (ap tail e)
    (token (Mark Assign) refl (expression xs refl (x, p) (token (Mark Semicolon) refl (conditions q (token (Mark Semicolon) refl
    (variable j refl (token (Mark Assign) refl (variable j refl (token (Operator Plus) refl (one (token (Mark CloseParen) refl nothing))))))))))))

-- Parentheses that are open, before tokens, and what closes them, before parts.
abbrev opened : ℕ → List Token → List Token
opened zero ts = ts
opened (suc n) ts = opened n (Mark OpenParen ∷ ts)

abbrev closed : ℕ → List Part
closed zero = then_step
closed (suc n) = part.Closing ∷ closed n

-- The condition of that variable, so many of whose parentheses are open before the tokens.
record Whole (i : List ℕ) (n : ℕ) (ts : List Token) : Type 0 where
  front : List Token
  behind : List Token
  end : NormalExpr
  split : opened n ts ≡ front ++ behind
  spelled : Spells 0 front (Binary Less (Name i) end)
  more : Coming (Some i) then_step behind

-- A closed parenthesis around tokens.
around : {t : Token} (cs us : List Token) → t ≡ Mark CloseParen → (Mark OpenParen ∷ (cs ++ (Mark CloseParen ∷ []))) ++ us ≡ Mark OpenParen ∷ (cs ++ (t ∷ us))
around cs us e = rw e (ap (λ (v : List Token). Mark OpenParen ∷ v) (append_assoc cs (Mark CloseParen ∷ []) us))

module _ {i : List ℕ} where
  inner : {n : ℕ} {ts us : List Token} → us ≡ Mark OpenParen ∷ ts → Whole i n us → Whole i (suc n) ts
  inner {n} e w = record { front = w.front; behind = w.behind; end = w.end; split = ap (opened n) (sym e) ∙ w.split; spelled = w.spelled; more = w.more }

  outer : {n : ℕ} {ts us : List Token} → us ≡ Mark OpenParen ∷ ts → Whole i (suc n) ts → Whole i n us
  outer {n} e w = record { front = w.front; behind = w.behind; end = w.end; split = ap (opened n) e ∙ w.split; spelled = w.spelled; more = w.more }

  wraps : (n : ℕ) {us : List Token} (cs : List Token) {e : NormalExpr} → Coming (Some i) (closed n) us → Spells 0 cs (Binary Less (Name i) e) → Whole i n (cs ++ us)
  wraps zero {us} cs {e} c p = record { front = cs; behind = us; end = e; split = refl; spelled = p; more = c }
  wraps (suc n) cs (closing {ts = us} t k c) p =
      inner (around cs us (mark_token (Mark CloseParen) t refl k)) (wraps n (Mark OpenParen ∷ (cs ++ (Mark CloseParen ∷ []))) c (lower 14 0 _ _ (omega arith) (omega arith) (paren p)))

  lessened : (n : ℕ) (t : Token) (ls us : List Token) → token_kind t ≡ token_kind (Operator Less) → Coming (Some i) (part.Bound ∷ closed n) us → Spells 14 ls (Name i) → Whole i n (ls ++ (t ∷ us))
  unfolding level
  lessened n t ls us k (bound {ts = ts} rs f x c) p =
      let less : t ≡ Operator Less = mark_token (Operator Less) t refl k in
      let q : Spells 7 (ls ++ (Operator Less ∷ rs)) (Binary Less (Name i) x.0) = binary Less (omega arith) (lower 14 7 _ _ (omega arith) (omega arith) p) x.1 in
      let w : Whole i n ((ls ++ (Operator Less ∷ rs)) ++ ts) = wraps n (ls ++ (Operator Less ∷ rs)) c (lower 7 0 _ _ (omega arith) (omega arith) q) in
      rw (less, f, ← append_assoc ls (Operator Less ∷ rs) ts) w

  compared : (n : ℕ) (ls : List Token) {us : List Token} → Coming (Some i) (part.Comparison ∷ closed n) us → Spells 14 ls (Name i) → Whole i n (ls ++ us)
  compared zero ls (compares {ts = us} t k c) p = lessened zero t ls us k c p
  compared (suc n) ls (compares {ts = us} t k c) p = lessened (suc n) t ls us k c p
  compared (suc n) ls (closes {ts = us} t k c) p =
      inner (around ls us (mark_token (Mark CloseParen) t refl k)) (compared n (Mark OpenParen ∷ (ls ++ (Mark CloseParen ∷ []))) c (paren (lower 14 0 _ _ (omega arith) (omega arith) p)))

  conditioned : (n : ℕ) (s : List Part) {ts : List Token} → Coming (Some i) (part.Condition ∷ s) ts → s ≡ closed n → Whole i n ts
  conditioned n s (named {ts = us} w same c) e =
      let d : Coming (Some i) (part.Comparison ∷ closed n) us = rw (e, ← same) at c in
      rw (← same) (compared n (Word i ∷ []) d (name i))
  conditioned n s (opens {ts = us} t k c) e =
      outer (ap (λ (u : Token). u ∷ us) (mark_token (Mark OpenParen) t refl k)) (conditioned (suc n) (part.Closing ∷ s) c (ap (λ (p : List Part). part.Closing ∷ p) e))

-- What stands after the condition adds one to the variable.
abbrev step_of : List ℕ → List Token
step_of i = Mark Semicolon ∷ (Word i ∷ (Mark Assign ∷ (Word i ∷ (Operator Plus ∷ (Number (codes "1") ∷ (Mark CloseParen ∷ []))))))

stepped : {i : List ℕ} {ts : List Token} → Coming (Some i) then_step ts → ts ≡ step_of i
stepped (token t j (variable w e (token u k (variable x f (token v l (one (token y m nothing))))))) =
    rw (mark_token (Mark Semicolon) t refl j, mark_token (Mark Assign) u refl k, mark_token (Operator Plus) v refl l, mark_token (Mark CloseParen) y refl m, ← f, ← e) refl

assembled : (i : List ℕ) (xs cs front : List Token) {x e : NormalExpr} → Spells 0 xs x → Spells 0 front (Binary Less (Name i) e) → cs ≡ front ++ step_of i →
    IsPhrase LoopHead (Word i ∷ (Mark Assign ∷ (xs ++ (Mark Semicolon ∷ cs)))) (IsLoop i x e)
assembled i xs cs front p q same = rw same (loop_head i p q)

pub to_head : {i : List ℕ} {rest : List Token} → Coming (Some i) header rest → SpellsPhrase LoopHead (Word i ∷ rest)
to_head {i} (token u k (expression xs e x (token {ts = cs} v l c))) =
    let w : Whole i 0 cs = conditioned 0 then_step c refl in
    let same : cs ≡ w.front ++ step_of i = w.split ∙ ap (λ (us : List Token). w.front ++ us) (stepped w.more) in
    (IsLoop i x.0 w.end, rw (mark_token (Mark Assign) u refl k, e, mark_token (Mark Semicolon) v refl l) (assembled i xs cs w.front x.1 w.spelled same))

pub of_head : {i : List ℕ} {rest : List Token} → SpellsPhrase LoopHead (Word i ∷ rest) → Coming (Some i) header rest
of_head {i} {rest} m = head_parts (Word i ∷ rest) rest m.0 m.1 refl

-- A header begins with its variable.
pub head_word : (t : Token) (ts rest : List Token) (m : Meaning) → IsPhrase LoopHead ts m → ts ≡ t ∷ rest → MayBe None t
head_word t ts rest m (loop_head i p q) e = let same : t ≡ Word i = cc e in (i, same, tt)
