-- The turns of the machine keep a reading and what was heard of it.
use Rattle.std.proofs.Common.{◌≡◌, ℕ, suc, ◌<◌, List, [], ◌∷◌, ◌++◌, true, nat_eq, nat_lt, length, Option, Some, None, refl, sym, ap, ◌∙◌, subst, arith, MatchBool}
use Rattle.std.proofs.lemmas.Bool.{ltb-true}
use Rattle.vast_literal.specs.Tokens as tokens
use Rattle.vast_rows.specs.declared.action.Action.{Action}
use Rattle.vast_rows.specs.declared.grammar.Item.{Item}
use Rattle.vast_rows.specs.declared.grammar.Item.TheVariants.{Token, Rule, Phrase}
use Rattle.vast_rows.specs.declared.grammar.Phrase as code
use Rattle.vast_rows.specs.Internal.Reading.{Reading, Underived, Underway, IsTaken, IsDue, LeadsTo}
use Rattle.vast_rows.specs.declared.machine.Due.{Due}
use Rattle.vast_rows.specs.Kinds.{has, token_kind}
use Rattle.vast_rows.specs.Internal.Sets.{only}
use Rattle.vast_rows.specs.Internal.Sources.{tail, first_name, head_kind}
use Rattle.vast_rows.specs.Laws.{IsRead, IsUnspelled}
use Rattle.vast_rows.specs.Phrases.{Meaning}
use Rattle.vast_rows.specs.Internal.Sources.{HasRead, HasNone}
use Rattle.vast_rows.specs.Internal.Predictive.{row_at, follows, is_predictive}
use Rattle.vast_rows.specs.Facts.{Fact}
use Rattle.vast_rows.specs.Rows.{Row}
use Rattle.vast_rows.specs.Events.{Event, Reads, name_of, made_by, named_by}
use Rattle.vast_rows.proofs.Sets.{both}
use Rattle.vast_rows.proofs.Steps.{begun, ate, wrong, finished, left_over, read_phrase, wrong_phrase, opened, refused}
use Rattle.vast_rows.proofs.Derivations.{spelled, whole_derived}
use Rattle.vast_rows.proofs.TokenKinds.{positive}

-- The tokens that are left.

-- The front of tokens that begin with a kind.
pub front : (ts : List tokens.Token) (k : ℕ) → 0 < k → head_kind ts ≡ k → (t : tokens.Token) × (ts ≡ t ∷ tail ts) × (token_kind t ≡ k)
front [] k p e = absurd (let z : ⊥ = omega (arith, e, p) in z)
front (t ∷ ts) k p e = (t, refl, e)

-- From a stack and a sink to others, in whatever reading.
abbrev pub Onward : {K : Type 0} (after : K → List Event → K → Type 0) (rows : List Row) (facts : ℕ → Fact) (rest : List tokens.Token) (before : List Item) (first : K) (stack : List Item) (now : K) → Type 0
Onward {K} after rows facts rest before first stack now = (start : ℕ) (all : List tokens.Token) (origin : K) → Underway after rows facts start all rest before origin first → Underway after rows facts start all rest stack origin now

-- What is due by what it was found to be.
pub led : {K : Type 0} {after : K → List Event → K → Type 0} (rows : List Row) (facts : ℕ → Fact) (rest : List tokens.Token) (before : List Item) (sink : K) (stack : List Item) (now : K) (d e : Due) → LeadsTo after rows facts rest before sink stack now d → d ≡ e →
    (start : ℕ) (all : List tokens.Token) (origin : K) → Underway after rows facts start all rest before origin sink → IsDue after rows facts start all rest stack origin now e
led {K} {after} rows facts rest before sink stack now d e l same start all origin u = subst (λ (v : Due). IsDue after rows facts start all rest stack origin now v) same (l start all origin u)

pub unspelled : (rows : List Row) (start : ℕ) (all : List tokens.Token) → Underived rows start all → IsUnspelled rows start all
unspelled rows start all u = λ es p. u.none es (whole_derived rows start all es p)

module _ {K : Type 0} {after : K → List Event → K → Type 0} (rows : List Row) (facts : ℕ → Fact) where
  pub stays : (rest : List tokens.Token) (stack : List Item) (sink : K) → Onward after rows facts rest stack sink stack sink
  stays rest stack sink start all origin u = u

  -- The same with what was taken from the stack.
  pub due_now : (rest : List tokens.Token) (before stack s : List Item) (i : Item) (first now : K) → Onward after rows facts rest before first stack now → stack ≡ i ∷ s → Onward after rows facts rest before first (i ∷ s) now
  due_now rest before stack s i first now o e start all origin u = subst (λ (v : List Item). Underway after rows facts start all rest v origin now) e (o start all origin u)

  pub due_nothing : (rest : List tokens.Token) (before stack : List Item) (first now : K) → Onward after rows facts rest before first stack now → stack ≡ [] → Onward after rows facts rest before first [] now
  due_nothing rest before stack first now o e start all origin u = subst (λ (v : List Item). Underway after rows facts start all rest v origin now) e (o start all origin u)

  pub opens : (rest : List tokens.Token) (before stack s items onto : List Item) (first now next : K) (r k n : ℕ) (action : Option Action) → is_predictive facts rows ≡ true → ((s t u : K) (one two : List Event) → after s one t → after t two u → after s (one ++ two) u) →
      Onward after rows facts rest before first stack now → stack ≡ Rule r ∷ s → k ≡ head_kind rest → IsTaken facts rows r k n items action → onto ≡ items ++ s → after now (made_by action []) next → Onward after rows facts rest before first onto next
  opens rest before stack s items onto first now next r k n action p join o there kind t pushed heard start all origin u =
      let w = due_now rest before stack s (Rule r) first now o there start all origin u in
      let first_is : row_at facts rows r (head_kind rest) ≡ Some n = ap (λ (v : ℕ). row_at facts rows r v) (sym kind) ∙ t.first in
      let q : Reading rows facts start all rest ((t.row).items ++ s) (w.done ++ made_by (t.row).action []) = opened rows facts start all rest r s w.done n t.row p w.reading first_is t.found t.ruled in
      let g : (t.row).items ++ s ≡ onto = ap (λ (v : List Item). v ++ s) t.has_items ∙ sym pushed in
      record {
        done = w.done ++ made_by (t.row).action [];
        reading = rw g at q;
        heard = join origin now next w.done (made_by (t.row).action []) w.heard (subst (λ (v : Option Action). after now (made_by v []) next) (sym t.has_action) heard);
      }

  pub refuses : (rest : List tokens.Token) (before stack s : List Item) (first now : K) (r k : ℕ) → is_predictive facts rows ≡ true →
      Onward after rows facts rest before first stack now → stack ≡ Rule r ∷ s → k ≡ head_kind rest → row_at facts rows r k ≡ None →
      (start : ℕ) (all : List tokens.Token) (origin : K) → Underway after rows facts start all rest before origin first → Underived rows start all
  refuses rest before stack s first now r k p o there kind t start all origin u =
      let w = due_now rest before stack s (Rule r) first now o there start all origin u in
      refused rows facts start all rest r s w.done p w.reading (ap (λ (v : ℕ). row_at facts rows r v) (sym kind) ∙ t)

  -- Of the whole.
  pub begins_so : (start : ℕ) (all : List tokens.Token) (sink : K) → has (facts start).follow 0 ≡ true → after sink [] sink → Underway after rows facts start all all (Rule start ∷ []) sink sink
  begins_so start all sink h n = record { done = []; reading = begun rows facts start all h; heard = n }

  pub refuses_token : (start : ℕ) (all rest : List tokens.Token) (s : List Item) (k : ℕ) (origin now : K) → Underway after rows facts start all rest (Token k ∷ s) origin now → (head_kind rest ≡ k → ⊥) → IsUnspelled rows start all
  refuses_token start all rest s k origin now w other = unspelled rows start all (wrong rows facts start all rest k s w.done w.reading (λ t ts e f. other (ap head_kind e ∙ f)))

  kind_is_some : (start : ℕ) (all rest : List tokens.Token) (s : List Item) (k : ℕ) (origin now : K) → Underway after rows facts start all rest (Token k ∷ s) origin now → 0 < k
  kind_is_some start all rest s k origin now w = ltb-true 0 k (both (nat_lt 0 k) (follows facts (only 0) s) (w.reading).follows).0

  pub eats : (start : ℕ) (all rest left : List tokens.Token) (s : List Item) (k : ℕ) (origin now next : K) → ((s t u : K) (one two : List Event) → after s one t → after t two u → after s (one ++ two) u) →
      Underway after rows facts start all rest (Token k ∷ s) origin now → head_kind rest ≡ k → left ≡ tail rest → after now (named_by (first_name rest) []) next → Underway after rows facts start all left s origin next
  eats start all rest left s k origin now next join w e l heard =
      let f = front rest k (kind_is_some start all rest s k origin now w) e in
      let r : Reading rows facts start all (f.0 ∷ tail rest) (Token k ∷ s) w.done = subst (λ (v : List tokens.Token). Reading rows facts start all v (Token k ∷ s) w.done) f.1 w.reading in
      let q = ate rows facts start all f.0 (tail rest) k s w.done r f.2 in
      record {
        done = w.done ++ named_by (name_of f.0) [];
        reading = rw (← l) at q;
        heard = join origin now next w.done (named_by (name_of f.0) []) w.heard (subst (λ (v : List tokens.Token). after now (named_by (first_name v) []) next) f.1 heard);
      }

  pub eats_one : (start : ℕ) (all rest left : List tokens.Token) (s : List Item) (k : ℕ) (origin now : K) → Underway after rows facts start all rest (Token k ∷ s) origin now → head_kind rest ≡ k → left ≡ tail rest → length left < length rest
  eats_one start all rest left s k origin now w e l =
      let f = front rest k (kind_is_some start all rest s k origin now w) e in
      let n : length rest ≡ suc (length (tail rest)) = ap length f.1 in
      let m : length left ≡ length (tail rest) = ap length l in omega (arith, n, m)

  pub refuses_phrase : (start : ℕ) (all rest : List tokens.Token) (s : List Item) (part : code.Phrase) (origin now : K) → is_predictive facts rows ≡ true → Underway after rows facts start all rest (Phrase part ∷ s) origin now → HasNone part rest → IsUnspelled rows start all
  refuses_phrase start all rest s part origin now p w h = unspelled rows start all (wrong_phrase rows facts start all rest part s w.done p w.reading h)

  pub reads : (start : ℕ) (all rest left : List tokens.Token) (s : List Item) (part : code.Phrase) (m : Meaning) (origin now next : K) → is_predictive facts rows ≡ true → ((s t u : K) (one two : List Event) → after s one t → after t two u → after s (one ++ two) u) →
      Underway after rows facts start all rest (Phrase part ∷ s) origin now → HasRead part rest m left → after now (Reads m ∷ []) next → Underway after rows facts start all left s origin next
  reads start all rest left s part m origin now next p join w h heard =
      record {
        done = w.done ++ Reads m ∷ [];
        reading = read_phrase rows facts start all rest left part m s w.done p w.reading h;
        heard = join origin now next w.done (Reads m ∷ []) w.heard heard;
      }

  pub ends : (start : ℕ) (all rest : List tokens.Token) (origin now : K) → Underway after rows facts start all rest [] origin now → MatchBool (nat_eq (head_kind rest) 0) (IsRead after rows start all origin now) (IsUnspelled rows start all)
  ends start all [] origin now w = record { events = w.done; told = spelled (finished rows facts start all w.done w.reading); heard = w.heard }
  ends start all (t ∷ ts) origin now w = rw (positive t) (unspelled rows start all (left_over rows facts start all t ts w.done w.reading))
