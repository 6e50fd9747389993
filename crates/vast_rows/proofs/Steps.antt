-- The steps of the machine keep what is left to derive.
use Rattle.std.proofs.Common.{◌≡◌, ℕ, List, [], ◌∷◌, ◌++◌, true, nat_lt, Option, Some, None, refl, sym, ap, ◌∙◌, append_assoc, append-nil}
use Rattle.std.specs.List.{slice_get}
use Rattle.vast_literal.specs.Tokens as tokens
use Rattle.vast_rows.specs.declared.action.Action.{Action}
use Rattle.vast_rows.specs.declared.grammar.Item.{Item}
use Rattle.vast_rows.specs.declared.grammar.Item.TheVariants.{Token, Rule, Phrase}
use Rattle.vast_rows.specs.declared.grammar.Phrase as code
use Rattle.vast_rows.specs.Internal.Derives.{Derives, nothing, token, phrase, choice}
use Rattle.vast_rows.specs.Internal.Reading.{Reading, Underived}
use Rattle.vast_rows.specs.Kinds.{has, token_kind}
use Rattle.vast_rows.specs.Internal.Sets.{within, only}
use Rattle.vast_rows.specs.Phrases.{Meaning, IsPhrase}
use Rattle.vast_rows.specs.Internal.PhraseKinds.{stops}
use Rattle.vast_rows.specs.Internal.Sources.{HasRead, HasNone, head_kind}
use Rattle.vast_rows.specs.Internal.Predictive.{row_at, begins, follows, is_predictive}
use Rattle.vast_rows.specs.Facts.{Fact}
use Rattle.vast_rows.specs.Rows.{Row}
use Rattle.vast_rows.specs.Events.{Event, Reads, name_of, made_by, named_by}
use Rattle.vast_rows.proofs.Once.{taken, good, follows_row, follows_rule, start_follows, stopped}
use Rattle.vast_rows.proofs.Sets.{both, some_one}

-- What is told of a row, and of a token, stands before what follows.
made_before : (a : Option Action) (es : List Event) → made_by a es ≡ made_by a [] ++ es
made_before (Some a) es = refl
made_before None es = refl

name_before : (n : Option (List ℕ)) (es : List Event) → named_by n es ≡ named_by n [] ++ es
name_before (Some w) es = refl
name_before None es = refl

none_some : {A B : Type 0} (a : A) → None ≡ Some a → B
none_some a e = absurd (cc)

-- What a derivation with a rule in front chose.
pub record Choosing (rows : List Row) (r : ℕ) (s : List Item) (ts : List tokens.Token) (cs : List Event) : Type 0 where
  pub number : ℕ
  pub row : Row
  pub more : List Event
  pub chosen : cs ≡ made_by row.action more
  pub found : slice_get rows number ≡ Some row
  pub ruled : row.rule ≡ r
  pub rest : Derives rows (row.items ++ s) ts more

pub chose : {rows : List Row} {r : ℕ} {s : List Item} {ts : List tokens.Token} {cs : List Event} → Derives rows (Rule r ∷ s) ts cs → Choosing rows r s ts cs
chose (choice {es = cs} n row e ruled d) = record { number = n; row = row; more = cs; chosen = refl; found = e; ruled = ruled; rest = d }

-- What one with a token in front took.
pub record Took (rows : List Row) (k : ℕ) (s : List Item) (ts : List tokens.Token) (cs : List Event) : Type 0 where
  pub first : tokens.Token
  pub behind : List tokens.Token
  pub more : List Event
  pub split : ts ≡ first ∷ behind
  pub kinds : token_kind first ≡ k
  pub named : cs ≡ named_by (name_of first) more
  pub rest : Derives rows s behind more

pub took : {rows : List Row} {k : ℕ} {s : List Item} {ts : List tokens.Token} {cs : List Event} → Derives rows (Token k ∷ s) ts cs → Took rows k s ts cs
took (token {ts = ts} {es = es} t e d) = record { first = t; behind = ts; more = es; split = refl; kinds = e; named = refl; rest = d }

-- What one with a phrase in front read.
pub record Phrased (rows : List Row) (part : code.Phrase) (s : List Item) (ts : List tokens.Token) (cs : List Event) : Type 0 where
  pub front : List tokens.Token
  pub behind : List tokens.Token
  pub meaning : Meaning
  pub more : List Event
  pub is_phrase : IsPhrase part front meaning
  pub split : ts ≡ front ++ behind
  pub steps : cs ≡ Reads meaning ∷ more
  pub rest : Derives rows s behind more

pub phrased : {rows : List Row} {part : code.Phrase} {s : List Item} {ts : List tokens.Token} {cs : List Event} → Derives rows (Phrase part ∷ s) ts cs → Phrased rows part s ts cs
phrased (phrase {ts = ts} {es = es} ps m i e d) = record { front = ps; behind = ts; meaning = m; more = es; is_phrase = i; split = e; steps = refl; rest = d }

ended : {rows : List Row} {ts : List tokens.Token} {cs : List Event} → Derives rows [] ts cs → (ts ≡ []) × (cs ≡ [])
ended nothing = (refl, refl)

pub begun : (rows : List Row) (facts : ℕ → Fact) (start : ℕ) (all : List tokens.Token) → has (facts start).follow 0 ≡ true → Reading rows facts start all all (Rule start ∷ []) []
begun rows facts start all h = record { sound = λ cs d. d; complete = λ cs d. (cs, d, refl); follows = start_follows facts start h }

pub ate : (rows : List Row) (facts : ℕ → Fact) (start : ℕ) (all : List tokens.Token) (t : tokens.Token) (ts : List tokens.Token) (k : ℕ) (s : List Item) (done : List Event) →
    Reading rows facts start all (t ∷ ts) (Token k ∷ s) done → token_kind t ≡ k → Reading rows facts start all ts s (done ++ named_by (name_of t) [])
ate rows facts start all t ts k s done reading e = record {
  sound = λ cs d. rw (append_assoc done (named_by (name_of t) []) cs, ← name_before (name_of t) cs) (reading.sound (named_by (name_of t) cs) (token t e d));
  complete = λ cs d. let w = reading.complete cs d in told (took w.1) w.2;
  follows = (both (nat_lt 0 k) (follows facts (only 0) s) reading.follows).1;
}
  where
    told : {cs more : List Event} → Took rows k s (t ∷ ts) more → cs ≡ done ++ more → (after : List Event) × Derives rows s ts after × (cs ≡ (done ++ named_by (name_of t) []) ++ after)
    told o same =
        let first : o.first ≡ t = cc (o.split) in let behind : o.behind ≡ ts = cc (o.split) in
        let d : Derives rows s ts o.more = rw behind at o.rest in
        (o.more, d, same ∙ (ap (λ (v : List Event). done ++ v) (o.named ∙ (ap (λ (v : tokens.Token). named_by (name_of v) o.more) first ∙ name_before (name_of t) o.more)) ∙ sym (append_assoc done (named_by (name_of t) []) o.more)))

pub wrong : (rows : List Row) (facts : ℕ → Fact) (start : ℕ) (all : List tokens.Token) (rest : List tokens.Token) (k : ℕ) (s : List Item) (done : List Event) →
    Reading rows facts start all rest (Token k ∷ s) done → ((t : tokens.Token) (ts : List tokens.Token) → rest ≡ t ∷ ts → token_kind t ≡ k → ⊥) → Underived rows start all
wrong rows facts start all rest k s done reading other = record { none = λ cs d. let w = reading.complete cs d in let o = took w.1 in other o.first o.behind o.split o.kinds }

pub finished : (rows : List Row) (facts : ℕ → Fact) (start : ℕ) (all : List tokens.Token) (done : List Event) → Reading rows facts start all [] [] done → Derives rows (Rule start ∷ []) all done
finished rows facts start all done reading = let z : done ++ [] ≡ done = simp append-nil in let d : Derives rows (Rule start ∷ []) all (done ++ []) = reading.sound [] nothing in rw z at d

pub left_over : (rows : List Row) (facts : ℕ → Fact) (start : ℕ) (all : List tokens.Token) (t : tokens.Token) (ts : List tokens.Token) (done : List Event) → Reading rows facts start all (t ∷ ts) [] done → Underived rows start all
left_over rows facts start all t ts done reading = record { none = λ cs d. let w = reading.complete cs d in let o = ended w.1 in (let h = o.0 in absurd (cc h)) }

pub read_phrase : (rows : List Row) (facts : ℕ → Fact) (start : ℕ) (all rest us : List tokens.Token) (part : code.Phrase) (m : Meaning) (s : List Item) (done : List Event) → is_predictive facts rows ≡ true →
    Reading rows facts start all rest (Phrase part ∷ s) done → HasRead part rest m us → Reading rows facts start all us s (done ++ Reads m ∷ [])
read_phrase rows facts start all rest us part m s done p reading h = record {
  sound = λ cs d. rw (append_assoc done (Reads m ∷ []) cs) (reading.sound (Reads m ∷ cs) (phrase h.front m h.reads h.split d));
  complete = λ cs d. let w = reading.complete cs d in told (phrased w.1) w.2;
  follows = (both (within (begins facts (only 0) s) (stops part)) (follows facts (only 0) s) reading.follows).1;
}
  where
    told : {cs rests : List Event} → Phrased rows part s rest rests → cs ≡ done ++ rests → (after : List Event) × Derives rows s us after × (cs ≡ (done ++ Reads m ∷ []) ++ after)
    told {cs} {rests} f same =
        let q = h.same f.front f.behind f.meaning f.is_phrase f.split (stopped part s facts p reading.follows f.rest) in
        let d : Derives rows s us f.more = rw (q.1) at f.rest in
        let joined : done ++ (Reads m ∷ f.more) ≡ (done ++ Reads m ∷ []) ++ f.more = sym (append_assoc done (Reads m ∷ []) f.more) in
        (f.more, d, same ∙ (ap (λ (v : List Event). done ++ v) (f.steps ∙ ap (λ (v : Meaning). Reads v ∷ f.more) q.0) ∙ joined))

pub wrong_phrase : (rows : List Row) (facts : ℕ → Fact) (start : ℕ) (all rest : List tokens.Token) (part : code.Phrase) (s : List Item) (done : List Event) → is_predictive facts rows ≡ true →
    Reading rows facts start all rest (Phrase part ∷ s) done → HasNone part rest → Underived rows start all
wrong_phrase rows facts start all rest part s done p reading h = record {
  none = λ cs d. let w = reading.complete cs d in let f = phrased w.1 in h f.front f.behind f.meaning f.is_phrase f.split (stopped part s facts p reading.follows f.rest);
}

pub opened : (rows : List Row) (facts : ℕ → Fact) (start : ℕ) (all rest : List tokens.Token) (r : ℕ) (s : List Item) (done : List Event) (n : ℕ) (row : Row) → is_predictive facts rows ≡ true →
    Reading rows facts start all rest (Rule r ∷ s) done → row_at facts rows r (head_kind rest) ≡ Some n → slice_get rows n ≡ Some row → row.rule ≡ r → Reading rows facts start all rest (row.items ++ s) (done ++ made_by row.action [])
opened rows facts start all rest r s done n row p reading e at ruled = record {
  sound = λ cs d. rw (append_assoc done (made_by row.action []) cs, ← made_before row.action cs) (reading.sound (made_by row.action cs) (choice n row at ruled d));
  complete = λ cs d. let w = reading.complete cs d in told (chose w.1) w.2;
  follows = follows_row facts row s (good rows facts n row p at) (follows_rule facts row r s ruled reading.follows);
}
  where
    told : {cs more : List Event} → Choosing rows r s rest more → cs ≡ done ++ more → (rests : List Event) × Derives rows (row.items ++ s) rest rests × (cs ≡ (done ++ made_by row.action []) ++ rests)
    told {cs} {more} c same =
        let t = taken s facts c.number r c.row p reading.follows c.found c.ruled c.rest in
        let same_number : n ≡ c.number = some_one n c.number (sym e ∙ t) in
        let same_row : c.row ≡ row = some_one c.row row (sym c.found ∙ (ap (slice_get rows) (sym same_number) ∙ at)) in
        let d : Derives rows (row.items ++ s) rest c.more = rw (← same_row) c.rest in
        (c.more, d, same ∙ (ap (λ (v : List Event). done ++ v) (c.chosen ∙ (ap (λ (v : Row). made_by v.action c.more) same_row ∙ made_before row.action c.more)) ∙ sym (append_assoc done (made_by row.action []) c.more)))

pub refused : (rows : List Row) (facts : ℕ → Fact) (start : ℕ) (all rest : List tokens.Token) (r : ℕ) (s : List Item) (done : List Event) → is_predictive facts rows ≡ true →
    Reading rows facts start all rest (Rule r ∷ s) done → row_at facts rows r (head_kind rest) ≡ None → Underived rows start all
refused rows facts start all rest r s done p reading e = record { none = λ cs d. let w = reading.complete cs d in told (chose w.1) }
  where
    told : {more : List Event} → Choosing rows r s rest more → ⊥
    told c = none_some c.number (sym e ∙ taken s facts c.number r c.row p reading.follows c.found c.ruled c.rest)
