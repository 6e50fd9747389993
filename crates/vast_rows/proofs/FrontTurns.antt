-- The turns of the machine that tells what could stand next.
use Rattle.std.proofs.Common.{◌≡◌, ◌↔◌, ℕ, suc, length, ◌<◌, List, [], ◌∷◌, ◌++◌, Bool, true, false, nat_eq, ◌≢◌, refl, sym, ap, ◌∙◌, ◌⊎◌, inl, inr, arith, append_assoc}
use Rattle.std.specs.Int.Bits.{bit_or}
use Rattle.std.proofs.lemmas.Bool.{eqb-true, eqb-false}
use Rattle.vast_literal.specs.Tokens as tokens
use Rattle.vast_rows.specs.declared.grammar.Item.{Item}
use Rattle.vast_rows.specs.declared.grammar.Item.TheVariants.{Rule}
use Rattle.vast_rows.specs.declared.grammar.Phrase as code
use Rattle.vast_rows.specs.declared.machine.Due.{Due}
use Rattle.vast_rows.specs.declared.machine.Due.TheVariants as due
use Rattle.vast_rows.specs.Events.{Event, Reads, named_by, name_of}
use Rattle.vast_rows.specs.Facts.{Fact, fact_in}
use Rattle.vast_rows.specs.Internal.Reaches.{SpellsRule, are_plain}
use Rattle.vast_rows.specs.Internal.Derives.{Derives}
use Rattle.vast_rows.specs.Internal.Firsts.{firsts_in, first_kinds, is_exact}
use Rattle.vast_rows.specs.Internal.PhraseKinds.{firsts}
use Rattle.vast_rows.specs.Internal.Predictive.{is_predictive}
use Rattle.vast_rows.specs.Internal.Reading.{IsDue, LeadsTo}
use Rattle.vast_rows.specs.Internal.Sources.{head_kind, tail}
use Rattle.vast_rows.specs.Kinds.{has, token_kind}
use Rattle.vast_rows.specs.Rows.{Row}
use Rattle.vast_rows.proofs.Derivations.{whole_derived}
use Rattle.vast_rows.proofs.Ending.{exact}
use Rattle.vast_rows.proofs.PhraseDue.{PhraseDue}
use Rattle.vast_rows.proofs.PhraseLaws.{begins as phrase_begins}
use Rattle.vast_rows.proofs.Plain.{no_reads, plain_tells, never_read}
use Rattle.vast_rows.proofs.Residues.{quiet_always, quiet_other, no_end_kind, unless_true}
use Rattle.vast_rows.proofs.Sets.{has_or, no_kind}
use Rattle.vast_rows.proofs.Standing.{Standing, residue, begins_at}
use Rattle.vast_rows.proofs.Starting.{Begun}
use Rattle.vast_rows.proofs.Steps.{begun as reading_begun, ate, took, phrased, left_over}
use Rattle.vast_rows.proofs.Turns.{led, front}

pub stands_first : (rows : List Row) (facts : ℕ → Fact) (start : ℕ) (all : List tokens.Token) → has (facts start).follow 0 ≡ true → ((ts : List tokens.Token) × SpellsRule rows start ts) → Standing rows facts start all all (Rule start ∷ []) 0
stands_first rows facts start all h c = record {
  before = [];
  split = refl;
  reading = λ rest l. ([], reading_begun rows facts start rest h);
  longer = λ k g. absurd (no_kind k g);
  closes = (c.0, (c.1).0, whole_derived rows start c.0 (c.1).0 (c.1).1);
  quiet = quiet_always all;
}

-- The next token is one by which the stack goes on, and no phrase goes on with it.
record Fitting (begin : List ℕ) (facts : List Fact) (left : List tokens.Token) (stack : List Item) (more k : ℕ) : Type 0 where
  pub kind : k ≡ head_kind left
  pub fits : has (first_kinds (firsts_in begin) (fact_in facts) stack) k ≡ true
  pub other : has more k ≡ false

fitting : (begin : List ℕ) (facts : List Fact) (rows : List Row) (start : ℕ) (all left : List tokens.Token) (stack : List Item) (more own k : ℕ) → Standing rows (fact_in facts) start all left stack more →
    ((k : ℕ) → (has own k ≡ true) ↔ (has (first_kinds (firsts_in begin) (fact_in facts) stack) k ≡ true)) → k ≡ head_kind left → has (bit_or more own) k ≡ true → Fitting begin facts left stack more k
fitting begin facts rows start all left stack more own k w kinds kind h = record { kind = kind; fits = go (has more k) refl (has_or more own k h); other = other (has more k) refl }
  where
    no : (ts : List tokens.Token) → left ≡ ts → has more k ≡ true → ⊥
    no [] e g = let z = w.longer k g in no_end_kind z.0 (z.2 ∙ (kind ∙ ap head_kind e))
    no (t ∷ us) e g = unless_true (has more k) g (let f : has more (token_kind t) ≡ false = w.quiet t us e in let same : k ≡ token_kind t = kind ∙ ap head_kind e in rw same f)

    other : (b : Bool) → has more k ≡ b → has more k ≡ false
    other true e = absurd (no left refl e)
    other false e = e

    go : (b : Bool) → has more k ≡ b → (has more k ≡ true) ⊎ (has own k ≡ true) → has (first_kinds (firsts_in begin) (fact_in facts) stack) k ≡ true
    go b e (inl g) = absurd (no left refl g)
    go b e (inr g) = (kinds k).0 g

-- Opening the next token's rules leads from what stands to what is due.
pub record Turn {K : Type 0} (after : K → List Event → K → Type 0) (begin : List ℕ) (facts : List Fact) (rows : List Row) (start : ℕ) (all left : List tokens.Token) (stack new : List Item) (more own k : ℕ) (first now : K) (d : Due) : Type 0 where
  pub exact : is_exact begin facts rows ≡ true
  pub predictive : is_predictive (fact_in facts) rows ≡ true
  pub stands : Standing rows (fact_in facts) start all left stack more
  pub kinds : (k : ℕ) → (has own k ≡ true) ↔ (has (first_kinds (firsts_in begin) (fact_in facts) stack) k ≡ true)
  pub next : k ≡ head_kind left
  pub fits : has (bit_or more own) k ≡ true
  pub opens : (rest : List tokens.Token) → k ≡ head_kind rest → LeadsTo after rows (fact_in facts) rest stack first new now d

abbrev pub turned : {K : Type 0} {after : K → List Event → K → Type 0} {begin : List ℕ} {facts : List Fact} {rows : List Row} {start : ℕ} {all left : List tokens.Token} {stack new : List Item} {more own k : ℕ} {first now : K} {d : Due} →
    is_exact begin facts rows ≡ true → is_predictive (fact_in facts) rows ≡ true → Standing rows (fact_in facts) start all left stack more → ((k : ℕ) → (has own k ≡ true) ↔ (has (first_kinds (firsts_in begin) (fact_in facts) stack) k ≡ true)) →
    k ≡ head_kind left → has (bit_or more own) k ≡ true → ((rest : List tokens.Token) → k ≡ head_kind rest → LeadsTo after rows (fact_in facts) rest stack first new now d) → Turn after begin facts rows start all left stack new more own k first now d
turned x p w kinds next fits opens = record { exact = x; predictive = p; stands = w; kinds = kinds; next = next; fits = fits; opens = opens }

module _ {K : Type 0} {after : K → List Event → K → Type 0} {begin : List ℕ} {facts : List Fact} {rows : List Row} {start : ℕ} {all left : List tokens.Token} {stack new : List Item} {more own k : ℕ} {first now : K} {d : Due}
    (silent : (s : K) (es : List Event) (t : K) → after s es t) (turn : Turn after begin facts rows start all left stack new more own k first now d) where
  abbrev w : Standing rows (fact_in facts) start all left stack more
  w = turn.stands

  f : Fitting begin facts left stack more k
  f = fitting begin facts rows start all left stack more own k w turn.kinds turn.next turn.fits

  due_at : (e : Due) → d ≡ e → (t : tokens.Token) (us : List tokens.Token) → token_kind t ≡ k → IsDue after rows (fact_in facts) start (w.before ++ (t ∷ us)) (t ∷ us) new first now e
  due_at e same t us kind =
      let r = w.reading (t ∷ us) (quiet_other more k t us f.other kind) in
      led rows (fact_in facts) (t ∷ us) stack first new now d e (turn.opens (t ∷ us) (sym kind)) same start (w.before ++ (t ∷ us)) first (record { done = r.0; reading = r.1; heard = silent first r.0 first })

  -- Something of the whole that goes on so.
  sample : Begun rows stack k
  sample = begins_at begin facts rows start (exact begin facts rows turn.exact) turn.predictive w k f.fits

  abbrev sampled : List tokens.Token
  sampled = sample.first ∷ sample.others

  told : SpellsRule rows start (w.before ++ sampled)
  told = (residue w).onto sampled (quiet_other more k sample.first sample.others f.other sample.kinds) (sample.events, sample.derives)

  derived_whole : Derives rows (Rule start ∷ []) (w.before ++ sampled) told.0
  derived_whole = whole_derived rows start (w.before ++ sampled) told.0 told.1

  positive_kind : 0 < k
  positive_kind = go (nat_eq k 0) refl
    where
      go : (b : Bool) → nat_eq k 0 ≡ b → 0 < k
      go true e = absurd (no_end_kind sample.first (sample.kinds ∙ eqb-true k 0 e))
      go false e = let n : k ≢ 0 = eqb-false k 0 e in omega (arith, n)

  -- No rule is due that does not begin with the token, and something is due.
  pub never_wrong : d ≡ due.Wrong → ⊥
  never_wrong e = let u = due_at due.Wrong e sample.first sample.others sample.kinds in u.none told.0 derived_whole

  pub never_nothing : d ≡ due.Nothing → ⊥
  never_nothing e =
      let u = due_at due.Nothing e sample.first sample.others sample.kinds in
      (left_over rows (fact_in facts) start (w.before ++ sampled) sample.first sample.others u.done u.reading).none told.0 derived_whole

  -- A token is due: the next one.
  pub eats_next : (j : ℕ) → d ≡ due.Token j → (after : List tokens.Token) → after ≡ tail left → Standing rows (fact_in facts) start all after new 0
  eats_next j e after l =
      let u = due_at (due.Token j) e sample.first sample.others sample.kinds in
      let c = (u.reading).complete told.0 derived_whole in
      let o = took c.1 in
      let first_is : sample.first ≡ o.first = cc (o.split) in
      let same : k ≡ j = sym sample.kinds ∙ (ap token_kind first_is ∙ o.kinds) in
      let n = front left k positive_kind (sym f.kind) in
      record {
        before = w.before ++ (n.0 ∷ []);
        split = w.split ∙ (ap (λ (v : List tokens.Token). w.before ++ v) (n.1 ∙ ap (λ (v : List tokens.Token). n.0 ∷ v) (sym l)) ∙ sym (append_assoc w.before (n.0 ∷ []) after));
        reading = λ rest _.
            let v = due_at (due.Token j) e n.0 rest n.2 in
            (v.done ++ named_by (name_of n.0) [], rw (append_assoc w.before (n.0 ∷ []) rest) (ate rows (fact_in facts) start (w.before ++ (n.0 ∷ rest)) n.0 rest j new v.done v.reading (n.2 ∙ same)));
        longer = λ i g. absurd (no_kind i g);
        closes = (o.behind, o.more, o.rest);
        quiet = quiet_always after;
      }

  pub eats_fewer : (after : List tokens.Token) → after ≡ tail left → length after < length left
  eats_fewer after l =
      let n = front left k positive_kind (sym f.kind) in
      let m : length left ≡ suc (length (tail left)) = ap length n.1 in
      let o : length after ≡ length (tail left) = ap length l in omega (arith, m, o)

  -- A phrase is due.
  pub phrase_is_due : (q : code.Phrase) → d ≡ due.Phrase q → PhraseDue rows (fact_in facts) start all left w.before k q new
  phrase_is_due q e =
      let u = due_at (due.Phrase q) e sample.first sample.others sample.kinds in
      let c = (u.reading).complete told.0 derived_whole in
      let o = phrased c.1 in
      let h : has (firsts q) (head_kind (o.front ++ o.behind)) ≡ true = phrase_begins q o.front o.behind o.meaning o.is_phrase in
      let g : has (firsts q) (token_kind sample.first) ≡ true = rw (← o.split) at h in
      record {
        split = w.split;
        kind = sym f.kind;
        reading = λ t us kind. let v = due_at (due.Phrase q) e t us kind in (v.done, v.reading);
        closes = (sampled, c.0, c.1);
        fits = rw sample.kinds at g;
      }

  -- No phrase is due where rows have none.
  pub never_phrase : are_plain rows ≡ true → (q : code.Phrase) → d ≡ due.Phrase q → ⊥
  never_phrase h q e =
      let u = due_at (due.Phrase q) e sample.first sample.others sample.kinds in
      let c = (u.reading).complete told.0 derived_whole in
      let o = phrased c.1 in
      let same : told.0 ≡ u.done ++ (Reads o.meaning ∷ o.more) = c.2 ∙ ap (λ (v : List Event). u.done ++ v) o.steps in
      let n : no_reads told.0 ≡ true = plain_tells h refl derived_whole in
      never_read u.done o.more o.meaning (rw same at n)
