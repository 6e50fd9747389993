-- Where a front of a language was read, and what may come after it.
use Rattle.std.proofs.Common.{◌≡◌, ◌↔◌, ℕ, List, [], ◌∷◌, ◌++◌, length, Bool, true, false, nat_eq, refl, sym, ap, ◌∙◌, ◌⊎◌, inl, inr, arith, append_assoc, append-nil}
use Rattle.std.specs.Int.Bits.{bit_or}
use Rattle.std.proofs.lemmas.Bool.{eq-eqb}
use Rattle.vast_literal.specs.Tokens.{Token}
use Rattle.vast_rows.specs.Fronts.{IsBegun, GoesOn, LongestFront}
use Rattle.vast_rows.specs.Internal.Headers.{Residue}
use Rattle.vast_rows.specs.Internal.Reaches.{IsQuiet, Refuses, PartRead, WholeRead}
use Rattle.vast_rows.specs.Internal.Sources.{head_kind}
use Rattle.vast_rows.specs.Kinds.{has, token_kind}
use Rattle.vast_rows.proofs.Overlaps.{Overlap, shorter, even, longer, overlap}
use Rattle.vast_rows.proofs.Sets.{has_or, or_first, or_second, no_kind}
use Rattle.vast_rows.proofs.TokenKinds.{positive}

pub unless_true : {A : Type 0} (b : Bool) → b ≡ true → b ≡ false → A
unless_true b e f = absurd (cc (e, f))

pub no_end_kind : (t : Token) → token_kind t ≡ 0 → ⊥
no_end_kind t e = let p : nat_eq (token_kind t) 0 ≡ false = positive t in absurd (let q : nat_eq (token_kind t) 0 ≡ true = eq-eqb (token_kind t) 0 e in cc (p, q))

-- Nothing is quiet, and so is a token of another kind, and one of the kind of one that is.
pub quiet_nothing : (more : ℕ) → IsQuiet [] more
quiet_nothing more t us e = absurd (cc e)

pub quiet_other : (more k : ℕ) (t : Token) (us : List Token) → has more k ≡ false → token_kind t ≡ k → IsQuiet (t ∷ us) more
quiet_other more k t us h e u vs same = let f : t ≡ u = cc same in rw (← f, e) h

pub quiet_always : (ts : List Token) → IsQuiet ts 0
quiet_always ts t us e = go (has 0 (token_kind t)) refl
  where
    go : (b : Bool) → has 0 (token_kind t) ≡ b → has 0 (token_kind t) ≡ false
    go true h = absurd (no_kind (token_kind t) h)
    go false h = h

pub quiet_before : (left : List Token) (k kinds : ℕ) → k ≡ head_kind left → has kinds k ≡ false → IsQuiet left kinds
quiet_before left k kinds kind other t us e = let same : k ≡ token_kind t = kind ∙ ap head_kind e in rw same at other

pub quiet_like : (left : List Token) (more : ℕ) (t : Token) (us : List Token) → IsQuiet left more → token_kind t ≡ head_kind left → IsQuiet (t ∷ us) more
quiet_like [] more t us q e = absurd (no_end_kind t e)
quiet_like (u ∷ vs) more t us q e = quiet_other more (token_kind u) t us (q u vs refl) e

module _ {L R : List Token → Type 0} {all left : List Token} {more : ℕ} (w : Residue L R all left more) where
  -- By what it goes on.
  goes : (k : ℕ) → (has more k ≡ true) ⊎ GoesOn R [] k → GoesOn L w.before k
  goes k (inl h) = w.longer k h
  goes k (inr g) = go (has more k) refl
    where
      go : (b : Bool) → has more k ≡ b → GoesOn L w.before k
      go true e = w.longer k e
      go false e = (g.0, g.1, g.2, w.onto (g.0 ∷ g.1) (quiet_other more k g.0 g.1 e g.2) g.3)

  gone : (k : ℕ) → GoesOn L w.before k → (has more k ≡ true) ⊎ GoesOn R [] k
  gone k g = go (has more k) refl
    where
      go : (b : Bool) → has more k ≡ b → (has more k ≡ true) ⊎ GoesOn R [] k
      go true e = inl e
      go false e = inr (g.0, g.1, g.2, w.back (g.0 ∷ g.1) (quiet_other more k g.0 g.1 e g.2) g.3)

  begun : (ts : List Token) → R ts → IsBegun L w.before
  begun [] r = ([], w.onto [] (quiet_nothing more) r)
  begun (t ∷ us) r = let g = goes (token_kind t) (inr (t, us, refl, r)) in (g.0 ∷ g.1, g.3)

  -- Nothing of the language goes on with what is left, where nothing that may come begins with it; or where it has none of the kinds.
  pub refused : Refuses R left → (t : Token) (us rest : List Token) → left ≡ t ∷ us → L (w.before ++ (t ∷ rest)) → ⊥
  refused none t us rest e l = none t us rest e (w.back (t ∷ rest) (quiet_like left more t rest w.quiet (sym (ap head_kind e))) l)

  joined : (own : ℕ) → ((k : ℕ) → (has own k ≡ true) ↔ GoesOn R [] k) → (k : ℕ) → (has more k ≡ true) ⊎ GoesOn R [] k → has (bit_or more own) k ≡ true
  joined own told k (inl h) = or_first more own k h
  joined own told k (inr g) = or_second more own k ((told k).1 g)

  pub none_of : (own k : ℕ) → ((k : ℕ) → (has own k ≡ true) ↔ GoesOn R [] k) → k ≡ head_kind left → has (bit_or more own) k ≡ false → (t : Token) (us rest : List Token) → left ≡ t ∷ us → L (w.before ++ (t ∷ rest)) → ⊥
  none_of own k told kind other t us rest e l =
      let same : token_kind t ≡ k = sym (kind ∙ ap head_kind e) in
      unless_true (has (bit_or more own) k) (joined own told k (gone k (t, rest, same, l))) other

  -- It stands where nothing of the language goes on with what is left.
  pub stands_by : (kinds : ℕ) (ends : Bool) → ((k : ℕ) → (has kinds k ≡ true) ↔ ((has more k ≡ true) ⊎ GoesOn R [] k)) → (ends ≡ true) ↔ R [] → (ts : List Token) → R ts →
      ((t : Token) (us rest : List Token) → left ≡ t ∷ us → L (w.before ++ (t ∷ rest)) → ⊥) → LongestFront L all left kinds ends
  stands_by kinds ends told ended ts some none = record {
    front = w.before;
    split = w.split;
    begun = begun ts some;
    goes_on = λ k. (λ h. goes k ((told k).0 h), λ g. (told k).1 (gone k g));
    ended = (λ e. let l : L (w.before ++ []) = w.onto [] (quiet_nothing more) (ended.0 e) in rw (append-nil w.before) at l, λ l. ended.1 (w.back [] (quiet_nothing more) (rw (append-nil w.before) l)));
    stops = none;
  }

  -- The kinds by which what may come begins, beside those by which the front goes on.
  pub stands : (own : ℕ) (ends : Bool) → ((k : ℕ) → (has own k ≡ true) ↔ GoesOn R [] k) → (ends ≡ true) ↔ R [] → (ts : List Token) → R ts →
      ((t : Token) (us rest : List Token) → left ≡ t ∷ us → L (w.before ++ (t ∷ rest)) → ⊥) → LongestFront L all left (bit_or more own) ends
  stands own ends told = stands_by (bit_or more own) ends (λ k. (λ h. split k (has_or more own k h), λ s. joined own told k s))
    where
      split : (k : ℕ) → (has more k ≡ true) ⊎ (has own k ≡ true) → (has more k ≡ true) ⊎ GoesOn R [] k
      split k (inl h) = inl h
      split k (inr h) = inr ((told k).0 h)

  -- A token was read.
  pub advance : {M : List Token → Type 0} (t : Token) (us : List Token) → left ≡ t ∷ us → ((rest : List Token) → R (t ∷ rest) ↔ M rest) → Residue L M all us 0
  advance t us e step = record {
    before = w.before ++ (t ∷ []);
    split = w.split ∙ (ap (λ (v : List Token). w.before ++ v) e ∙ sym (append_assoc w.before (t ∷ []) us));
    onto = λ rest q m. rw (append_assoc w.before (t ∷ []) rest) (w.onto (t ∷ rest) (next rest) ((step rest).1 m));
    back = λ rest q l. (step rest).0 (w.back (t ∷ rest) (next rest) (rw (append_assoc w.before (t ∷ []) rest) at l));
    longer = λ k h. absurd (no_kind k h);
    quiet = quiet_always us;
  }
    where
      next : (rest : List Token) → IsQuiet (t ∷ rest) more
      next rest = quiet_like left more t rest w.quiet (sym (ap head_kind e))

-- First something of one language, then of another.
pub record Then (Q R : List Token → Type 0) (ts : List Token) : Type 0 where
  pub front : List Token
  pub behind : List Token
  pub split : ts ≡ front ++ behind
  pub first : Q front
  pub second : R behind

-- Something of a language is due after the front, and then of another, which begins where nothing of the first goes on.
pub record IsDue (L Q R : List Token → Type 0) (stops : ℕ) (all left before : List Token) : Type 0 where
  pub split : all ≡ before ++ left
  pub onto : (t : Token) (us : List Token) → token_kind t ≡ head_kind left → Then Q R (t ∷ us) → L (before ++ (t ∷ us))
  pub back : (t : Token) (us : List Token) → token_kind t ≡ head_kind left → L (before ++ (t ∷ us)) → Then Q R (t ∷ us)
  pub rest : List Token
  pub ends : R rest
  pub stop : (t : Token) (us : List Token) → R (t ∷ us) → has stops (token_kind t) ≡ true
  pub none_longer : (ts us : List Token) (t : Token) → has stops (token_kind t) ≡ true → Q ts → Q (ts ++ (t ∷ us)) → ⊥
  pub none_empty : Q [] → ⊥

-- A front is something of a language, or that goes on with what stands after it.
data Past (Q : List Token → Type 0) (ps rest : List Token) : Type 0 where
  ended : Q ps → Past Q ps rest
  on : (y : Token) (ys b : List Token) → rest ≡ y ∷ (ys ++ b) → Q (ps ++ (y ∷ ys)) → Past Q ps rest

module _ {L Q R : List Token → Type 0} {stops : ℕ} {all left before : List Token} (d : IsDue L Q R stops all left before) where
  past : (ps rest : List Token) → IsBegun Q ps → Then Q R (ps ++ rest) → Past Q ps rest
  past ps rest begun o = go (overlap o.front o.behind ps rest (sym o.split))
    where
      go : Overlap o.front o.behind ps rest → Past Q ps rest
      go (shorter y ys e f) =
          let h : has stops (token_kind y) ≡ true = d.stop y (ys ++ rest) (let g = o.second in rw f at g) in
          let w : Q ((o.front ++ (y ∷ ys)) ++ begun.0) = let g = begun.1 in rw e at g in
          absurd (d.none_longer o.front (ys ++ begun.0) y h o.first (rw append_assoc at w))
      go (even e f) = ended (let g = o.first in rw e at g)
      go (longer y ys e f) = on y ys o.behind f (let g = o.first in rw e at g)

  -- None begins with the next token.
  pub none_there : Refuses Q left → (t : Token) (us rest : List Token) → left ≡ t ∷ us → L (before ++ (t ∷ rest)) → ⊥
  none_there none t us rest e l = let o = d.back t rest (sym (ap head_kind e)) l in go o.front o.behind o.split o.first
    where
      go : (front behind : List Token) → t ∷ rest ≡ front ++ behind → Q front → ⊥
      go [] behind f q = d.none_empty q
      go (y ∷ ys) behind f q = let same : y ≡ t = cc f in none t us ys e (rw same at q)

  module _ (t : Token) (ps after : List Token) (split : left ≡ (t ∷ ps) ++ after) where
    kind : token_kind t ≡ head_kind left
    kind = sym (ap head_kind split)

    whole_of : (us : List Token) → Q (t ∷ us) → L (before ++ ((t ∷ us) ++ d.rest))
    whole_of us q = d.onto t (us ++ d.rest) kind (record { front = t ∷ us; behind = d.rest; split = refl; first = q; second = d.ends })

    begun_past : IsBegun Q (t ∷ ps) → IsBegun L (before ++ (t ∷ ps))
    begun_past b = (b.0 ++ d.rest, rw (append_assoc before (t ∷ ps) (b.0 ++ d.rest), ← append_assoc (t ∷ ps) b.0 d.rest) (whole_of (ps ++ b.0) b.1))

    pub goes_past : (j : ℕ) → GoesOn Q (t ∷ ps) j → GoesOn L (before ++ (t ∷ ps)) j
    goes_past j g = (g.0, g.1 ++ d.rest, g.2, rw (append_assoc before (t ∷ ps) (g.0 ∷ (g.1 ++ d.rest)), ← append_assoc (t ∷ ps) (g.0 ∷ g.1) d.rest) (whole_of (ps ++ (g.0 ∷ g.1)) g.3))

    pub split_past : all ≡ (before ++ (t ∷ ps)) ++ after
    split_past = d.split ∙ (ap (λ (v : List Token). before ++ v) split ∙ sym (append_assoc before (t ∷ ps) after))

    then_past : (rest : List Token) → L ((before ++ (t ∷ ps)) ++ rest) → Then Q R ((t ∷ ps) ++ rest)
    then_past rest l = d.back t (ps ++ rest) kind (rw append_assoc at l)

    -- Part of it was read.
    part_read : {kinds : ℕ} → IsBegun Q (t ∷ ps) → ((j : ℕ) → (has kinds j ≡ true) ↔ GoesOn Q (t ∷ ps) j) → (Q (t ∷ ps) → ⊥) →
        ((u : Token) (us rest : List Token) → after ≡ u ∷ us → Q ((t ∷ ps) ++ (u ∷ rest)) → ⊥) → LongestFront L all after kinds false
    part_read {kinds} b told none stop = record {
      front = before ++ (t ∷ ps);
      split = split_past;
      begun = begun_past b;
      goes_on = λ j. (λ h. goes_past j ((told j).0 h), λ g. from j g (past_front (g.0 ∷ g.1) g.3));
      ended = (λ e. absurd (cc e), λ m. absurd (whole (past_front [] (rw (append-nil (before ++ (t ∷ ps))) m))));
      stops = λ u us rest e m. stopping u us rest e (past_front (u ∷ rest) m);
    }
      where
        past_front : (rest : List Token) → L ((before ++ (t ∷ ps)) ++ rest) → Past Q (t ∷ ps) rest
        past_front rest l = past (t ∷ ps) rest b (then_past rest l)

        from : (j : ℕ) (g : GoesOn L (before ++ (t ∷ ps)) j) → Past Q (t ∷ ps) (g.0 ∷ g.1) → has kinds j ≡ true
        from j g (ended m) = absurd (none m)
        from j g (on y ys c e m) = let same : y ≡ g.0 = cc e in (told j).1 (y, ys, ap token_kind same ∙ g.2, m)

        whole : Past Q (t ∷ ps) [] → ⊥
        whole (ended m) = none m
        whole (on y ys c e m) = absurd (cc e)

        stopping : (u : Token) (us rest : List Token) → after ≡ u ∷ us → Past Q (t ∷ ps) (u ∷ rest) → ⊥
        stopping u us rest e (ended m) = none m
        stopping u us rest e (on y ys c f m) = let same : y ≡ u = cc f in stop u us ys e (rw same at m)

    -- What else stands there, where a whole one was read.
    one_behind : (kinds : ℕ) → ((j : ℕ) → (has kinds j ≡ true) ↔ GoesOn Q (t ∷ ps) j) → Q (t ∷ ps) → (rest : List Token) → IsQuiet rest kinds → Then Q R ((t ∷ ps) ++ rest) → R rest
    one_behind kinds told m rest quiet o = go (overlap o.front o.behind (t ∷ ps) rest (sym o.split))
      where
        go : Overlap o.front o.behind (t ∷ ps) rest → R rest
        go (shorter y ys e f) =
            let h : has stops (token_kind y) ≡ true = d.stop y (ys ++ rest) (let g = o.second in rw f at g) in
            absurd (d.none_longer o.front ys y h o.first (rw e at m))
        go (even e f) = let g = o.second in rw f at g
        go (longer y ys e f) =
            let h : has kinds (token_kind y) ≡ true = (told (token_kind y)).1 (y, ys, refl, (let g = o.first in rw e at g)) in
            unless_true (has kinds (token_kind y)) h (quiet y (ys ++ o.behind) f)

    whole_read : {kinds : ℕ} → ((j : ℕ) → (has kinds j ≡ true) ↔ GoesOn Q (t ∷ ps) j) → Q (t ∷ ps) → IsQuiet after kinds → Residue L R all after kinds
    whole_read {kinds} told m quiet = record {
      before = before ++ (t ∷ ps);
      split = split_past;
      onto = λ rest q r. rw (append_assoc before (t ∷ ps) rest) (d.onto t (ps ++ rest) kind (record { front = t ∷ ps; behind = rest; split = refl; first = m; second = r }));
      back = λ rest q l. one_behind kinds told m rest q (then_past rest l);
      longer = λ j h. goes_past j ((told j).0 h);
      quiet = quiet;
    }

module _ {L Q R : List Token → Type 0} {stops : ℕ} {all left after before : List Token} (d : IsDue L Q R stops all left before) where
  pub reads_part : (kinds : ℕ) → PartRead Q left after kinds → LongestFront L all after kinds false
  reads_part kinds r = go (r.longest).front (r.longest).split (r.longest).begun (r.longest).goes_on (λ m. let e : false ≡ true = ((r.longest).ended).1 m in absurd (cc e)) (r.longest).stops
    where
      go : (ps : List Token) → left ≡ ps ++ after → IsBegun Q ps → ((j : ℕ) → (has kinds j ≡ true) ↔ GoesOn Q ps j) → (Q ps → ⊥) →
          ((u : Token) (us rest : List Token) → after ≡ u ∷ us → Q (ps ++ (u ∷ rest)) → ⊥) → LongestFront L all after kinds false
      go [] e b told none stop = absurd (let n : length left ≡ length after = ap length e in let l = r.fewer in let z : ⊥ = omega (arith, n, l) in z)
      go (t ∷ ps) e b told none stop = part_read d t ps after e b told none stop

  pub reads_whole : (kinds : ℕ) → WholeRead Q left after kinds → Residue L R all after kinds
  reads_whole kinds r = go (r.longest).front (r.longest).split (r.longest).goes_on (((r.longest).ended).0 refl)
    where
      go : (ps : List Token) → left ≡ ps ++ after → ((j : ℕ) → (has kinds j ≡ true) ↔ GoesOn Q ps j) → Q ps → Residue L R all after kinds
      go [] e told m = absurd (let n : length left ≡ length after = ap length e in let l = r.fewer in let z : ⊥ = omega (arith, n, l) in z)
      go (t ∷ ps) e told m = whole_read d t ps after e told m r.quiet
