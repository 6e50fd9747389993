-- What becomes of a front where a phrase is due.
use Rattle.std.proofs.Common.{◌≡◌, ◌↔◌, ℕ, suc, ◌+◌, List, [], ◌∷◌, ◌++◌, length, true, false, refl, sym, ap, ◌∙◌, arith, append_assoc, length-append}
use Rattle.vast_literal.specs.Tokens as tokens
use Rattle.vast_rows.specs.declared.grammar.Item.{Item}
use Rattle.vast_rows.specs.declared.grammar.Item.TheVariants.{Phrase}
use Rattle.vast_rows.specs.declared.grammar.Phrase as code
use Rattle.vast_rows.specs.Events.{Event, Reads}
use Rattle.vast_rows.specs.Facts.{Fact}
use Rattle.vast_rows.specs.Fronts.{GoesOn, LongestFront}
use Rattle.vast_rows.specs.Internal.Reaches.{SpellsRule, IsQuiet, Refuses, PartRead, WholeRead}
use Rattle.vast_rows.specs.Internal.Derives.{phrase}
use Rattle.vast_rows.specs.Internal.PhraseKinds.{firsts, stops}
use Rattle.vast_rows.specs.Internal.Predictive.{is_predictive}
use Rattle.vast_rows.specs.Internal.Reading.{Reading}
use Rattle.vast_rows.specs.Internal.Sources.{head_kind, HasRead, SpellsPhrase}
use Rattle.vast_rows.specs.Kinds.{has, token_kind}
use Rattle.vast_rows.specs.Phrases.{Meaning, IsPhrase}
use Rattle.vast_rows.specs.Rows.{Row}
use Rattle.vast_rows.proofs.Derivations.{spelled, whole_derived}
use Rattle.vast_rows.proofs.Ending.{Closes, closes_below}
use Rattle.vast_rows.proofs.Once.{stopped}
use Rattle.vast_rows.proofs.Overlaps.{Overlap, shorter, even, longer, overlap}
use Rattle.vast_rows.proofs.PhraseLaws.{begins as phrase_begins, apart}
use Rattle.vast_rows.proofs.PhraseStarts.{starts, no_end, none_longer}
use Rattle.vast_rows.proofs.Residues.{IsDue, none_there, goes_past, split_past, reads_part as part_there}
use Rattle.vast_rows.proofs.Standing.{Standing, Derived}
use Rattle.vast_rows.proofs.Steps.{phrased, read_phrase}

-- After the front a phrase is due, by all tokens that begin with the kind.
pub record PhraseDue (rows : List Row) (facts : ℕ → Fact) (start : ℕ) (all left before : List tokens.Token) (k : ℕ) (q : code.Phrase) (s : List Item) : Type 0 where
  pub split : all ≡ before ++ left
  pub kind : head_kind left ≡ k
  pub reading : (t : tokens.Token) (us : List tokens.Token) → token_kind t ≡ k → (done : List Event) × Reading rows facts start (before ++ (t ∷ us)) (t ∷ us) (Phrase q ∷ s) done
  pub closes : Closes rows (Phrase q ∷ s)
  pub fits : has (firsts q) k ≡ true

module _ {rows : List Row} {facts : ℕ → Fact} {start : ℕ} {all left before : List tokens.Token} {k : ℕ} {q : code.Phrase} {s : List Item} (p : is_predictive facts rows ≡ true) (w : PhraseDue rows facts start all left before k q s) where
  due : IsDue (SpellsRule rows start) (SpellsPhrase q) (Derived rows s) (stops q) all left before
  due = let c = closes_below rows (Phrase q) s w.closes in record {
    split = w.split;
    onto = λ t us e x. let r = w.reading t us (e ∙ w.kind) in let m = x.first in let d = x.second in
        (r.0 ++ (Reads m.0 ∷ d.0), spelled ((r.1).sound (Reads m.0 ∷ d.0) (phrase x.front m.0 m.1 x.split d.1)));
    back = λ t us e m. let r = w.reading t us (e ∙ w.kind) in let c = (r.1).complete m.0 (whole_derived rows start (before ++ (t ∷ us)) m.0 m.1) in let f = phrased c.1 in
        record { front = f.front; behind = f.behind; split = f.split; first = (f.meaning, f.is_phrase); second = (f.more, f.rest) };
    rest = c.0;
    ends = (c.1, c.2);
    stop = λ t us d. let o = starts q k w.fits in stopped q s facts p ((w.reading o.first [] o.kinds).1).follows d.1;
    none_longer = none_longer q;
    none_empty = λ m. no_end q (phrase_begins q [] [] m.0 m.1);
  }

  -- None begins with the next token.
  pub nowhere : Refuses (SpellsPhrase q) left → (t : tokens.Token) (us rest : List tokens.Token) → left ≡ t ∷ us → SpellsRule rows start (before ++ (t ∷ rest)) → ⊥
  nowhere none = none_there due none

  module _ (t : tokens.Token) (ps after : List tokens.Token) (split : left ≡ (t ∷ ps) ++ after) where
    kind : token_kind t ≡ k
    kind = sym (ap head_kind split) ∙ w.kind

    -- A whole one was read.
    pub whole_read : {kinds : ℕ} → ((j : ℕ) → (has kinds j ≡ true) ↔ GoesOn (SpellsPhrase q) (t ∷ ps) j) → SpellsPhrase q (t ∷ ps) → IsQuiet after kinds → Standing rows facts start all after s kinds
    whole_read {kinds} goes m quiet = record {
      before = before ++ (t ∷ ps);
      split = split_past due t ps after split;
      reading = λ rest l. let r = w.reading t (ps ++ rest) kind in (r.0 ++ Reads m.0 ∷ [], rw (append_assoc before (t ∷ ps) rest) (read_phrase rows facts start (before ++ ((t ∷ ps) ++ rest)) ((t ∷ ps) ++ rest) rest q m.0 s r.0 p r.1 (reads rest l)));
      longer = λ j h. goes_past due t ps after split j ((goes j).0 h);
      closes = closes_below rows (Phrase q) s w.closes;
      quiet = quiet;
    }
      where
        reads : (rest : List tokens.Token) → IsQuiet rest kinds → HasRead q ((t ∷ ps) ++ rest) m.0 rest
        reads rest l = record {
          front = t ∷ ps;
          reads = m.1;
          split = refl;
          fewer = let n : length ((t ∷ ps) ++ rest) ≡ suc (length ps) + length rest = length-append (t ∷ ps) rest in omega (arith, n);
          same = λ ts us n i e h. one ts us n i h e (overlap ts us (t ∷ ps) rest (sym e));
        }
          where
            one : (ts us : List tokens.Token) (n : Meaning) → IsPhrase q ts n → has (stops q) (head_kind us) ≡ true → (t ∷ ps) ++ rest ≡ ts ++ us → Overlap ts us (t ∷ ps) rest → (n ≡ m.0) × (us ≡ rest)
            one ts us n i h e (shorter y ys f g) = absurd (none_longer q ts ys y (rw g at h) (n, i) (rw f at m))
            one ts us n i h e (even f g) =
                let z = apart q ts (t ∷ ps) us rest n m.0 i m.1 (sym e) h (rw g at h) in (z.0, z.1)
            one ts us n i h e (longer y ys f g) =
                let o : has kinds (token_kind y) ≡ true = (goes (token_kind y)).1 (y, ys, refl, (n, rw f at i)) in
                absurd (let z : has kinds (token_kind y) ≡ false = l y (ys ++ us) g in cc (o, z))

module _ {rows : List Row} {facts : ℕ → Fact} {start : ℕ} {all left after before : List tokens.Token} {k : ℕ} {q : code.Phrase} {s : List Item} (p : is_predictive facts rows ≡ true) (w : PhraseDue rows facts start all left before k q s) where
  pub reads_part : (kinds : ℕ) → PartRead (SpellsPhrase q) left after kinds → LongestFront (SpellsRule rows start) all after kinds false
  reads_part kinds r = part_there (due p w) kinds r

  pub reads_whole : (kinds : ℕ) → WholeRead (SpellsPhrase q) left after kinds → Standing rows facts start all after s kinds
  reads_whole kinds r = go (r.longest).front (r.longest).split (r.longest).goes_on (((r.longest).ended).0 refl)
    where
      go : (ps : List tokens.Token) → left ≡ ps ++ after → ((j : ℕ) → (has kinds j ≡ true) ↔ GoesOn (SpellsPhrase q) ps j) → SpellsPhrase q ps → Standing rows facts start all after s kinds
      go [] e goes m = absurd (let n : length left ≡ length after = ap length e in let l = r.fewer in let z : ⊥ = omega (arith, n, l) in z)
      go (t ∷ ps) e goes m = whole_read p w t ps after e goes m r.quiet
