-- The turns of the reader of headers.
use Rattle.std.proofs.Common.{◌≡◌, ◌↔◌, ℕ, suc, ◌<◌, ◌≤◌, List, [], ◌∷◌, ◌++◌, length, Bool, ◌&&◌, nat_lt, true, false, cond, codes, Option, Some, None, Result, Ok, Err, IfOk, refl, sym, ap, ◌∙◌, ◌⊎◌, inl, inr, arith}
use Rattle.std.specs.Int.Bits.{bit_or}
use Rattle.std.specs.Prelude.{MatchOption}
use Rattle.vast_literal.specs.Tokens as tokens
use Rattle.vast_literal.proofs.Levels.{lower}
use Rattle.vast_rows.specs.declared.grammar.Phrase.TheVariants.{Expression, LoopHead}
use Rattle.vast_rows.specs.declared.header.Part.{Part}
use Rattle.vast_rows.specs.declared.header.Part.TheVariants as part
use Rattle.vast_rows.specs.declared.kind.Kind.{Kind}
use Rattle.vast_rows.specs.declared.kind.Kind.TheVariants as kind
use Rattle.vast_rows.specs.declared.reach.Reach.{Reach}
use Rattle.vast_rows.specs.declared.reach.Reach.TheVariants.{Nowhere, Part as PartOf, Whole}
use Rattle.vast_rows.specs.Fronts.{GoesOn, LongestFront}
use Rattle.vast_rows.specs.Internal.Headers.{IsAt, HasKind, MayBe, IsOne, Eaten, may_be, Coming, nothing, token, variable, one, expression, bound, opens, named, closes, compares, closing, header, closing_kinds, part_kinds, stop_it, are_good, InHeader, Leads}
use Rattle.vast_rows.specs.Internal.PhraseKinds.{firsts, stops}
use Rattle.vast_rows.specs.Internal.Reaches.{Refuses, PartRead, WholeRead, Reaches}
use Rattle.vast_rows.specs.Internal.Sets.{only}
use Rattle.vast_rows.specs.Internal.Sources.{head_kind, first_name, SpellsPhrase}
use Rattle.vast_rows.specs.Kinds.{has, number, token_kind}
use Rattle.vast_rows.specs.Numbers.{Less, OpenParen, CloseParen}
use Rattle.vast_rows.specs.Phrases.{IsPhrase, IsExpression, expression as is_expression}
use Rattle.vast_rows.proofs.Headers.{to_head, of_head, head_word}
use Rattle.vast_rows.proofs.PhraseLaws.{begins as phrase_begins}
use Rattle.vast_rows.proofs.PhraseStarts.{an_operand, operand_starts, no_end, none_longer}
use Rattle.vast_rows.proofs.Residues.{IsDue, Then, stands, stands_by, refused, advance, reads_part, reads_whole, quiet_like, quiet_always}
use Rattle.vast_rows.proofs.Sets.{both, has_only, has_or, or_first, or_second, only_has, no_kind}

-- Expressions of the levels that are parts of headers.
as_phrase : (k : ℕ) (ts : List tokens.Token) → k ≤ 14 → IsAt k ts → SpellsPhrase Expression ts
as_phrase k ts small x = (IsExpression x.0, is_expression (lower k 0 ts x.0 (omega arith) small x.1))

at_whole : {ts : List tokens.Token} → SpellsPhrase Expression ts → IsAt 0 ts
at_whole {ts} m = go m.1
  where
    go : {n : _} → IsPhrase Expression ts n → IsAt 0 ts
    go (is_expression {x = x} e) = (x, e)

-- A token of each kind but the end.
of_kind : (k : Kind) → nat_lt 0 (number k) ≡ true → (t : tokens.Token) × (token_kind t ≡ number k)
of_kind kind.End h = absurd (cc h)
of_kind kind.Word h = (tokens.Word [], refl)
of_kind kind.Keyword h = (tokens.Keyword [], refl)
of_kind kind.SystemWord h = (tokens.SystemWord [], refl)
of_kind kind.MacroWord h = (tokens.MacroWord [], refl)
of_kind kind.IncludeWord h = (tokens.MacroWord (codes "include"), refl)
of_kind kind.Number h = (tokens.Number [], refl)
of_kind kind.Based h = (tokens.Based [], refl)
of_kind kind.Quoted h = (tokens.Quoted [], refl)
of_kind (kind.Mark m) h = (tokens.Mark m, refl)
of_kind (kind.Operator o) h = (tokens.Operator o, refl)
of_kind (kind.Reserved k) h = (tokens.Reserved k, refl)

-- A name that the variable may have.
abbrev name_of : Option (List ℕ) → List ℕ
name_of None = []
name_of (Some w) = w

fits_name : (v : Option (List ℕ)) → may_be v (name_of v)
fits_name None = tt
fits_name (Some w) = refl

-- Something that may come.
sample : (v : Option (List ℕ)) (s : List Part) → are_good s ≡ true → (ts : List tokens.Token) × Coming v s ts
sample v [] h = ([], nothing)
sample v (part.Token k ∷ s) h = let b = both (nat_lt 0 (number k)) (are_good s) h in let t = of_kind k b.0 in let r = sample v s b.1 in (t.0 ∷ r.0, token t.0 t.1 r.1)
sample v (part.Variable ∷ s) h = let r = sample (Some (name_of v)) s h in (_, variable (name_of v) (fits_name v) r.1)
sample v (part.One ∷ s) h = let r = sample v s h in (_, one r.1)
sample v (part.Expression ∷ s) h = let r = sample v s (both (stop_it s) (are_good s) h).1 in (_, expression _ refl (an_operand 0 (omega arith)) r.1)
sample v (part.Condition ∷ s) h = let r = sample (Some (name_of v)) s (both (stop_it s) (are_good s) h).1 in (_, named (name_of v) (fits_name v) (compares (tokens.Operator Less) refl (bound _ refl (an_operand 8 (omega arith)) r.1)))
sample v (part.Comparison ∷ s) h = let r = sample v s (both (stop_it s) (are_good s) h).1 in (_, compares (tokens.Operator Less) refl (bound _ refl (an_operand 8 (omega arith)) r.1))
sample v (part.Bound ∷ s) h = let r = sample v s (both (stop_it s) (are_good s) h).1 in (_, bound _ refl (an_operand 8 (omega arith)) r.1)
sample v (part.Closing ∷ s) h = let r = sample v s (both (stop_it s) (are_good s) h).1 in (_, closing (tokens.Mark CloseParen) refl r.1)

-- The kinds by which parts begin.

kind_in : (t : tokens.Token) (k : ℕ) → token_kind t ≡ k → has (only k) (token_kind t) ≡ true
kind_in t k e = has_only k (token_kind t) (sym e)

phrase_kind : (k : ℕ) (xs ts : List tokens.Token) (t : tokens.Token) (us : List tokens.Token) → k ≤ 14 → t ∷ us ≡ xs ++ ts → IsAt k xs → has (firsts Expression) (token_kind t) ≡ true
phrase_kind k xs ts t us small e x =
    let m = as_phrase k xs small x in
    let h : has (firsts Expression) (head_kind (xs ++ ts)) ≡ true = phrase_begins Expression xs ts m.0 m.1 in rw (← e) at h

first_kind : {v : Option (List ℕ)} (s : List Part) (t : tokens.Token) (us : List tokens.Token) → Coming v s (t ∷ us) → has (part_kinds s) (token_kind t) ≡ true
first_kind _ t us (token {k = k} _ e c) = kind_in t (number k) e
first_kind _ t us (variable w f c) = refl
first_kind _ t us (one c) = refl
first_kind _ t us (expression {ts = ts} xs e x c) = phrase_kind 0 xs ts t us (omega arith) e x
first_kind _ t us (bound {ts = ts} xs e x c) = phrase_kind 8 xs ts t us (omega arith) e x
first_kind _ t us (opens _ e c) = or_second (only 1) (only (number (kind.Mark OpenParen))) (token_kind t) (kind_in t (number (kind.Mark OpenParen)) e)
first_kind _ t us (named w f c) = refl
first_kind _ t us (closes {s = s} _ e c) = or_second (only (number (kind.Operator Less))) (only (number (kind.Mark CloseParen))) (token_kind t) (kind_in t (number (kind.Mark CloseParen)) e)
first_kind _ t us (compares {s = s} _ e c) = or_first (only (number (kind.Operator Less))) (closing_kinds s) (token_kind t) (kind_in t (number (kind.Operator Less)) e)
first_kind _ t us (closing _ e c) = kind_in t (number (kind.Mark CloseParen)) e

module _ (v : Option (List ℕ)) where
  behind : (s : List Part) → (stop_it s && are_good s) ≡ true → (ts : List tokens.Token) × Coming v s ts
  behind s h = sample v s (both (stop_it s) (are_good s) h).1

  closing_begins : (s : List Part) (k : ℕ) → (stop_it s && are_good s) ≡ true → has (closing_kinds s) k ≡ true → GoesOn (Coming v (part.Comparison ∷ s)) [] k
  closing_begins (part.Closing ∷ s) k h g = let r = sample v (part.Comparison ∷ s) h in (tokens.Mark CloseParen, r.0, only_has (number (kind.Mark CloseParen)) k g, closes (tokens.Mark CloseParen) refl r.1)
  closing_begins [] k h g = absurd (no_kind k g)
  closing_begins (_ ∷ s) k h g = absurd (no_kind k g)

  begins_so : (s : List Part) (k : ℕ) → are_good s ≡ true → has (part_kinds s) k ≡ true → GoesOn (Coming v s) [] k
  begins_so [] k h g = absurd (no_kind k g)
  begins_so (part.Token j ∷ s) k h g =
      let b = both (nat_lt 0 (number j)) (are_good s) h in let t = of_kind j b.0 in let r = sample v s b.1 in (t.0, r.0, t.1 ∙ only_has (number j) k g, token t.0 t.1 r.1)
  begins_so (part.Variable ∷ s) k h g = let r = sample (Some (name_of v)) s h in (tokens.Word (name_of v), r.0, only_has 1 k g, variable (name_of v) (fits_name v) r.1)
  begins_so (part.One ∷ s) k h g = let r = sample v s h in (tokens.Number (codes "1"), r.0, only_has 6 k g, one r.1)
  begins_so (part.Expression ∷ s) k h g = let o = operand_starts 0 (omega arith) k g in let r = behind s h in (o.first, o.others ++ r.0, o.kinds, expression (o.first ∷ o.others) refl o.spelled r.1)
  begins_so (part.Bound ∷ s) k h g = let o = operand_starts 8 (omega arith) k g in let r = behind s h in (o.first, o.others ++ r.0, o.kinds, bound (o.first ∷ o.others) refl o.spelled r.1)
  begins_so (part.Condition ∷ s) k h g = go (has_or (only 1) (only (number (kind.Mark OpenParen))) k g)
    where
      go : (has (only 1) k ≡ true) ⊎ (has (only (number (kind.Mark OpenParen))) k ≡ true) → GoesOn (Coming v (part.Condition ∷ s)) [] k
      go (inl a) = let r = sample (Some (name_of v)) (part.Comparison ∷ s) h in (tokens.Word (name_of v), r.0, only_has 1 k a, named (name_of v) (fits_name v) r.1)
      go (inr a) = let r = sample v (part.Condition ∷ (part.Closing ∷ s)) h in (tokens.Mark OpenParen, r.0, only_has (number (kind.Mark OpenParen)) k a, opens (tokens.Mark OpenParen) refl r.1)
  begins_so (part.Comparison ∷ s) k h g = go (has_or (only (number (kind.Operator Less))) (closing_kinds s) k g)
    where
      go : (has (only (number (kind.Operator Less))) k ≡ true) ⊎ (has (closing_kinds s) k ≡ true) → GoesOn (Coming v (part.Comparison ∷ s)) [] k
      go (inl a) = let r = sample v (part.Bound ∷ s) h in (tokens.Operator Less, r.0, only_has (number (kind.Operator Less)) k a, compares (tokens.Operator Less) refl r.1)
      go (inr a) = closing_begins s k h a
  begins_so (part.Closing ∷ s) k h g = let r = behind s h in (tokens.Mark CloseParen, r.0, only_has (number (kind.Mark CloseParen)) k g, closing (tokens.Mark CloseParen) refl r.1)

  begun_so : (s : List Part) (k : ℕ) → GoesOn (Coming v s) [] k → has (part_kinds s) k ≡ true
  begun_so s k g = let h = first_kind s g.0 g.1 g.3 in let e = g.2 in rw e at h

-- Parts are not empty.
none_empty : (k : ℕ) → k ≤ 14 → IsAt k [] → ⊥
none_empty k small x = let m = as_phrase k [] small x in no_end Expression (phrase_begins Expression [] [] m.0 m.1)

not_over : {v : Option (List ℕ)} {p : Part} {s : List Part} (ts : List tokens.Token) → ts ≡ [] → Coming v (p ∷ s) ts → ⊥
not_over ts e (expression [] f x c) = none_empty 0 (omega arith) x
not_over ts e (expression (y ∷ ys) f x c) = absurd (cc (e, f))
not_over ts e (bound [] f x c) = none_empty 8 (omega arith) x
not_over ts e (bound (y ∷ ys) f x c) = absurd (cc (e, f))
not_over ts e (token _ _ _) = absurd (cc e)
not_over ts e (variable _ _ _) = absurd (cc e)
not_over ts e (one _) = absurd (cc e)
not_over ts e (opens _ _ _) = absurd (cc e)
not_over ts e (named _ _ _) = absurd (cc e)
not_over ts e (closes _ _ _) = absurd (cc e)
not_over ts e (compares _ _ _) = absurd (cc e)
not_over ts e (closing _ _ _) = absurd (cc e)

-- What begins behind an expression goes on with none.
stopped : {v : Option (List ℕ)} (s : List Part) (t : tokens.Token) (us : List tokens.Token) → stop_it s ≡ true → Coming v s (t ∷ us) → has (stops Expression) (token_kind t) ≡ true
stopped _ t us h (token {k = k} _ e c) = rw e h
stopped _ t us h (closing _ e c) = rw e refl
stopped _ t us h (variable w f c) = absurd (cc h)
stopped _ t us h (one c) = absurd (cc h)
stopped _ t us h (expression xs e x c) = absurd (cc h)
stopped _ t us h (bound xs e x c) = absurd (cc h)
stopped _ t us h (opens _ e c) = absurd (cc h)
stopped _ t us h (named w f c) = absurd (cc h)
stopped _ t us h (closes _ e c) = absurd (cc h)
stopped _ t us h (compares _ e c) = absurd (cc h)

-- One token.

eaten : {v w : Option (List ℕ)} {s p : List Part} {before left : List tokens.Token} (t : tokens.Token) → before ≡ t ∷ left → ((rest : List tokens.Token) → Coming v s (t ∷ rest) ↔ Coming w p rest) → (are_good s ≡ true → are_good p ≡ true) →
    Leads v s before w p left (Whole 0)
eaten {before = before} {left = left} t e step good = (let n : length before ≡ suc (length left) = ap length e in omega (arith, n), λ all more h. record { residue = advance h.residue t left e step; good = good h.good })

pub token_leads : (v : Option (List ℕ)) (s : List Part) (k : Kind) (before left : List tokens.Token) (b : Bool) → Eaten (HasKind k) before left b → Leads v (part.Token k ∷ s) before v s left (cond b (Whole 0) Nowhere)
token_leads v s k before left true d = eaten d.0 d.1 (λ rest. (off d.0 rest, token d.0 d.2)) (λ h. (both (nat_lt 0 (number k)) (are_good s) h).1)
  where
    off : (t : tokens.Token) (rest : List tokens.Token) → Coming v (part.Token k ∷ s) (t ∷ rest) → Coming v s rest
    off t rest (token _ _ c) = c
token_leads v s k before left false d = (d.0, λ t us rest e c. d.1 t us e (is t rest c))
  where
    is : (t : tokens.Token) (rest : List tokens.Token) → Coming v (part.Token k ∷ s) (t ∷ rest) → HasKind k t
    is t rest (token _ e c) = e

pub closing_leads : (v : Option (List ℕ)) (s : List Part) (before left : List tokens.Token) (b : Bool) → Eaten (HasKind (kind.Mark CloseParen)) before left b → Leads v (part.Closing ∷ s) before v s left (cond b (Whole 0) Nowhere)
closing_leads v s before left true d = eaten d.0 d.1 (λ rest. (off d.0 rest, closing d.0 d.2)) (λ h. (both (stop_it s) (are_good s) h).1)
  where
    off : (t : tokens.Token) (rest : List tokens.Token) → Coming v (part.Closing ∷ s) (t ∷ rest) → Coming v s rest
    off t rest (closing _ _ c) = c
closing_leads v s before left false d = (d.0, λ t us rest e c. d.1 t us e (is t rest c))
  where
    is : (t : tokens.Token) (rest : List tokens.Token) → Coming v (part.Closing ∷ s) (t ∷ rest) → HasKind (kind.Mark CloseParen) t
    is t rest (closing _ e c) = e

pub one_leads : (v : Option (List ℕ)) (s : List Part) (before left : List tokens.Token) (b : Bool) → Eaten IsOne before left b → Leads v (part.One ∷ s) before v s left (cond b (Whole 0) Nowhere)
one_leads v s before left true d = eaten (tokens.Number (codes "1")) (rw d.2 at d.1) (λ rest. (off rest, one)) (λ h. h)
  where
    off : (rest : List tokens.Token) → Coming v (part.One ∷ s) (tokens.Number (codes "1") ∷ rest) → Coming v s rest
    off rest (one c) = c
one_leads v s before left false d = (d.0, λ t us rest e c. d.1 t us e (is t rest c))
  where
    is : (t : tokens.Token) (rest : List tokens.Token) → Coming v (part.One ∷ s) (t ∷ rest) → IsOne t
    is t rest (one c) = refl

-- The variable.
pub variable_leads : (v : Option (List ℕ)) (s : List Part) (before left : List tokens.Token) (b : Bool) → Eaten (MayBe v) before left b → Leads v (part.Variable ∷ s) before (cond b (first_name before) v) s left (cond b (Whole 0) Nowhere)
variable_leads v s before left true d =
    let e : before ≡ tokens.Word (d.2).0 ∷ left = d.1 ∙ ap (λ (t : tokens.Token). t ∷ left) (d.2).1 in
    rw e (eaten {w = Some (d.2).0} (tokens.Word (d.2).0) refl (λ rest. (off (d.2).0 rest, variable (d.2).0 (d.2).2)) (λ h. h))
  where
    off : (w : List ℕ) (rest : List tokens.Token) → Coming v (part.Variable ∷ s) (tokens.Word w ∷ rest) → Coming (Some w) s rest
    off w rest (variable _ _ c) = c
variable_leads v s before left false d = (d.0, λ t us rest e c. d.1 t us e (is t rest c))
  where
    is : (t : tokens.Token) (rest : List tokens.Token) → Coming v (part.Variable ∷ s) (t ∷ rest) → MayBe v t
    is t rest (variable w f c) = (w, refl, f)

-- A condition.

pub condition_opens : (v : Option (List ℕ)) (s p q : List Part) (before left : List tokens.Token) → p ≡ part.Closing ∷ s → q ≡ part.Condition ∷ p → Eaten (HasKind (kind.Mark OpenParen)) before left true →
    Leads v (part.Condition ∷ s) before v q left (Whole 0)
condition_opens v s p q before left e f d = rw (f, e) (eaten d.0 d.1 (λ rest. (off d.0 rest d.2, opens d.0 d.2)) (λ h. h))
  where
    off : (t : tokens.Token) (rest : List tokens.Token) → HasKind (kind.Mark OpenParen) t → Coming v (part.Condition ∷ s) (t ∷ rest) → Coming v (part.Condition ∷ (part.Closing ∷ s)) rest
    off t rest k (opens _ _ c) = c
    off t rest k (named w f c) = absurd (cc k)

pub condition_named : (v w : Option (List ℕ)) (s p : List Part) (before left : List tokens.Token) → p ≡ part.Comparison ∷ s → Eaten (MayBe v) before left true → w ≡ first_name before → Leads v (part.Condition ∷ s) before w p left (Whole 0)
condition_named v w s p before left f d new =
    let e : before ≡ tokens.Word (d.2).0 ∷ left = d.1 ∙ ap (λ (t : tokens.Token). t ∷ left) (d.2).1 in
    rw (f, new, e) (eaten {w = Some (d.2).0} (tokens.Word (d.2).0) refl (λ rest. (off (d.2).0 rest, named (d.2).0 (d.2).2)) (λ h. h))
  where
    off : (w : List ℕ) (rest : List tokens.Token) → Coming v (part.Condition ∷ s) (tokens.Word w ∷ rest) → Coming (Some w) (part.Comparison ∷ s) rest
    off w rest (named _ _ c) = c
    off w rest (opens _ k c) = absurd (cc k)

pub condition_refused : (v : Option (List ℕ)) (s : List Part) (before : List tokens.Token) → ((t : tokens.Token) (us : List tokens.Token) → before ≡ t ∷ us → HasKind (kind.Mark OpenParen) t → ⊥) →
    ((t : tokens.Token) (us : List tokens.Token) → before ≡ t ∷ us → MayBe v t → ⊥) → Refuses (Coming v (part.Condition ∷ s)) before
condition_refused v s before no_paren no_name t us rest e (opens _ k c) = no_paren t us e k
condition_refused v s before no_paren no_name t us rest e (named w f c) = no_name t us e (w, refl, f)

pub comparison_less : (v : Option (List ℕ)) (s p : List Part) (before left : List tokens.Token) → p ≡ part.Bound ∷ s → Eaten (HasKind (kind.Operator Less)) before left true → Leads v (part.Comparison ∷ s) before v p left (Whole 0)
comparison_less v s p before left f d = rw f (eaten d.0 d.1 (λ rest. (off s d.0 rest d.2, compares d.0 d.2)) (λ h. h))
  where
    off : (s : List Part) (t : tokens.Token) (rest : List tokens.Token) → HasKind (kind.Operator Less) t → Coming v (part.Comparison ∷ s) (t ∷ rest) → Coming v (part.Bound ∷ s) rest
    off s t rest k (compares _ _ c) = c
    off _ t rest k (closes _ j c) = absurd (cc (k, j))

popped : (o : Option Part) (p q s : List Part) → MatchOption o ((p ≡ []) × (q ≡ [])) (λ x. p ≡ (x ∷ q)) → p ≡ part.Closing ∷ s → q ≡ s
popped None p q s m e = absurd (let f = m.0 in cc (e, f))
popped (Some x) p q s m e = cc (m, e)

closed_there : (v : Option (List ℕ)) (s : List Part) (before left : List tokens.Token) → Eaten (HasKind (kind.Mark CloseParen)) before left true → Leads v (part.Comparison ∷ (part.Closing ∷ s)) before v (part.Comparison ∷ s) left (Whole 0)
closed_there v s before left d = eaten d.0 d.1 (λ rest. (off d.0 rest d.2, closes d.0 d.2)) (λ h. h)
  where
    off : (t : tokens.Token) (rest : List tokens.Token) → HasKind (kind.Mark CloseParen) t → Coming v (part.Comparison ∷ (part.Closing ∷ s)) (t ∷ rest) → Coming v (part.Comparison ∷ s) rest
    off t rest k (closes _ _ c) = c
    off t rest k (compares _ j c) = absurd (cc (k, j))

pub comparison_closes : (v : Option (List ℕ)) (o : Option Part) (p q r : List Part) (before left : List tokens.Token) → (s : List Part) × (p ≡ part.Closing ∷ s) → MatchOption o ((p ≡ []) × (q ≡ [])) (λ x. p ≡ (x ∷ q)) → r ≡ part.Comparison ∷ q →
    Eaten (HasKind (kind.Mark CloseParen)) before left true → Leads v (part.Comparison ∷ p) before v r left (Whole 0)
comparison_closes v o p q r before left c m f d = rw (f, popped o p q c.0 m c.1, c.1) (closed_there v c.0 before left d)

-- Expressions.

module _ {v : Option (List ℕ)} {s : List Part} {all left : List tokens.Token} {more : ℕ} where
  expression_due : (h : InHeader v (part.Expression ∷ s) all left more) → IsDue (SpellsPhrase LoopHead) (SpellsPhrase Expression) (Coming v s) (stops Expression) all left (h.residue).before
  expression_due h = let b = both (stop_it s) (are_good s) h.good in let r = sample v s b.1 in record {
    split = (h.residue).split;
    onto = λ t us k x. (h.residue).onto (t ∷ us) (quiet_like left more t us (h.residue).quiet k) (expression x.front x.split (at_whole x.first) x.second);
    back = λ t us k l. off ((h.residue).back (t ∷ us) (quiet_like left more t us (h.residue).quiet k) l);
    rest = r.0;
    ends = r.1;
    stop = λ t us c. stopped s t us b.0 c;
    none_longer = none_longer Expression;
    none_empty = λ m. no_end Expression (phrase_begins Expression [] [] m.0 m.1);
  }
    where
      off : {ts : List tokens.Token} → Coming v (part.Expression ∷ s) ts → Then (SpellsPhrase Expression) (Coming v s) ts
      off (expression {ts = rest} xs e x c) = record { front = xs; behind = rest; split = e; first = as_phrase 0 xs (omega arith) x; second = c }

  bound_due : (h : InHeader v (part.Bound ∷ s) all left more) → IsDue (SpellsPhrase LoopHead) (IsAt 8) (Coming v s) (stops Expression) all left (h.residue).before
  bound_due h = let b = both (stop_it s) (are_good s) h.good in let r = sample v s b.1 in record {
    split = (h.residue).split;
    onto = λ t us k x. (h.residue).onto (t ∷ us) (quiet_like left more t us (h.residue).quiet k) (bound x.front x.split x.first x.second);
    back = λ t us k l. off ((h.residue).back (t ∷ us) (quiet_like left more t us (h.residue).quiet k) l);
    rest = r.0;
    ends = r.1;
    stop = λ t us c. stopped s t us b.0 c;
    none_longer = λ ts us t h a c. none_longer Expression ts us t h (as_phrase 8 ts (omega arith) a) (as_phrase 8 (ts ++ (t ∷ us)) (omega arith) c);
    none_empty = none_empty 8 (omega arith);
  }
    where
      off : {ts : List tokens.Token} → Coming v (part.Bound ∷ s) ts → Then (IsAt 8) (Coming v s) ts
      off (bound {ts = rest} xs e x c) = record { front = xs; behind = rest; split = e; first = x; second = c }

-- What of a phrase begins with the next token, nothing else does of the part.
refuses : (Q : List tokens.Token → Type 0) (xs ts : List tokens.Token) (t : tokens.Token) (us rest before : List tokens.Token) → (Q [] → ⊥) → Refuses Q before → before ≡ t ∷ us → t ∷ rest ≡ xs ++ ts → Q xs → ⊥
refuses Q [] ts t us rest before empty none e f q = empty q
refuses Q (y ∷ ys) ts t us rest before empty none e f q = let same : y ≡ t = cc f in none t us ys e (rw same at q)

pub expression_leads : (v : Option (List ℕ)) (s : List Part) (before left : List tokens.Token) (r : Reach) → Reaches (SpellsPhrase Expression) before left r → Leads v (part.Expression ∷ s) before v s left r
expression_leads v s before left Nowhere d = (d.0, none)
  where
    none : Refuses (Coming v (part.Expression ∷ s)) before
    none t us rest e (expression {ts = ts} xs f x c) = refuses (SpellsPhrase Expression) xs ts t us rest before (λ m. no_end Expression (phrase_begins Expression [] [] m.0 m.1)) d.1 e f (as_phrase 0 xs (omega arith) x)
expression_leads v s before left (PartOf kinds) d = (d.fewer, λ all more h. reads_part (expression_due h) kinds d)
expression_leads v s before left (Whole kinds) d = (d.fewer, λ all more h. record { residue = reads_whole (expression_due h) kinds d; good = (both (stop_it s) (are_good s) h.good).1 })

pub bound_leads : (v : Option (List ℕ)) (s : List Part) (before left : List tokens.Token) (r : Reach) → Reaches (IsAt 8) before left r → Leads v (part.Bound ∷ s) before v s left r
bound_leads v s before left Nowhere d = (d.0, none)
  where
    none : Refuses (Coming v (part.Bound ∷ s)) before
    none t us rest e (bound {ts = ts} xs f x c) = refuses (IsAt 8) xs ts t us rest before (none_empty 8 (omega arith)) d.1 e f x
bound_leads v s before left (PartOf kinds) d = (d.fewer, λ all more h. reads_part (bound_due h) kinds d)
bound_leads v s before left (Whole kinds) d = (d.fewer, λ all more h. record { residue = reads_whole (bound_due h) kinds d; good = (both (stop_it s) (are_good s) h.good).1 })

-- The whole.

pub no_header : (before : List tokens.Token) → ((t : tokens.Token) (us : List tokens.Token) → before ≡ t ∷ us → MayBe None t → ⊥) → Refuses (SpellsPhrase LoopHead) before
no_header before none t us rest e m = none t us e (head_word t (t ∷ rest) rest m.0 m.1 refl)

pub header_due : (v : Option (List ℕ)) (before left : List tokens.Token) → Eaten (MayBe None) before left true → v ≡ first_name before → InHeader v header before left 0
header_due v before left d n =
    let i : List ℕ = (d.2).0 in
    let same : before ≡ tokens.Word i ∷ left = d.1 ∙ ap (λ (t : tokens.Token). t ∷ left) (d.2).1 in
    let named : v ≡ Some i = n ∙ ap first_name same in
    rw named record {
      residue = record {
        before = tokens.Word i ∷ [];
        split = same;
        onto = λ rest q c. to_head c;
        back = λ rest q m. of_head m;
        longer = λ k h. absurd (no_kind k h);
        quiet = quiet_always left;
      };
      good = refl;
    }

pub header_fewer : (before left : List tokens.Token) → Eaten (MayBe None) before left true → length left < length before
header_fewer before left d = let n : length before ≡ suc (length left) = ap length d.1 in omega (arith, n)

-- Nothing more is due.
pub header_read : (v : Option (List ℕ)) (s : List Part) (all left : List tokens.Token) (more : ℕ) → s ≡ [] → length left < length all → InHeader v s all left more → WholeRead (SpellsPhrase LoopHead) all left more
header_read v [] all left more e fewer h = record {
  longest = stands_by h.residue more true (λ k. (λ g. inl g, λ g. only_more k g)) (λ e. nothing, λ c. refl) [] nothing (refused h.residue (λ t us rest e c. over (t ∷ rest) c t rest refl));
  fewer = fewer;
  quiet = (h.residue).quiet;
}
  where
    over : (ts : List tokens.Token) → Coming v [] ts → (t : tokens.Token) (us : List tokens.Token) → ts ≡ t ∷ us → ⊥
    over ts nothing t us f = absurd (cc f)

    only_more : (k : ℕ) → (has more k ≡ true) ⊎ GoesOn (Coming v []) [] k → has more k ≡ true
    only_more k (inl g) = g
    only_more k (inr g) = absurd (over (g.0 ∷ g.1) g.3 g.0 g.1 refl)
header_read v (p ∷ s) all left more e fewer h = absurd (cc e)

-- The next token fits no part that is due.
pub header_stands : (v : Option (List ℕ)) (p : Part) (s : List Part) (all before left : List tokens.Token) (more own : ℕ) → own ≡ part_kinds (p ∷ s) → length before < length all → InHeader v (p ∷ s) all before more →
    (left ≡ before) × Refuses (Coming v (p ∷ s)) before → PartRead (SpellsPhrase LoopHead) all left (bit_or more own)
header_stands v p s all before left more own e fewer h d = let r = sample v (p ∷ s) h.good in record {
  longest = rw (d.0, e) (stands h.residue (part_kinds (p ∷ s)) false (λ k. (begins_so v (p ∷ s) k h.good, begun_so v (p ∷ s) k)) (λ e. absurd (cc e), λ c. absurd (not_over [] refl c)) r.0 r.1 (refused h.residue d.1));
  fewer = rw d.0 fewer;
}

-- Part of a part was read.
pub header_part : (v : Option (List ℕ)) (s : List Part) (all before left : List tokens.Token) (more kinds : ℕ) → length before < length all → InHeader v s all before more →
    (length left < length before) × ((all : List tokens.Token) (more : ℕ) → InHeader v s all before more → LongestFront (SpellsPhrase LoopHead) all left kinds false) → PartRead (SpellsPhrase LoopHead) all left kinds
header_part v s all before left more kinds fewer h d = record { longest = d.1 all more h; fewer = let l = d.0 in omega (arith, fewer, l) }

pub fewer_still : (all before left : List tokens.Token) → length before < length all → length left < length before → length left < length all
fewer_still all before left a b = omega (arith, a, b)

-- Where something is made.
pub for_ok : {A E : Type 0} {P Q : A → Type 0} (r : Result A E) → ((x : A) → P x → Q x) → IfOk r P → IfOk r Q
for_ok (Ok x) f p = f x p
for_ok (Err e) f p = tt
