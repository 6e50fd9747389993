-- The tokens of any text beside those that the scan of the text gives, where it gives some.
use Rattle.std.proofs.Common.{◌≡◌, ℕ, List, [], ◌∷◌, ◌++◌, Bool, true, false, ◌&&◌, Option, Some, None, refl, ap, ◌∙◌, append-nil}
use Rattle.vast_literal.specs.Tokens.{Token}
use Rattle.vast_literal.specs.Scan.{State, Gap, cons_token, add_tokens, join_tokens, step, flush, scan, tokens}
use Rattle.vast_read.specs.Lexed.{unspelled, whole, lex_on, lex}
use Rattle.vast_read.proofs.Spellable.{is_used, are_used}

added : (ts us : List Token) → add_tokens ts (Some us) ≡ Some (ts ++ us)
added [] us = refl
added (t ∷ ts) us = ap (cons_token t) (added ts us)

nothing_added : (ts : List Token) → add_tokens ts None ≡ None
nothing_added [] = refl
nothing_added (t ∷ ts) = ap (cons_token t) (nothing_added ts)

-- a text that scans
joined_lexed : (before : List Token) (o r : Option (List Token)) (behind ts : List Token) → join_tokens o r ≡ Some ts → ((us : List Token) → r ≡ Some us → behind ≡ us) → lex_on before o behind ≡ ts
joined_lexed before None r behind ts e same = cc
joined_lexed before (Some us) None behind ts e same = let n = nothing_added us in cc
joined_lexed before (Some us) (Some vs) behind ts e same = let n = added us vs in let c : us ++ vs ≡ ts = cc in ap (λ (ws : List Token). us ++ ws) (same vs refl) ∙ c

pub lexed_from : (s : State) (text : List ℕ) (ts : List Token) → scan s text ≡ Some ts → lex s text ≡ ts
unfolding lex scan
lexed_from s [] ts e = rw e (append-nil ts)
lexed_from s (c ∷ cs) ts e = joined_lexed (whole s) (step s c).out (scan (step s c).state cs) (lex (step s c).state cs) ts e (lexed_from (step s c).state cs)

-- a text whose tokens are the grammar's
fault_unused : (ts : List Token) → are_used (ts ++ (unspelled ∷ [])) ≡ true → ⊥
fault_unused [] h = cc
fault_unused (t ∷ ts) h = behind_used (is_used t) (are_used (ts ++ (unspelled ∷ []))) h (fault_unused ts)
  where
    behind_used : (a b : Bool) → a && b ≡ true → (b ≡ true → ⊥) → ⊥
    behind_used true b e f = f e
    behind_used false b e f = cc

used_behind : (ts us : List Token) → are_used (ts ++ us) ≡ true → are_used us ≡ true
used_behind [] us h = h
used_behind (t ∷ ts) us h = used_behind ts us (second (is_used t) (are_used (ts ++ us)) h)
  where
    second : (a b : Bool) → a && b ≡ true → b ≡ true
    second true b e = e
    second false b e = cc

lexed_joined : (before : List Token) (o r : Option (List Token)) (behind : List Token) → are_used (lex_on before o behind) ≡ true → (are_used behind ≡ true → r ≡ Some behind) → join_tokens o r ≡ Some (lex_on before o behind)
lexed_joined before None r behind h all = absurd (fault_unused before h)
lexed_joined before (Some us) r behind h all = rw (all (used_behind us behind h)) (added us behind)

pub scanned_from : (s : State) (text : List ℕ) → are_used (lex s text) ≡ true → scan s text ≡ Some (lex s text)
unfolding lex scan
scanned_from s [] h = at_end (whole s) (flush s) h
  where
    at_end : (before : List Token) (o : Option (List Token)) → are_used (lex_on before o []) ≡ true → o ≡ Some (lex_on before o [])
    at_end before None h = absurd (fault_unused before h)
    at_end before (Some us) h = rw (append-nil us) refl
scanned_from s (c ∷ cs) h = lexed_joined (whole s) (step s c).out (scan (step s c).state cs) (lex (step s c).state cs) h (scanned_from (step s c).state cs)

pub tokens_lexed : (text : List ℕ) (ts : List Token) → tokens text ≡ Some ts → lex Gap text ≡ ts
unfolding tokens
tokens_lexed text ts e = lexed_from Gap text ts e

pub tokens_used : (text : List ℕ) → are_used (lex Gap text) ≡ true → tokens text ≡ Some (lex Gap text)
unfolding tokens
tokens_used text h = scanned_from Gap text h
