-- How the scan goes over a lexeme by places: it takes in a byte, a run of bytes, and ends.
use Rattle.std.proofs.Common.{◌≡◌, suc, ℕ, ◌+◌, ◌<◌, List, [], ◌∷◌, ◌++◌, length, take, drop, get_or, Bool, true, false, cond, Option, Some, None, refl, ap, ◌∙◌, append_assoc, append-nil, add-one, arith}
use Rattle.std.specs.List.{prefix_len}
use Rattle.std.proofs.Math.Seq.{take-add, drop-cons}
use Rattle.std.proofs.lemmas.List.{drop-drop, get_or-drop}
use Rattle.vast_literal.specs.Tokens.{Token}
use Rattle.vast_literal.specs.Scan.{State, Gap, join_tokens, keep, fail, follow, start, step, flush}
use Rattle.vast_read.specs.Lexed.{lex, lex_on, unspelled, whole}

pub one_more : (k : ℕ) → 1 + k ≡ suc k
one_more k = omega arith

-- the first byte of what is left
pub head_at : (text : List ℕ) (place : ℕ) → get_or (drop place text) 0 10 ≡ get_or text place 10
head_at text place = get_or-drop place text 0 10 ∙ ap (λ n. get_or text n 10) (omega arith)

-- The scan of a text stands in a state at a place.
abbrev pub At : State → List ℕ → ℕ → Type 0
At s text place = lex Gap text ≡ lex s (drop place text)

-- a byte goes into the lexeme
pub advance : (s more : State) (text : List ℕ) (place : ℕ) → place < length text → At s text place → step s (get_or text place 10) ≡ keep more → At more text (place + 1)
unfolding lex
advance s more text place within at e = at ∙ (rw (drop-cons text place 10, add-one) (rw e refl))

-- the next byte, or the end, fits no token
pub fails_by : (s : State) (rest : List ℕ) → flush s ≡ None → whole s ≡ [] → step s (get_or rest 0 10) ≡ fail → lex s rest ≡ (unspelled ∷ [])
unfolding lex
fails_by s [] last none e = rw (last, none) refl
fails_by s (c ∷ cs) last none e = rw (e, none) refl

pub fails : (s : State) (text : List ℕ) (place : ℕ) → At s text place → flush s ≡ None → whole s ≡ [] → step s (get_or text place 10) ≡ fail → lex Gap text ≡ (unspelled ∷ [])
fails s text place at last none e = at ∙ fails_by s (drop place text) last none (rw (head_at text place) e)

after_lexeme : (t : Token) (o : Option (List Token)) (behind : List Token) → lex_on (t ∷ []) (join_tokens (Some (t ∷ [])) o) behind ≡ (t ∷ lex_on [] o behind)
after_lexeme t None behind = refl
after_lexeme t (Some us) behind = refl

-- the lexeme ends before a byte, or where the text ends
pub ends_by : (s : State) (t : Token) (rest : List ℕ) → flush s ≡ Some (t ∷ []) → whole s ≡ (t ∷ []) → step s (get_or rest 0 10) ≡ follow (t ∷ []) (start (get_or rest 0 10)) → lex s rest ≡ (t ∷ lex Gap rest)
unfolding lex
ends_by s t [] last all e = rw last refl
ends_by s t (c ∷ cs) last all e = rw (e, all) (after_lexeme t (start c).out (lex (start c).state cs))

pub ends : (s : State) (t : Token) (text : List ℕ) (place : ℕ) → At s text place → flush s ≡ Some (t ∷ []) → whole s ≡ (t ∷ []) →
    step s (get_or text place 10) ≡ follow (t ∷ []) (start (get_or text place 10)) → lex Gap text ≡ (t ∷ lex Gap (drop place text))
ends s t text place at last all e = at ∙ ends_by s t (drop place text) last all (rw (head_at text place) e)

-- a run of bytes that make a pending lexeme longer
module _ (state : List ℕ → State) (go : ℕ → Bool) (longer : (w : List ℕ) (c : ℕ) → go c ≡ true → step (state w) c ≡ keep (state (w ++ (c ∷ [])))) where
  abbrev pub Goes : List ℕ → List ℕ → ℕ → Type 0
  Goes w text n = lex (state w) text ≡ lex (state (w ++ take n text)) (drop n text)

  goes_step : (w cs : List ℕ) (c k : ℕ) (b : Bool) → go c ≡ b → Goes (w ++ (c ∷ [])) cs k → Goes w (c ∷ cs) (cond b (1 + k) 0)
  unfolding lex
  goes_step w cs c k true e more = rw (longer w c e, one_more k) (more ∙ ap (λ x. lex (state x) (drop k cs)) (append_assoc w (c ∷ []) (take k cs)))
  goes_step w cs c k false e more = rw append-nil refl

  pub goes : (w text : List ℕ) → Goes w text (prefix_len go text)
  goes w [] = rw append-nil refl
  goes w (c ∷ cs) = goes_step w cs c (prefix_len go cs) (go c) refl (goes (w ++ (c ∷ [])) cs)

  pub run : (text : List ℕ) (from n : ℕ) → At (state (take from text)) text from → n ≡ from + prefix_len go (drop from text) → At (state (take n text)) text n
  run text from n at e =
      at ∙ (goes (take from text) (drop from text) ∙ rw (e, take-add, drop-drop) refl)

-- the byte after a run is none of its bytes
stop_step : (go : ℕ → Bool) (c : ℕ) (cs : List ℕ) (b : Bool) → go c ≡ b → go (get_or cs (prefix_len go cs) 10) ≡ false → go (get_or (c ∷ cs) (cond b (1 + prefix_len go cs) 0) 10) ≡ false
stop_step go c cs true e h = rw (one_more (prefix_len go cs)) h
stop_step go c cs false e h = e

pub stop : (go : ℕ → Bool) → go 10 ≡ false → (text : List ℕ) → go (get_or text (prefix_len go text) 10) ≡ false
stop go last [] = last
stop go last (c ∷ cs) = stop_step go c cs (go c) refl (stop go last cs)

pub run_stops : (go : ℕ → Bool) → go 10 ≡ false → (text : List ℕ) (from n : ℕ) → n ≡ from + prefix_len go (drop from text) → go (get_or text n 10) ≡ false
run_stops go last text from n e = rw (e, ← get_or-drop from text (prefix_len go (drop from text)) 10) (stop go last (drop from text))

-- after the last token
pub none_left : (rest : List ℕ) → length rest ≡ 0 → lex Gap rest ≡ []
unfolding lex
none_left [] e = refl
none_left (c ∷ cs) e = absurd (omega arith)
