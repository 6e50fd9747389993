-- The longest lexeme at the front of a text, where the scan has read a part of it.
use Rattle.std.proofs.Common.{◌≡◌, ◌≤◌, ◌⊎◌, inl, inr, ℕ, zero-le, List, [], ◌∷◌, ◌++◌, length, Bool, true, false, Option, Some, None, refl, ◌∙◌, ap, append_assoc, append-nil, arith}
use Rattle.vast_literal.specs.Tokens.{Token}
use Rattle.vast_literal.specs.Scan.{State, Gap, keep, give, follow, start, step, scan, cons_token, add_tokens, join_tokens}
use Rattle.vast_literal.specs.LiteralToken.{is_done}
use Rattle.vast_literal.specs.Lexemes.{IsLexeme}

-- The scan stands in the state `s` before the text t, with the bytes w read; g tests what may follow them in one lexeme.
-- The lexeme ends after `more`, the longest that passes, and the scan goes on after it.
pub record Ahead (g : List ℕ → Bool) (w : List ℕ) (s : State) (t : List ℕ) : Type 0 where
  pub more : List ℕ
  pub rest : List ℕ
  pub brings : List Token
  pub parts : t ≡ more ++ rest
  pub lexeme : IsLexeme (w ++ more) brings
  pub longest : (v behind : List ℕ) → t ≡ v ++ behind → g v ≡ true → length v ≤ length more
  pub scanned : scan s t ≡ add_tokens brings (scan Gap rest)

-- Nothing that follows makes a lexeme.
pub record Lost (g : List ℕ → Bool) (s : State) (t : List ℕ) : Type 0 where
  pub nothing : (v behind : List ℕ) → t ≡ v ++ behind → g v ≡ true → ⊥
  pub scanned : scan s t ≡ None

abbrev pub Ends : (g : List ℕ → Bool) (w : List ℕ) (s : State) (t : List ℕ) → Type 0
Ends g w s t = Ahead g w s t ⊎ Lost g s t

-- no byte of the text may follow
abbrev pub Stops : (List ℕ → Bool) → List ℕ → Type 0
Stops g [] = Unit {0}
Stops g (c ∷ cs) = (v : List ℕ) → g (c ∷ v) ≡ false

short : (g : List ℕ → Bool) (t : List ℕ) → Stops g t → (v behind : List ℕ) → t ≡ v ++ behind → g v ≡ true → length v ≤ 0
short g t h [] behind e k = zero-le
short g [] h (d ∷ v) behind e k = cc
short g (c ∷ cs) h (d ∷ v) behind e k = let f = h v in cc

pub here : (g : List ℕ → Bool) (w : List ℕ) (s : State) (t : List ℕ) (ts : List Token) → IsLexeme w ts → Stops g t → scan s t ≡ add_tokens ts (scan Gap t) → Ahead g w s t
here g w s t ts l h e = record {
  more = [];
  rest = t;
  brings = ts;
  parts = refl;
  lexeme = rw append-nil l;
  longest = short g t h;
  scanned = e;
}

longer : (g go : List ℕ → Bool) (c : ℕ) (cs : List ℕ) (n : List ℕ) → ((v : List ℕ) → g (c ∷ v) ≡ true → go v ≡ true) → ((v behind : List ℕ) → cs ≡ v ++ behind → go v ≡ true → length v ≤ length n) → (v behind : List ℕ) → c ∷ cs ≡ v ++ behind → g v ≡ true → length v ≤ length (c ∷ n)
longer g go c cs n h l [] behind e k = zero-le
longer g go c cs n h l (d ∷ v) behind e k =
    let m = l v behind (cc) (h v (cc)) in omega arith

-- the byte goes into the lexeme
pub extend : (g go : List ℕ → Bool) (w : List ℕ) (s n : State) (c : ℕ) (cs : List ℕ) → step s c ≡ keep n → ((v : List ℕ) → g (c ∷ v) ≡ true → go v ≡ true) → Ahead go (w ++ (c ∷ [])) n cs → Ahead g w s (c ∷ cs)
unfolding scan
extend g go w s n c cs e h a = record {
  more = c ∷ a.more;
  rest = a.rest;
  brings = a.brings;
  parts = ap (λ x. c ∷ x) a.parts;
  lexeme = rw (append_assoc w (c ∷ []) a.more) at a.lexeme;
  longest = longer g go c cs a.more h a.longest;
  scanned = rw e a.scanned;
}

-- the lexeme is whole with the byte
pub whole : (g : List ℕ → Bool) (w : List ℕ) (s : State) (c : ℕ) (cs : List ℕ) (ts : List Token) → step s c ≡ give ts → ((v : List ℕ) → g (c ∷ v) ≡ true → is_done v ≡ true) → IsLexeme (w ++ (c ∷ [])) ts → Ahead g w s (c ∷ cs)
unfolding scan
whole g w s c cs ts e h l = record {
  more = c ∷ [];
  rest = cs;
  brings = ts;
  parts = refl;
  lexeme = l;
  longest = longer g is_done c cs [] h (short is_done cs (done_stops cs));
  scanned = rw e;
}
  where
    done_stops : (t : List ℕ) → Stops is_done t
    done_stops [] = tt
    done_stops (c ∷ cs) = λ v. refl

pub nowhere : (g : List ℕ → Bool) (t : List ℕ) → g [] ≡ false → Stops g t → (v behind : List ℕ) → t ≡ v ++ behind → g v ≡ true → ⊥
nowhere g t z h [] behind e k = absurd (cc)
nowhere g [] z h (d ∷ v) behind e k = absurd (cc)
nowhere g (c ∷ cs) z h (d ∷ v) behind e k = let f = h v in absurd (cc)

pub lost : (g : List ℕ → Bool) (s : State) (t : List ℕ) → g [] ≡ false → Stops g t → scan s t ≡ None → Lost g s t
lost g s t z h e = record { nothing = nowhere g t z h; scanned = e }

lost_further : (g go : List ℕ → Bool) (c : ℕ) (cs : List ℕ) → g [] ≡ false → ((v : List ℕ) → g (c ∷ v) ≡ true → go v ≡ true) → ((v behind : List ℕ) → cs ≡ v ++ behind → go v ≡ true → ⊥) → (v behind : List ℕ) → c ∷ cs ≡ v ++ behind → g v ≡ true → ⊥
lost_further g go c cs z h l [] behind e k = absurd (cc)
lost_further g go c cs z h l (d ∷ v) behind e k = l v behind (cc) (h v (cc))

pub lost_on : (g go : List ℕ → Bool) (s n : State) (c : ℕ) (cs : List ℕ) → g [] ≡ false → step s c ≡ keep n → ((v : List ℕ) → g (c ∷ v) ≡ true → go v ≡ true) → Lost go n cs → Lost g s (c ∷ cs)
unfolding scan
lost_on g go s n c cs z e h l = record { nothing = lost_further g go c cs z h l.nothing; scanned = rw e l.scanned }

-- the byte goes into the lexeme, if one comes
pub ends_on : (g go : List ℕ → Bool) (w : List ℕ) (s n : State) (c : ℕ) (cs : List ℕ) → g [] ≡ false → step s c ≡ keep n → ((v : List ℕ) → g (c ∷ v) ≡ true → go v ≡ true) → Ends go (w ++ (c ∷ [])) n cs → Ends g w s (c ∷ cs)
ends_on g go w s n c cs z e h (inl a) = inl (extend g go w s n c cs e h a)
ends_on g go w s n c cs z e h (inr l) = inr (lost_on g go s n c cs z e h l)

pub add_none : (ts : List Token) → add_tokens ts None ≡ None
add_none [] = refl
add_none (t ∷ ts) = ap (cons_token t) (add_none ts)

join_cons : (t : Token) (o r : Option (List Token)) → join_tokens (cons_token t o) r ≡ cons_token t (join_tokens o r)
join_cons t None r = refl
join_cons t (Some us) r = refl

join_add : (ts : List Token) (o r : Option (List Token)) → join_tokens (add_tokens ts o) r ≡ add_tokens ts (join_tokens o r)
join_add [] o r = refl
join_add (t ∷ ts) o r = join_cons t (add_tokens ts o) r ∙ ap (cons_token t) (join_add ts o r)

-- a lexeme that is whole before the byte
pub scan_follow : (s : State) (c : ℕ) (cs : List ℕ) (ts : List Token) → step s c ≡ follow ts (start c) → scan s (c ∷ cs) ≡ add_tokens ts (scan Gap (c ∷ cs))
unfolding scan
scan_follow s c cs ts e = rw e (join_add ts (start c).out (scan (start c).state cs))
