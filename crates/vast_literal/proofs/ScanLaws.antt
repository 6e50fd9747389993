-- How the scan goes over the pieces of a text.
use Rattle.std.proofs.Common.{◌≡◌, ℕ, List, [], ◌∷◌, ◌++◌, Bool, true, false, cond, not, eqb-true, ◌&&◌, ◌||◌, eqb, Option, Some, None, refl, sym, ◌∙◌, ap, append_assoc, append-nil, arith}
use Rattle.std.proofs.lemmas.Bool.Decides.{nat_tests}
use Rattle.vast_literal.specs.Keyword.{is_keyword}
use Rattle.vast_literal.specs.Tokens.{Op, LogicOr, BitOr, BitAnd, LogicNot, OpenParen, Colon, Apostrophe, Key, IfKey, key_text, reserved_keys, Token, Reserved, Word, SystemWord, MacroWord, Number, Based, Quoted, Operator, Mark, word_token}
use Rattle.vast_literal.specs.Scan.{is_letter, is_digit, is_word_byte, is_based_digit, is_radix, is_filler, State, Gap, InWord, InSystemWord, InMacroWord, InNumber, AfterTick, InRadix, InBased, InString, InEscape, Pending, cons_token, add_tokens, join_tokens, keep, follow, start, grown, step, flush, scan}
use Rattle.vast_literal.specs.Tokens.{op_text}
use Rattle.vast_literal.specs.LiteralToken.{every, is_number, is_done, is_string_rest, is_string_text}
use Rattle.vast_literal.specs.Plain.{is_identifier, is_plain_name}
pub use Rattle.std.proofs.lemmas.Bool.{not-true as not_true}
use Rattle.vast_literal.proofs.TokenReads.{stop, stops, opens}

pub add_tokens-append : (ts us : List Token) (r : Option (List Token)) → add_tokens (ts ++ us) r ≡ add_tokens ts (add_tokens us r)
add_tokens-append [] us r = refl
add_tokens-append (t ∷ ts) us r = ap (cons_token t) (add_tokens-append ts us r)

pub and_left : (a b : Bool) → (a && b) ≡ true → a ≡ true
and_left true b e = refl
and_left false b e = e

pub and_right : (a b : Bool) → (a && b) ≡ true → b ≡ true
and_right true b e = e
and_right false b e = cc

pub not_or_left : (a b : Bool) → not (a || b) ≡ true → a ≡ false
not_or_left true b e = sym e
not_or_left false b e = refl

pub not_or_right : (a b : Bool) → not (a || b) ≡ true → b ≡ false
not_or_right true b e = cc
not_or_right false true e = sym e
not_or_right false false e = refl

pub or_left : (a b : Bool) → (a || b) ≡ false → a ≡ false
or_left true b e = e
or_left false b e = refl

pub or_right : (a b : Bool) → (a || b) ≡ false → b ≡ false
or_right true b e = cc
or_right false b e = e

-- what follows from a test that holds, and from one that does not
pub by_test : {P : Type 0} (b : Bool) → (b ≡ true → P) → (b ≡ false → P) → P
by_test true h k = h refl
by_test false h k = k refl

pub join_after : (t : Token) (o r : Option (List Token)) → join_tokens (join_tokens (Some (t ∷ [])) o) r ≡ cons_token t (join_tokens o r)
join_after t None r = refl
join_after t (Some us) r = refl

-- a pending lexeme `state w` that the bytes of `go` make longer
module _ (state : List ℕ → State) (go : ℕ → Bool)
    (longer : (w : List ℕ) (c : ℕ) → go c ≡ true → step (state w) c ≡ keep (state (w ++ (c ∷ [])))) where
  pub scan_on : (w v rest : List ℕ) → every go v ≡ true → scan (state w) (v ++ rest) ≡ scan (state (w ++ v)) rest
  unfolding scan
  scan_on w [] rest g = rw append-nil
  scan_on w (c ∷ v) rest g =
      rw (longer w c (and_left _ _ g))
      (scan_on (w ++ (c ∷ [])) v rest (and_right _ _ g) ∙ ap (λ x. scan (state x) rest) (append_assoc w (c ∷ []) v))

-- a pending lexeme with a token, which a stop ends
pub scan_end : (s : State) (t : Token) → ((c : ℕ) → stop c ≡ true → step s c ≡ follow (t ∷ []) (start c)) → flush s ≡ Some (t ∷ []) → (rest : List ℕ) → stops rest ≡ true → scan s rest ≡ cons_token t (scan Gap rest)
unfolding scan
scan_end s t ended last [] h = last
scan_end s t ended last (c ∷ cs) h = rw (ended c h) (join_after t (start c).out (scan (start c).state cs))

pub stop_word : (c : ℕ) → stop c ≡ true → is_word_byte c ≡ false
stop_word c h = not_or_left (is_word_byte c) (eqb c 39 || is_based_digit c) h

stop_tick : (c : ℕ) → stop c ≡ true → (eqb c 39 || is_based_digit c) ≡ false
stop_tick c h = not_or_right (is_word_byte c) (eqb c 39 || is_based_digit c) h

stop_digit : (c : ℕ) → stop c ≡ true → is_digit c ≡ false
stop_digit c h = or_right (is_letter c) (is_digit c) (or_left (is_letter c || is_digit c) (eqb c 36) (stop_word c h))

pub digit_letter : (c : ℕ) → is_digit c ≡ true → is_letter c ≡ false
digit_letter c h = grind (arith, nat_tests)

pub word_end : (w rest : List ℕ) → stops rest ≡ true → scan (InWord w) rest ≡ cons_token (word_token w) (scan Gap rest)
word_end w = scan_end (InWord w) (word_token w) (λ c h. rw (stop_word c h)) refl

pub digits_end : (w rest : List ℕ) → stops rest ≡ true → scan (InNumber w) rest ≡ cons_token (Number w) (scan Gap rest)
digits_end w = scan_end (InNumber w) (Number w) (λ c h. rw (stop_digit c h, or_left (eqb c 39) (is_based_digit c) (stop_tick c h))) refl

pub based_end : (w rest : List ℕ) → stops rest ≡ true → scan (InBased w) rest ≡ cons_token (Based w) (scan Gap rest)
based_end w = scan_end (InBased w) (Based w) (λ c h. rw (or_right (eqb c 39) (is_based_digit c) (stop_tick c h))) refl

-- a word where nothing is pending, and any rest
name_on : (w rest : List ℕ) → is_identifier w ≡ true → scan Gap (w ++ rest) ≡ scan (InWord w) rest
unfolding scan
name_on [] rest h = cc
name_on (c ∷ v) rest h = rw (and_left (is_letter c) (every is_word_byte v) h) (scan_on InWord is_word_byte (λ w c g. rw g) (c ∷ []) v rest (and_right _ _ h))

pub scan_word : (w rest : List ℕ) → is_identifier w ≡ true → stops rest ≡ true → scan Gap (w ++ rest) ≡ cons_token (word_token w) (scan Gap rest)
scan_word w rest h k = name_on w rest h ∙ word_end w rest k

pub plain_token : (w : List ℕ) → is_plain_name w ≡ true → word_token w ≡ Word w
unfolding word_token
plain_token w h = rw (not_true (is_keyword w) (and_right (is_identifier w) (not (is_keyword w)) h))

pub scan_name : (w rest : List ℕ) → is_plain_name w ≡ true → stops rest ≡ true → scan Gap (w ++ rest) ≡ cons_token (Word w) (scan Gap rest)
scan_name w rest h k = scan_word w rest (and_left _ _ h) k ∙ ap (λ t. cons_token t (scan Gap rest)) (plain_token w h)

-- a word directly before `'(`
pub scan_word_cast : (w rest : List ℕ) → is_identifier w ≡ true → scan Gap (w ++ (39 ∷ 40 ∷ rest)) ≡ cons_token (word_token w) (cons_token (Mark Apostrophe) (cons_token (Mark OpenParen) (scan Gap rest)))
unfolding scan
scan_word_cast w rest h = name_on w (39 ∷ 40 ∷ rest) h

number_on : (w rest : List ℕ) → is_number w ≡ true → scan Gap (w ++ rest) ≡ scan (InNumber w) rest
unfolding scan
number_on [] rest h = cc
number_on (c ∷ v) rest h =
    rw (digit_letter c (and_left _ _ h), and_left (is_digit c) (every is_digit v) h) (scan_on InNumber is_digit (λ w c g. rw g) (c ∷ []) v rest (and_right _ _ h))

pub scan_number : (w rest : List ℕ) → is_number w ≡ true → stops rest ≡ true → scan Gap (w ++ rest) ≡ cons_token (Number w) (scan Gap rest)
scan_number w rest h k = number_on w rest h ∙ digits_end w rest k

pub scan_number_cast : (w rest : List ℕ) → is_number w ≡ true → scan Gap (w ++ (39 ∷ 40 ∷ rest)) ≡ cons_token (Number w) (cons_token (Mark Apostrophe) (cons_token (Mark OpenParen) (scan Gap rest)))
unfolding scan
scan_number_cast [] rest h = cc
scan_number_cast (c ∷ v) rest h = number_on (c ∷ v) (39 ∷ 40 ∷ rest) h

-- digits or none before an apostrophe
size_on : (d rest : List ℕ) → every is_digit d ≡ true → scan Gap (d ++ (39 ∷ rest)) ≡ scan (AfterTick d) rest
unfolding scan
size_on [] rest h = refl
size_on (c ∷ v) rest h = number_on (c ∷ v) (39 ∷ rest) h

based_on : (b : List ℕ) (x : ℕ) (v rest : List ℕ) → is_based_digit x ≡ true → every is_based_digit v ≡ true → stops rest ≡ true → scan (InRadix b) (x ∷ (v ++ rest)) ≡ cons_token (Based (b ++ (x ∷ v))) (scan Gap rest)
unfolding scan
based_on b x v rest hx hv k =
    rw hx (scan_on InBased is_based_digit (λ w c g. rw g) (b ++ (x ∷ [])) v rest hv ∙ (based_end ((b ++ (x ∷ [])) ++ v) rest k ∙ ap (λ y. cons_token (Based y) (scan Gap rest)) (append_assoc b (x ∷ []) v)))

pub scan_based : (d : List ℕ) (r x : ℕ) (v rest : List ℕ) → every is_digit d ≡ true → is_radix r ≡ true → is_based_digit x ≡ true → every is_based_digit v ≡ true → stops rest ≡ true → scan Gap (d ++ (39 ∷ r ∷ x ∷ (v ++ rest))) ≡ cons_token (Based (d ++ (39 ∷ r ∷ x ∷ v))) (scan Gap rest)
unfolding scan
scan_based d r x v rest hd hr hx hv k =
    size_on d (r ∷ x ∷ (v ++ rest)) hd ∙ rw hr (based_on (d ++ (39 ∷ r ∷ [])) x v rest hx hv k ∙ ap (λ y. cons_token (Based y) (scan Gap rest)) (append_assoc d (39 ∷ r ∷ []) (x ∷ v)))

-- a quote that ends the string, or another byte
quote_step : (w t rest : List ℕ) (c : ℕ) (b : Bool) → eqb c 34 ≡ b → cond b (is_done t) (not (eqb c 10) && is_string_rest (eqb c 92) t) ≡ true →
    ((not (eqb c 10) && is_string_rest (eqb c 92) t) ≡ true → eqb c 34 ≡ false → scan (InString w) (c ∷ (t ++ rest)) ≡ cons_token (Quoted (w ++ (c ∷ t))) (scan Gap rest)) →
    scan (InString w) (c ∷ (t ++ rest)) ≡ cons_token (Quoted (w ++ (c ∷ t))) (scan Gap rest)
unfolding scan
quote_step w [] rest c true e h f = rw (eqb-true c 34 e) refl
quote_step w (x ∷ t) rest c true e h f = cc
quote_step w t rest c false e h f = f h e

-- the bytes after a string's first quote: `escaped` says that a backslash stands before them
scan_string_rest : (escaped : Bool) (w t rest : List ℕ) → is_string_rest escaped t ≡ true → scan (cond escaped (InEscape w) (InString w)) (t ++ rest) ≡ cons_token (Quoted (w ++ cond escaped (92 ∷ t) t)) (scan Gap rest)
unfolding scan
scan_string_rest true w [] rest h = cc
scan_string_rest false w [] rest h = cc
scan_string_rest true w (c ∷ t) rest h =
    rw (not_true (eqb c 10) (and_left _ _ h)) (scan_string_rest false (w ++ (92 ∷ c ∷ [])) t rest (and_right _ _ h) ∙ ap (λ y. cons_token (Quoted y) (scan Gap rest)) (append_assoc w (92 ∷ c ∷ []) t))
scan_string_rest false w (c ∷ t) rest h = quote_step w t rest c (eqb c 34) refl h (λ k e.
    let m = and_right (not (eqb c 10)) (is_string_rest (eqb c 92) t) k in rw (e, not_true (eqb c 10) (and_left _ _ k))
    (by_test (eqb c 92) (λ s. rw (s, eqb-true c 92 s) (scan_string_rest true w t rest (rw s at m)))
    (λ s. rw s (scan_string_rest false (w ++ (c ∷ [])) t rest (rw s at m) ∙ ap (λ y. cons_token (Quoted y) (scan Gap rest)) (append_assoc w (c ∷ []) t)))))

pub scan_string : (t rest : List ℕ) → is_string_text t ≡ true → scan Gap (t ++ rest) ≡ cons_token (Quoted t) (scan Gap rest)
unfolding scan
scan_string [] rest h = cc
scan_string (c ∷ t) rest h = rw (eqb-true c 34 (and_left _ _ h)) (scan_string_rest false (34 ∷ []) t rest (and_right _ _ h))

-- each operator before a space
pub scan_operator : (op : Op) (rest : List ℕ) → scan Gap (op_text op ++ (32 ∷ rest)) ≡ cons_token (Operator op) (scan Gap rest)
unfolding scan
scan_operator LogicOr rest = refl
scan_operator _ rest = refl

-- an operator that may grow, before a byte that does not make it longer
scan_pending : (g : Token) (c : ℕ) (cs : List ℕ) → grown g c ≡ None → scan (Pending g) (c ∷ cs) ≡ cons_token g (scan Gap (c ∷ cs))
unfolding scan
scan_pending g c cs e = rw e (join_after g (start c).out (scan (start c).state cs))

pub scan_not : (a : List ℕ) → opens true a ≡ true → scan (Pending (Operator LogicNot)) a ≡ cons_token (Operator LogicNot) (scan Gap a)
scan_not [] h = cc
scan_not (c ∷ cs) h = scan_pending (Operator LogicNot) c cs (rw (not_or_left (eqb c 61) (eqb c 58) (and_left _ _ h)))

pub scan_and : (a : List ℕ) → opens true a ≡ true → scan (Pending (Operator BitAnd)) a ≡ cons_token (Operator BitAnd) (scan Gap a)
scan_and [] h = cc
scan_and (c ∷ cs) h = scan_pending (Operator BitAnd) c cs (rw (not_or_left (eqb c 38) (eqb c 124) (and_right (not (eqb c 61 || eqb c 58)) (not (eqb c 38 || eqb c 124)) h)))

pub scan_or : (a : List ℕ) → opens true a ≡ true → scan (Pending (Operator BitOr)) a ≡ cons_token (Operator BitOr) (scan Gap a)
scan_or [] h = cc
scan_or (c ∷ cs) h = scan_pending (Operator BitOr) c cs (rw (not_or_right (eqb c 38) (eqb c 124) (and_right (not (eqb c 61 || eqb c 58)) (not (eqb c 38 || eqb c 124)) h)))

pub scan_colon : (a : List ℕ) → opens false a ≡ true → scan (Pending (Mark Colon)) a ≡ cons_token (Mark Colon) (scan Gap a)
scan_colon [] h = cc
scan_colon (c ∷ cs) h = scan_pending (Mark Colon) c cs (rw (not_or_right (eqb c 61) (eqb c 58) (and_left _ _ h)))

pub opens_letter : (tight : Bool) (c : ℕ) (cs : List ℕ) → is_letter c ≡ true → opens tight (c ∷ cs) ≡ true
opens_letter true c cs h = grind (arith, nat_tests)
opens_letter false c cs h = grind (arith, nat_tests)

pub opens_digit : (tight : Bool) (c : ℕ) (cs : List ℕ) → is_digit c ≡ true → opens tight (c ∷ cs) ≡ true
opens_digit true c cs h = grind (arith, nat_tests)
opens_digit false c cs h = grind (arith, nat_tests)

-- each keyword of the grammar
pub key_token : (k : Key) → word_token (key_text k) ≡ Reserved k
unfolding word_token is_keyword reserved_keys key_text
key_token IfKey = refl
key_token _ = refl

pub key_identifier : (k : Key) → is_identifier (key_text k) ≡ true
unfolding key_text
key_identifier IfKey = refl
key_identifier _ = refl

pub scan_key : (k : Key) (rest : List ℕ) → stops rest ≡ true → scan Gap (key_text k ++ rest) ≡ cons_token (Reserved k) (scan Gap rest)
scan_key k rest h = scan_word (key_text k) rest (key_identifier k) h ∙ ap (λ t. cons_token t (scan Gap rest)) (key_token k)

-- `$` and a word, a backtick and a word
system_on : (b : ℕ) (w rest : List ℕ) → every is_word_byte w ≡ true → scan (InSystemWord (b ∷ [])) (w ++ rest) ≡ scan (InSystemWord (b ∷ w)) rest
system_on b = scan_on (λ w. InSystemWord (b ∷ w)) is_word_byte (λ w c g. rw g) []

macro_on : (b : ℕ) (w rest : List ℕ) → every is_word_byte w ≡ true → scan (InMacroWord (b ∷ [])) (w ++ rest) ≡ scan (InMacroWord (b ∷ w)) rest
macro_on b = scan_on (λ w. InMacroWord (b ∷ w)) is_word_byte (λ w c g. rw g) []

pub scan_system : (w rest : List ℕ) → is_identifier w ≡ true → stops rest ≡ true → scan Gap (36 ∷ (w ++ rest)) ≡ cons_token (SystemWord (36 ∷ w)) (scan Gap rest)
unfolding scan
scan_system [] rest h k = cc
scan_system (c ∷ w) rest h k =
    rw (and_left (is_letter c) (every is_word_byte w) h)
    (system_on c w rest (and_right _ _ h) ∙ scan_end (InSystemWord (c ∷ w)) (SystemWord (36 ∷ c ∷ w)) (λ d e. rw (stop_word d e)) refl rest k)

pub scan_macro : (w rest : List ℕ) → is_identifier w ≡ true → stops rest ≡ true → scan Gap (96 ∷ (w ++ rest)) ≡ cons_token (MacroWord w) (scan Gap rest)
unfolding scan
scan_macro [] rest h k = cc
scan_macro (c ∷ w) rest h k =
    rw (and_left (is_letter c) (every is_word_byte w) h)
    (macro_on c w rest (and_right _ _ h) ∙ scan_end (InMacroWord (c ∷ w)) (MacroWord (c ∷ w)) (λ d e. rw (stop_word d e)) refl rest k)

-- `'0`, `'1` and `'X`
pub scan_filler : (c : ℕ) (rest : List ℕ) → is_filler c ≡ true → scan Gap (39 ∷ c ∷ rest) ≡ cons_token (Based (39 ∷ c ∷ [])) (scan Gap rest)
unfolding scan
scan_filler c rest h = rw (filler_radix c h, filler_signed c h, h)
  where
    filler_radix : (c : ℕ) → is_filler c ≡ true → is_radix c ≡ false
    filler_radix c h = grind (arith, nat_tests)

    filler_signed : (c : ℕ) → is_filler c ≡ true → eqb c 115 ≡ false
    filler_signed c h = grind (arith, nat_tests)

-- a signed based literal
pub scan_signed : (d : List ℕ) (r x : ℕ) (v rest : List ℕ) → every is_digit d ≡ true → is_radix r ≡ true → is_based_digit x ≡ true → every is_based_digit v ≡ true → stops rest ≡ true → scan Gap (d ++ (39 ∷ 115 ∷ r ∷ x ∷ (v ++ rest))) ≡ cons_token (Based (d ++ (39 ∷ 115 ∷ r ∷ x ∷ v))) (scan Gap rest)
unfolding scan
scan_signed d r x v rest hd hr hx hv k =
    size_on d (115 ∷ r ∷ x ∷ (v ++ rest)) hd ∙ rw (hr, append_assoc d (39 ∷ 115 ∷ []) (r ∷ [])) (based_on (d ++ (39 ∷ 115 ∷ r ∷ [])) x v rest hx hv k ∙ ap (λ y. cons_token (Based y) (scan Gap rest)) (append_assoc d (39 ∷ 115 ∷ r ∷ []) (x ∷ v)))
