-- The lexemes that go on as long as the bytes pass a test, and the strings.
use Rattle.std.proofs.Common.{◌≡◌, inl, inr, ℕ, List, [], ◌∷◌, ◌++◌, Bool, true, false, not, eqb-true, eqb, Some, refl, sym, ◌∙◌, ap, append_assoc}
use Rattle.vast_literal.specs.Tokens.{Token, SystemWord, MacroWord, Based, Quoted, word_token}
use Rattle.vast_literal.specs.Scan.{is_letter, is_word_byte, is_digit, is_based_digit, State, InWord, InSystemWord, InMacroWord, InBased, InString, InEscape, InComment, keep, follow, start, step, flush, scan}
use Rattle.vast_literal.specs.LiteralToken.{every, is_string_rest}
use Rattle.vast_literal.specs.Lexemes.{is_in_line, AreCharacters, IsBase, IsLexeme}
use Rattle.vast_literal.specs.Lexemes.AreCharacters.{no_character, bare, escaped}
use Rattle.vast_literal.specs.Lexemes.IsLexeme.{comment, word, system_word, macro_word, based, string}
use Rattle.vast_literal.proofs.ScanLaws.{and_right, by_test, not_true}
use Rattle.vast_literal.proofs.LiteralLaws.{every_push}
use Rattle.vast_literal.proofs.LexemeFronts.{Ahead, Ends, here, extend, whole, lost, ends_on, scan_follow}
use Rattle.vast_literal.proofs.Pieces.{add_tokens-nil}

-- a lexeme that goes on as long as `go` holds: v is what it has of such bytes
module _ (go : ℕ → Bool) (state : List ℕ → State) (text : List ℕ → List ℕ) (brings : List ℕ → List Token)
    (push : (v : List ℕ) (c : ℕ) → text v ++ (c ∷ []) ≡ text (v ++ (c ∷ [])))
    (goes : (v : List ℕ) (c : ℕ) → go c ≡ true → step (state v) c ≡ keep (state (v ++ (c ∷ []))))
    (ends : (v : List ℕ) (c : ℕ) → go c ≡ false → step (state v) c ≡ follow (brings v) (start c))
    (last : (v : List ℕ) → flush (state v) ≡ Some (brings v))
    (fits : (v : List ℕ) → every go v ≡ true → IsLexeme (text v) (brings v)) where
  pub run : (v : List ℕ) → every go v ≡ true → (t : List ℕ) → Ahead (every go) (text v) (state v) t
  unfolding scan
  run v h [] = here (every go) (text v) (state v) [] (brings v) (fits v h) tt (rw (last v) (sym (add_tokens-nil (brings v))))
  run v h (c ∷ cs) = by_test (go c)
      (λ e. extend (every go) (every go) (text v) (state v) (state (v ++ (c ∷ []))) c cs (goes v c e) (λ u k. and_right (go c) (every go u) k)
      (rw (push v c) (run (v ++ (c ∷ [])) (every_push go v c h e) cs)))
      (λ e. here (every go) (text v) (state v) (c ∷ cs) (brings v) (fits v h) (λ u. rw e) (scan_follow (state v) c cs (brings v) (ends v c e)))

pub word_on : (b : ℕ) → is_letter b ≡ true → (t : List ℕ) → Ahead (every is_word_byte) (b ∷ []) (InWord (b ∷ [])) t
word_on b h = run is_word_byte (λ v. InWord (b ∷ v)) (λ v. b ∷ v) (λ v. word_token (b ∷ v) ∷ []) (λ v c. refl) (λ v c e. rw e) (λ v c e. rw e) (λ v. refl) (λ v k. word (rw h k)) [] refl

pub system_on : (b : ℕ) → is_letter b ≡ true → (t : List ℕ) → Ahead (every is_word_byte) (36 ∷ b ∷ []) (InSystemWord (b ∷ [])) t
system_on b h = run is_word_byte (λ v. InSystemWord (b ∷ v)) (λ v. 36 ∷ b ∷ v) (λ v. SystemWord (36 ∷ b ∷ v) ∷ []) (λ v c. refl) (λ v c e. rw e) (λ v c e. rw e) (λ v. refl) (λ v k. system_word (rw h k)) [] refl

pub macro_on : (b : ℕ) → is_letter b ≡ true → (t : List ℕ) → Ahead (every is_word_byte) (96 ∷ b ∷ []) (InMacroWord (b ∷ [])) t
macro_on b h = run is_word_byte (λ v. InMacroWord (b ∷ v)) (λ v. 96 ∷ b ∷ v) (λ v. MacroWord (b ∷ v) ∷ []) (λ v c. refl) (λ v c e. rw e) (λ v c e. rw e) (λ v. refl) (λ v k. macro_word (rw h k)) [] refl

-- the byte that ends a comment is a line feed, which brings nothing
line_end : (c : ℕ) → is_in_line c ≡ false → step InComment c ≡ follow [] (start c)
line_end c h = by_test (eqb c 10) (λ e. rw (eqb-true c 10 e) refl) (λ e. cc (rw e at h))

in_line : (c : ℕ) → is_in_line c ≡ true → step InComment c ≡ keep InComment
in_line c h = rw (not_true (eqb c 10) h)

pub comment_on : (t : List ℕ) → Ahead (every is_in_line) (47 ∷ 47 ∷ []) InComment t
comment_on = run is_in_line (λ v. InComment) (λ v. 47 ∷ 47 ∷ v) (λ v. []) (λ v c. refl) (λ v c e. in_line c e) (λ v c e. line_end c e) (λ v. refl) (λ v k. comment k) [] refl

-- the digits of a based literal, after the first
abbrev based_text : (size base : List ℕ) (x : ℕ) (v : List ℕ) → List ℕ
based_text size base x v = size ++ (39 ∷ (base ++ (x ∷ v)))

based_push : (size base : List ℕ) (x : ℕ) (v : List ℕ) (c : ℕ) → based_text size base x v ++ (c ∷ []) ≡ based_text size base x (v ++ (c ∷ []))
based_push size base x v c = append_assoc size (39 ∷ (base ++ (x ∷ v))) (c ∷ []) ∙ ap (λ y. size ++ (39 ∷ y)) (append_assoc base (x ∷ v) (c ∷ []))

pub based_on : (size base : List ℕ) (x : ℕ) → every is_digit size ≡ true → IsBase base → is_based_digit x ≡ true → (t : List ℕ) →
    Ahead (every is_based_digit) (size ++ (39 ∷ (base ++ (x ∷ [])))) (InBased (size ++ (39 ∷ (base ++ (x ∷ []))))) t
based_on size base x g b h =
    run is_based_digit (λ v. InBased (based_text size base x v)) (based_text size base x) (λ v. Based (based_text size base x v) ∷ []) (based_push size base x)
    (λ v c e. rw e (ap (λ w. keep (InBased w)) (based_push size base x v c))) (λ v c e. rw e) (λ v. refl) (λ v k. based size base (x ∷ v) g b (rw h k)) [] refl

-- Strings: v is what stands after the first quote; `after` says that a backslash stands before the text.

more_characters : (cs ds : List ℕ) → AreCharacters cs → AreCharacters ds → AreCharacters (cs ++ ds)
more_characters cs ds no_character k = k
more_characters cs ds (bare {cs = rest} h m) k = bare h (more_characters rest ds m k)
more_characters cs ds (escaped {cs = rest} h m) k = escaped h (more_characters rest ds m k)

abbrev string_text : (after : Bool) (v : List ℕ) → List ℕ
string_text true v = 34 ∷ (v ++ (92 ∷ []))
string_text false v = 34 ∷ v

abbrev string_state : (after : Bool) (v : List ℕ) → State
string_state true v = InEscape (34 ∷ v)
string_state false v = InString (34 ∷ v)

abbrev StringEnds : (after : Bool) (v t : List ℕ) → Type 0
StringEnds after v t = Ends (is_string_rest after) (string_text after v) (string_state after v) t

string_ends : (after : Bool) (v : List ℕ) → AreCharacters v → (t : List ℕ) → StringEnds after v t
unfolding scan
string_ends true v h [] = inr (lost (is_string_rest true) (InEscape (34 ∷ v)) [] refl tt refl)
string_ends false v h [] = inr (lost (is_string_rest false) (InString (34 ∷ v)) [] refl tt refl)
string_ends true v h (c ∷ cs) = by_test (eqb c 10) (λ e. inr (lost (is_string_rest true) (InEscape (34 ∷ v)) (c ∷ cs) refl (λ u. rw e) (rw e)))
    (λ e. ends_on (is_string_rest true) (is_string_rest false) (34 ∷ (v ++ (92 ∷ []))) (InEscape (34 ∷ v)) (InString (34 ∷ (v ++ (92 ∷ c ∷ [])))) c cs refl (rw e) (λ u k. and_right (not (eqb c 10)) (is_string_rest false u) k)
    (rw (append_assoc v (92 ∷ []) (c ∷ [])) (string_ends false (v ++ (92 ∷ c ∷ [])) (more_characters v (92 ∷ c ∷ []) h (escaped (rw e) no_character)) cs)))
string_ends false v h (c ∷ cs) = by_test (eqb c 34)
    (λ eq. inl (rw (eqb-true c 34 eq) (whole (is_string_rest false) (34 ∷ v) (InString (34 ∷ v)) 34 cs (Quoted (34 ∷ (v ++ (34 ∷ []))) ∷ []) refl (λ u m. m) (string v h))))
    (λ eq. by_test (eqb c 92)
    (λ es. rw (eqb-true c 92 es) (ends_on (is_string_rest false) (is_string_rest true) (34 ∷ v) (InString (34 ∷ v)) (InEscape (34 ∷ v)) 92 cs refl refl (λ u m. m) (string_ends true v h cs)))
    (λ es. by_test (eqb c 10) (λ en. inr (lost (is_string_rest false) (InString (34 ∷ v)) (c ∷ cs) refl (λ u. rw (eq, en)) (rw (eq, es, en))))
    (λ en. ends_on (is_string_rest false) (is_string_rest false) (34 ∷ v) (InString (34 ∷ v)) (InString (34 ∷ (v ++ (c ∷ [])))) c cs refl (rw (eq, es, en)) (λ u m. rw (eq, es, en) at m)
    (string_ends false (v ++ (c ∷ [])) (more_characters v (c ∷ []) h (bare (rw (eq, es, en)) no_character)) cs))))

pub string_on : (t : List ℕ) → Ends (is_string_rest false) (34 ∷ []) (InString (34 ∷ [])) t
string_on t = string_ends false [] no_character t
