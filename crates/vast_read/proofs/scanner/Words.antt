-- The words at the front of a text.
use Rattle.std.proofs.Common.{◌≡◌, suc, ℕ, ◌+◌, ◌-◌, ◌<◌, ◌≤◌, List, [], ◌∷◌, ◌++◌, length, take, drop, get_or, Bool, true, false, Some, refl, sym, ap, ◌∙◌, arith, lt_of_not-le}
use Rattle.std.specs.List.{prefix_len}
use Rattle.std.specs.Str.{IsUtf8, IsCharBoundary}
use Rattle.std.proofs.lemmas.List.{get_or_past}
use Rattle.std.proofs.lemmas.Bool.Decides.{nat_tests}
use Rattle.vast_literal.specs.Tokens.{Token, SystemWord, MacroWord, word_token}
use Rattle.vast_literal.specs.Scan.{is_letter, is_digit, is_word_byte, is_based_digit, State, Gap, InWord, InSystemWord, InMacroWord, keep, follow, start, step, flush, system_token}
use Rattle.vast_read.specs.Lexed.{lex, unspelled, whole}
use Rattle.vast_read.proofs.scanner.Cuts.{run_cut}
use Rattle.vast_read.proofs.scanner.Lexemes.{At, head_at, goes, stop, run, run_stops, ends, ends_by}

letter_small : (c : ℕ) → is_letter c ≡ true → c < 128
letter_small c h = grind (arith, nat_tests)

pub digit_small : (c : ℕ) → is_digit c ≡ true → c < 128
digit_small c h = grind (arith, nat_tests)

word_small : (c : ℕ) → is_word_byte c ≡ true → c < 128
word_small c h = grind (arith, nat_tests)

pub based_small : (c : ℕ) → is_based_digit c ≡ true → c < 128
based_small c h = grind (arith, nat_tests)

-- a byte that passes a test stands within the text, where after its end none does
pub passed_within : (test : ℕ → Bool) (text : List ℕ) (place : ℕ) → test 10 ≡ false → test (get_or text place 10) ≡ true → place < length text
passed_within test text place last h = lt_of_not-le (λ (past : length text ≤ place). let e = get_or_past text place 10 past in cc)

-- after the bytes of a word whose letter stands before `from`
pub word_cut : (text : List ℕ) (from n : ℕ) → IsUtf8 text → 0 < from → is_letter (get_or text (from - 1) 10) ≡ true → n ≡ from + prefix_len is_word_byte (drop from text) → IsCharBoundary text n
word_cut text from n utf8 some letter e =
    let within = passed_within is_letter text (from - 1) refl letter in
    run_cut is_word_byte word_small text from n utf8 some (omega arith) (letter_small _ letter) e

word_on : (text : List ℕ) → is_letter (get_or text 0 10) ≡ true → At (InWord (take 1 text)) text 1
unfolding lex
word_on [] h = cc
word_on (c ∷ cs) h = rw h refl

pub word_front : (text : List ℕ) (n : ℕ) → is_letter (get_or text 0 10) ≡ true → n ≡ 1 + prefix_len is_word_byte (drop 1 text) → lex Gap text ≡ ((word_token (take n text)) ∷ lex Gap (drop n text))
word_front text n h e =
    let at = run InWord is_word_byte (λ w c g. rw g refl) text 1 n (word_on text h) e in
    ends (InWord (take n text)) (word_token (take n text)) text n at refl refl (rw (run_stops is_word_byte refl text 1 n e) refl)

two_more : (k : ℕ) → 2 + k ≡ suc (suc k)
two_more k = omega arith

-- a pending word after a sign of its own, from its first letter on
module _ (state : List ℕ → State) (token : List ℕ → Token)
    (longer : (b : ℕ) (w : List ℕ) (c : ℕ) → is_word_byte c ≡ true → step (state (b ∷ w)) c ≡ keep (state (b ∷ (w ++ (c ∷ [])))))
    (ended : (b : ℕ) (w : List ℕ) (c : ℕ) → is_word_byte c ≡ false → step (state (b ∷ w)) c ≡ follow (token (b ∷ w) ∷ []) (start c))
    (last : (b : ℕ) (w : List ℕ) → flush (state (b ∷ w)) ≡ Some (token (b ∷ w) ∷ []))
    (all : (b : ℕ) (w : List ℕ) → whole (state (b ∷ w)) ≡ (token (b ∷ w) ∷ [])) where
  named_run : (b k : ℕ) (cs : List ℕ) → k ≡ prefix_len is_word_byte cs → lex (state (b ∷ [])) cs ≡ ((token (b ∷ take k cs)) ∷ lex Gap (drop k cs))
  named_run b k cs e =
      let stops : is_word_byte (get_or (drop k cs) 0 10) ≡ false =
      ap is_word_byte (head_at cs k) ∙ (ap (λ n. is_word_byte (get_or cs n 10)) e ∙ stop is_word_byte refl cs) in
      rw (sym e) at (goes (λ w. state (b ∷ w)) is_word_byte (longer b) [] cs) ∙ ends_by (state (b ∷ take k cs)) (token (b ∷ take k cs)) (drop k cs) (last b (take k cs)) (all b (take k cs)) (ended b (take k cs) _ stops)

pub system_front : (text : List ℕ) (n : ℕ) → get_or text 0 10 ≡ 36 → is_letter (get_or text 1 10) ≡ true → n ≡ 2 + prefix_len is_word_byte (drop 2 text) → lex Gap text ≡ ((SystemWord (take n text)) ∷ lex Gap (drop n text))
unfolding lex
system_front [] n e h k = absurd (omega arith)
system_front (c ∷ []) n e h k = cc
system_front (c ∷ b ∷ cs) n e h k =
    rw (e, h, k, two_more (prefix_len is_word_byte cs)) (named_run InSystemWord system_token (λ b w c g. rw g refl) (λ b w c g. rw g refl) (λ b w. refl) (λ b w. refl) b _ cs refl)

pub system_none : (text : List ℕ) → get_or text 0 10 ≡ 36 → is_letter (get_or text 1 10) ≡ false → lex Gap text ≡ (unspelled ∷ [])
unfolding lex
system_none [] e h = absurd (omega arith)
system_none (c ∷ []) e h = rw e refl
system_none (c ∷ b ∷ cs) e h = rw (e, h) refl

pub macro_front : (text : List ℕ) (n : ℕ) → get_or text 0 10 ≡ 96 → is_letter (get_or text 1 10) ≡ true → n ≡ 2 + prefix_len is_word_byte (drop 2 text) → lex Gap text ≡ (MacroWord (take (n - 1) (drop 1 text)) ∷ lex Gap (drop n text))
unfolding lex
macro_front [] n e h k = absurd (omega arith)
macro_front (c ∷ []) n e h k = cc
macro_front (c ∷ b ∷ cs) n e h k =
    let m : n - 1 ≡ suc (prefix_len is_word_byte cs) = omega arith in
    rw (e, h, m, k, two_more (prefix_len is_word_byte cs)) (named_run InMacroWord MacroWord (λ b w c g. rw g refl) (λ b w c g. rw g refl) (λ b w. refl) (λ b w. refl) b _ cs refl)

pub macro_none : (text : List ℕ) → get_or text 0 10 ≡ 96 → is_letter (get_or text 1 10) ≡ false → lex Gap text ≡ (unspelled ∷ [])
unfolding lex
macro_none [] e h = absurd (omega arith)
macro_none (c ∷ []) e h = rw e refl
macro_none (c ∷ b ∷ cs) e h = rw (e, h) refl
