-- Numbers, texts and words that are taken from the front of a packed call, and the pieces that they are.
use Rattle.std.proofs.Common.{◌≡◌, ℕ, ◌+◌, ◌-◌, ◌*◌, ◌≤◌, ◌<◌, inl, inr, arith, List, [], ◌∷◌, ◌++◌, Bool, true, Some, length, map, get_or, refl, sym, ap, subst, ◌∙◌, append_assoc, append-nil, ℤ}
use Rattle.std.proofs.lemmas.List.{take-append-drop}
use Rattle.std.proofs.lemmas.Option.{slice_get-map, slice_get_read}
use Rattle.std.specs.Borrow.{Bor}
use Rattle.std.specs.Prelude.{option_map, slice_get}
use Rattle.std.specs.List.{IsSplitAt}
use Rattle.vast_calls.specs.declared.arguments.Arguments.{Arguments}
use Rattle.vast_calls.specs.declared.arguments.Known.{Known}
use Rattle.vast_calls.specs.declared.arguments.Rest.TheVariants.{Packed}
use Rattle.vast_calls.specs.declared.packed.Choice.{Choice}
use Rattle.vast_calls.specs.CallArguments.{Count, Items, Number, Piece, Place, Text, Word}
use Rattle.vast_calls.specs.Packed.{ArePacked, IsFolded, IsPacked, IsPackedNumber, choice_words, IsNumberFront}
use Rattle.vast_calls.specs.Written.{IsPlaceOf, meaning}
use Rattle.vast_calls.specs.Internal.Written.{AreIn, Begins, GoesNumber, Reads, is_packed, rest_left}
use Rattle.vast_calls.proofs.Words.{reads_word}

-- Digits of a number.

pub digit_last : (byte : ℕ) (bytes behind : List ℕ) → byte < 128 → bytes ≡ byte ∷ behind → IsNumberFront bytes byte behind
digit_last byte bytes behind h e = (byte ∷ [], inl (h, refl, refl), e)

pub digit_above : (byte n more : ℕ) (bytes behind rest : List ℕ) → 128 ≤ byte → bytes ≡ byte ∷ behind → IsNumberFront behind more rest → n ≡ more * 128 + (byte - 128) → IsNumberFront bytes n rest
digit_above byte n more bytes behind rest h e k p = (byte ∷ k.0, inr (more, h, k.1, omega (arith, p)), e ∙ ap (λ (xs : List ℕ). byte ∷ xs) k.2)

pub digit_more :
    (byte n more high : ℕ) (bytes behind rest : List ℕ) → 128 ≤ byte → bytes ≡ byte ∷ behind → IsNumberFront behind more rest → high ≡ more * 128 → n ≡ high + (byte - 128) → IsNumberFront bytes n rest
digit_more byte n more high bytes behind rest h e k s p = digit_above byte n more bytes behind rest h e k (omega (arith, s, p))

pub ruleset digits = (digit_last, digit_above, digit_more)

-- Digits of a number were appended; with those of what is left they are the number's.
pub record IsWriting (old now : List ℕ) (number left : ℕ) : Type 0 where
  pub digits : List ℕ
  pub now_is : now ≡ old ++ digits
  pub number_is : (more : List ℕ) → IsPackedNumber more left → IsPackedNumber (digits ++ more) number

one_packed : (skipped : List ℕ) (p : Piece) (bytes : List ℕ) → IsPacked skipped p bytes → ArePacked skipped (p ∷ []) bytes
one_packed skipped p bytes h = (bytes, [], h, refl, sym (append-nil bytes))

-- The piece stood next.
pub reads_packed :
    (a b : Arguments) (piece : Piece) (front : List ℕ) → b.known ≡ a.known → is_packed a.rest ≡ true → is_packed b.rest ≡ true → IsPacked a.known.skipped.now piece front →
    rest_left a.rest ≡ front ++ rest_left b.rest → Reads a b (piece ∷ [])
reads_packed a b piece front k p q h l = record {
  known = k;
  form = q ∙ sym p;
  front = front;
  there = subst (λ (packed : Bool). AreIn packed (meaning a.known.names.now) a.known.skipped.now (piece ∷ []) front) (sym p) (one_packed a.known.skipped.now piece front h);
  left_is = l;
}

pub goes_number :
    (a b : Arguments) (bytes behind : Bor (List ℕ)) (n : ℕ) → b.known ≡ a.known → a.rest ≡ Packed bytes → b.rest ≡ Packed behind → IsNumberFront bytes.now n behind.now → GoesNumber a b n
goes_number a b bytes behind n k r q h =
    (k, ap is_packed r, ap is_packed q, h.0, h.1, ap rest_left r ∙ h.2 ∙ ap (λ (xs : List ℕ). h.0 ++ xs) (sym (ap rest_left q)))

pub reads_place : (a b : Arguments) (n place : ℕ) → GoesNumber a b n → IsPlaceOf b.known.skipped.now n place → Reads a b (Place place ∷ [])
reads_place a b n place h p =
    reads_packed a b (Place place) h.3 h.0 h.1 h.2 (n, h.4, subst (λ (known : Known). IsPlaceOf known.skipped.now n place) h.0 p) h.5

pub reads_count : (a b : Arguments) (n : ℕ) → GoesNumber a b n → Reads a b (Count n ∷ [])
reads_count a b n h = reads_packed a b (Count n) h.3 h.0 h.1 h.2 h.4 h.5

pub reads_integer : (a b : Arguments) (n : ℕ) (z : ℤ) → GoesNumber a b n → IsFolded z n → Reads a b (Number z ∷ [])
reads_integer a b n z h f = reads_packed a b (Number z) h.3 h.0 h.1 h.2 (n, h.4, f) h.5

pub reads_items : (a b : Arguments) (n : ℕ) → GoesNumber a b n → Begins a b (Some n)
reads_items a b n h = reads_packed a b (Items n) h.3 h.0 h.1 h.2 h.4 h.5

pub ruleset numbers = (goes_number, reads_place, reads_count, reads_integer, reads_items)

-- A word by its place among those that may stand.

word_at :
    (words : List (Bor (List ℕ))) (all : List (List ℕ)) (n : ℕ) (word : Bor (List ℕ)) → map (λ (w : Bor (List ℕ)). w.now) words ≡ all → n < length words → word ≡ get_or words n word →
    slice_get all n ≡ Some word.now
word_at words all n word e l k =
    ap (λ (ws : List (List ℕ)). slice_get ws n) (sym e)
    ∙ slice_get-map (λ (w : Bor (List ℕ)). w.now) words n
    ∙ ap (option_map (λ (w : Bor (List ℕ)). w.now)) (slice_get_read words (length words) n word refl l k)

pub reads_choice :
    (a b : Arguments) (choice : Choice) (words : List (Bor (List ℕ))) (n : ℕ) (word : Bor (List ℕ)) → GoesNumber a b n → map (λ (w : Bor (List ℕ)). w.now) words ≡ choice_words choice →
    n < length words → word ≡ get_or words n word → Reads a b (Word word.now ∷ [])
reads_choice a b choice words n word h e l k =
    reads_packed a b (Word word.now) h.3 h.0 h.1 h.2 (choice, n, h.4, word_at words (choice_words choice) n word e l k) h.5

pub ruleset choices = (reads_choice, reads_word)

-- A text after its length.
pub reads_content :
    (a b c : Arguments) (n : ℕ) (bytes content behind : Bor (List ℕ)) (text : List ℕ) → GoesNumber a b n → b.rest ≡ Packed bytes → IsSplitAt bytes.now n content.now behind.now → c.known ≡ b.known →
    c.rest ≡ Packed behind → text ≡ content.now → Reads a c (Text text ∷ [])
reads_content a b c n bytes content behind text h r s k q e =
    let whole : bytes.now ≡ text ++ behind.now = sym (take-append-drop n bytes.now) ∙ rw (← s.1, ← s.2, e) refl in
    reads_packed a c (Text text) (h.3 ++ text) (k ∙ h.0) h.1 (ap is_packed q)
    (h.3, subst (λ (m : ℕ). IsPackedNumber h.3 m) (sym (ap length e ∙ s.3)) h.4, refl)
    (h.5 ∙ ap (λ (xs : List ℕ). h.3 ++ xs) (ap rest_left r ∙ whole ∙ ap (λ (xs : List ℕ). text ++ xs) (sym (ap rest_left q))) ∙ sym (append_assoc h.3 text (rest_left c.rest)))

pub ruleset texts = (reads_content)
