-- Words that are taken from the front of a line's rest, and the pieces that they write.
use Rattle.std.proofs.Common.{◌≡◌, ℕ, ◌<◌, List, [], ◌∷◌, ◌++◌, Bool, true, false, cond, Option, None, Some, Result, Ok, Err, take, drop, refl, sym, ap, subst, ◌∙◌, append_assoc, append-nil, lit<, length, arith, eqb-true, inl, inr, ℤ, pos, neg_ℤ}
use Rattle.std.proofs.lemmas.Bool.{lt-ltb, ne_eqb}
use Rattle.std.proofs.lemmas.List.{take-append-drop}
use Rattle.std.proofs.lemmas.List.Concat.{flat_map-append}
use Rattle.std.specs.List.{flat_map}
use Rattle.std.specs.Prelude.{IfOk, IsErrAnd, MatchResult, encode_utf8, ◌≢◌, slice_index, codes}
use Rattle.std.specs.Str.Parse.{IsNumeral, digits_value, without_leading_sign, signed_digits_value, starts_with_minus, without_leading_plus}
use Rattle.std.specs.Str.Pattern.{FindsChar, FindsTextPrefix, FindsCharPrefix, SplitsAroundMatch, StripsPrefix}
use Rattle.vast_calls.specs.declared.arguments.Arguments.{Arguments}
use Rattle.vast_calls.specs.declared.arguments.Known.{Known}
use Rattle.vast_calls.specs.declared.names.Named.{Named}
use Rattle.vast_calls.specs.declared.problem.Misfit.{Misfit}
use Rattle.vast_calls.specs.declared.problem.Problem.{Problem}
use Rattle.vast_calls.specs.CallArguments.{End, Group, Items, Number, Piece, Word, Text, grouped, listed, number}
use Rattle.vast_calls.specs.Packed.{ArePacked}
use Rattle.vast_calls.specs.Written.{AreWritten, IsInteger, IsNatural, IsWritten, meaning}
use Rattle.vast_calls.specs.Internal.Written.{AreIn, AreLeft, Begins, Goes, GoesText, IsIntegerWord, IsTextFront, Reads, WritesIn, is_packed, rest_left}
use lib.Utf8.{encode}

pub encoded_low : (c : ℕ) → c < 128 → encode_utf8 c ≡ c ∷ []
unfolding encode
encoded_low c h = rw (lt-ltb c 128 h) refl

-- What stands round a character that splits a text.
pub around : (c : ℕ) (s front back : List ℕ) → c < 128 → SplitsAroundMatch (FindsChar c) s front back → s ≡ front ++ c ∷ back
around c s front back h p =
    sym (take-append-drop p.0 s)
    ∙ ap (λ (xs : List ℕ). take p.0 s ++ xs) p.2.1.split
    ∙ rw (encoded_low c h, ← p.3, ← p.4) refl

pub around_space : (s front back : List ℕ) → SplitsAroundMatch (FindsChar 32) s front back → 32 ∷ s ≡ 32 ∷ (front ++ 32 ∷ back)
around_space s front back p = ap (λ (xs : List ℕ). 32 ∷ xs) (around 32 s front back (lit< tt) p)

-- What stands after a text that was stripped.
pub behind_text : (n s x : List ℕ) → StripsPrefix (FindsTextPrefix n) s x → s ≡ n ++ x
behind_text n s x p = rw p.2 (p.1.1)

-- And after a character.
pub behind_char : (c : ℕ) (s x : List ℕ) → c < 128 → StripsPrefix (FindsCharPrefix c) s x → s ≡ c ∷ x
behind_char c s x h p = p.1.split ∙ rw (encoded_low c h, ← p.2) refl

pub behind_space : (s x : List ℕ) → StripsPrefix (FindsCharPrefix 32) s x → s ≡ 32 ∷ x
behind_space s x p = behind_char 32 s x (lit< tt) p

pub behind_quote : (s x : List ℕ) → StripsPrefix (FindsCharPrefix 34) s x → s ≡ 34 ∷ x
behind_quote s x p = behind_char 34 s x (lit< tt) p

pub behind_minus : (s x : List ℕ) → StripsPrefix (FindsCharPrefix 45) s x → s ≡ 45 ∷ x
behind_minus s x p = behind_char 45 s x (lit< tt) p

pub behind_question : (s x : List ℕ) → StripsPrefix (FindsCharPrefix 63) s x → s ≡ 63 ∷ x
behind_question s x p = behind_char 63 s x (lit< tt) p

-- A sign, where nothing else is left and where a space stands after it.

pub sign_alone : (s sign x : List ℕ) → StripsPrefix (FindsTextPrefix sign) s x → length x ≡ 0 → 32 ∷ s ≡ 32 ∷ (sign ++ [])
sign_alone s sign [] p e = ap (λ (xs : List ℕ). 32 ∷ xs) (behind_text sign s [] p)
sign_alone s sign (b ∷ x) p e = absurd (omega arith)

pub sign_behind : (s sign x y : List ℕ) → StripsPrefix (FindsTextPrefix sign) s x → StripsPrefix (FindsCharPrefix 32) x y → 32 ∷ s ≡ 32 ∷ (sign ++ 32 ∷ y)
sign_behind s sign x y p q = ap (λ (xs : List ℕ). 32 ∷ xs) (behind_text sign s x p ∙ ap (λ (xs : List ℕ). sign ++ xs) (behind_space x y q))

pub last_word : (s : List ℕ) → 32 ∷ s ≡ 32 ∷ (s ++ [])
last_word s = ap (λ (xs : List ℕ). 32 ∷ xs) (sym (append-nil s))

pub ruleset words = (around_space, sign_alone, sign_behind, last_word)

-- Pieces after one another.

module _ (named : List ℕ → Option Named) (skipped : List ℕ) where
  append_written : (ps qs : List Piece) (a b : List ℕ) → AreWritten named skipped ps a → AreWritten named skipped qs b → AreWritten named skipped (ps ++ qs) (a ++ b)
  append_written [] qs a b h k = rw h k
  append_written (p ∷ ps) qs a b h k =
      (h.0, h.1 ++ b, h.2, append_written ps qs h.1 b h.3 k, ap (λ (xs : List ℕ). xs ++ b) h.4 ∙ ap (λ (xs : List ℕ). 32 ∷ xs) (append_assoc h.0 h.1 b))

  one_written : (p : Piece) (word : List ℕ) → IsWritten named skipped p word → AreWritten named skipped (p ∷ []) (32 ∷ (word ++ []))
  one_written p word h = (word, [], h, refl, refl)

  append_packed : (ps qs : List Piece) (a b : List ℕ) → ArePacked skipped ps a → ArePacked skipped qs b → ArePacked skipped (ps ++ qs) (a ++ b)
  append_packed [] qs a b h k = rw h k
  append_packed (p ∷ ps) qs a b h k =
      (h.0, h.1 ++ b, h.2, append_packed ps qs h.1 b h.3 k, ap (λ (xs : List ℕ). xs ++ b) h.4 ∙ append_assoc h.0 h.1 b)

  append_in : (packed : Bool) (ps qs : List Piece) (a b : List ℕ) → AreIn packed named skipped ps a → AreIn packed named skipped qs b → AreIn packed named skipped (ps ++ qs) (a ++ b)
  append_in false ps qs a b h k = append_written ps qs a b h k
  append_in true ps qs a b h k = append_packed ps qs a b h k

  none_in : (packed : Bool) (xs : List ℕ) → xs ≡ [] → AreIn packed named skipped [] xs
  none_in false xs e = e
  none_in true xs e = e

pub reads_then : (a b c : Arguments) (ps qs : List Piece) → Reads a b ps → Reads b c qs → Reads a c (ps ++ qs)
reads_then a b c ps qs h k = record {
  known = k.known ∙ h.known;
  form = k.form ∙ h.form;
  front = h.front ++ k.front;
  there = append_in (meaning a.known.names.now) a.known.skipped.now (is_packed a.rest) ps qs h.front k.front h.there
      (subst (λ (packed : Bool). AreIn packed (meaning a.known.names.now) a.known.skipped.now qs k.front) h.form
      (subst (λ (known : Known). AreIn (is_packed b.rest) (meaning known.names.now) known.skipped.now qs k.front) h.known k.there));
  left_is = h.left_is ∙ ap (λ (xs : List ℕ). h.front ++ xs) k.left_is ∙ sym (append_assoc h.front k.front (rest_left c.rest));
}

pub reads_none : (a b : Arguments) → b ≡ a → Reads a b []
reads_none a b e = record {
  known = ap (λ (c : Arguments). c.known) e;
  form = ap (λ (c : Arguments). is_packed c.rest) e;
  front = [];
  there = none_in (meaning a.known.names.now) a.known.skipped.now (is_packed a.rest) [] refl;
  left_is = ap (λ (c : Arguments). rest_left c.rest) (sym e);
}

pub reads_piece : (a b : Arguments) (piece : Piece) (word : List ℕ) → Goes a b word → WritesIn b piece word → Reads a b (piece ∷ [])
reads_piece a b piece word h k = record {
  known = h.0;
  form = h.2 ∙ sym h.1;
  front = 32 ∷ (word ++ []);
  there = subst (λ (packed : Bool). AreIn packed (meaning a.known.names.now) a.known.skipped.now (piece ∷ []) (32 ∷ (word ++ []))) (sym h.1)
      (one_written (meaning a.known.names.now) a.known.skipped.now piece word
      (subst (λ (known : Known). IsWritten (meaning known.names.now) known.skipped.now piece word) h.0 k));
  left_is = h.3 ∙ ap (λ (xs : List ℕ). 32 ∷ (xs ++ rest_left b.rest)) (sym (append-nil word));
}

pub reads_word : (a b : Arguments) (word : List ℕ) → Goes a b word → Reads a b (Word word ∷ [])
reads_word a b word h = reads_piece a b (Word word) word h refl

pub reads_this : (a b : Arguments) (word this : List ℕ) → Reads a b (Word word ∷ []) → word ≡ this → Reads a b (Word this ∷ [])
reads_this a b word this h e = subst (λ (w : List ℕ). Reads a b (Word w ∷ [])) e h

pub reads_text : (a b : Arguments) (content : List ℕ) → GoesText a b content → Reads a b (Text content ∷ [])
reads_text a b content h = reads_piece a b (Text content) h.0 h.2 h.1

pub reads_some : (a b c : Arguments) (ps : List Piece) → Reads a b (Word (codes "+") ∷ []) → Reads b c ps → Reads a c (Word (codes "+") ∷ ps)
reads_some a b c ps h k = reads_then a b c (Word (codes "+") ∷ []) ps h k

-- The beginnings and ends of lists and groups.

pub reads_begin : (a b : Arguments) (n : ℕ) → Goes a b (codes "[") → Reads a b (Items n ∷ [])
reads_begin a b n h = reads_piece a b (Items n) (codes "[") h refl

pub begins_line : (a b : Arguments) → Goes a b (codes "[") → Begins a b None
begins_line a b h = λ n. reads_begin a b n h

pub reads_group : (a b : Arguments) → Goes a b (codes "[") → Reads a b (Group ∷ [])
reads_group a b h = reads_piece a b Group (codes "[") h refl

pub reads_end : (a b : Arguments) → Goes a b (codes "]") → Reads a b (End ∷ [])
reads_end a b h = reads_piece a b End (codes "]") h refl

pub reads_grouped : (a b c d : Arguments) (ps : List Piece) → Reads a b (Group ∷ []) → Reads b c ps → Reads c d (End ∷ []) → Reads a d (grouped ps)
reads_grouped a b c d ps h k m = reads_then a b d (Group ∷ []) (ps ++ End ∷ []) h (reads_then b c d ps (End ∷ []) k m)

-- Nothing more is left.

pub ends : (a b : Arguments) (ps : List Piece) → Reads a b ps → rest_left b.rest ≡ [] → AreLeft a ps
ends a b ps h e =
    subst (λ (xs : List ℕ). AreIn (is_packed a.rest) (meaning a.known.names.now) a.known.skipped.now ps xs)
    (sym (h.left_is ∙ ap (λ (xs : List ℕ). h.front ++ xs) e ∙ append-nil h.front)) h.there

pub none_left : (a : Arguments) → rest_left a.rest ≡ [] → AreLeft a []
none_left a e = none_in (meaning a.known.names.now) a.known.skipped.now (is_packed a.rest) (rest_left a.rest) e

-- An integer that was read, whatever becomes of a problem.
pub integer_read :
    (a b : Arguments) (word : List ℕ) (r : Result ℤ Problem) (s : Result ℤ Misfit) (F : Problem → Misfit → Type 0) → Goes a b word → IfOk r (IsIntegerWord b word) →
    MatchResult r (λ z. s ≡ Ok z) (λ e. IsErrAnd s (F e)) → IfOk s (λ z. Reads a b (number z))
integer_read a b word (Ok z) s F h k m = subst (λ (q : Result ℤ Misfit). IfOk q (λ x. Reads a b (number x))) (sym m) (reads_piece a b (Number z) word h k)
integer_read a b word (Err e) (Err d) F h k m = tt
integer_read a b word (Err e) (Ok z) F h k m = absurd m

pub ruleset pieces = (reads_piece, reads_this, reads_word, reads_text, reads_some)

pub ruleset signs = (reads_word, reads_this)

pub ruleset brackets = (begins_line, reads_group, reads_end)

-- Numerals.

pub natural : (bs : List ℕ) (n : ℕ) → slice_index bs 0 ≢ 43 → IsNumeral 10 (without_leading_plus bs) → n ≡ digits_value 10 (without_leading_plus bs) → IsNatural bs n
natural bs n s h e =
    let same : without_leading_plus bs ≡ bs = ap (λ (b : Bool). drop (cond b 1 0) bs) (ne_eqb (slice_index bs 0) 43 s) in
    (subst (λ (ds : List ℕ). IsNumeral 10 ds) same h, e ∙ ap (λ (ds : List ℕ). digits_value 10 ds) same)

signed_by : (bs : List ℕ) (z : ℤ) (b : Bool) → starts_with_minus bs ≡ b → slice_index bs 0 ≢ 43 → IsNumeral 10 (cond b (drop 1 bs) (without_leading_plus bs)) →
    z ≡ cond b (neg_ℤ (pos (digits_value 10 (cond b (drop 1 bs) (without_leading_plus bs))))) (pos (digits_value 10 (cond b (drop 1 bs) (without_leading_plus bs)))) → IsInteger bs z
signed_by bs z false m s h e = inl (digits_value 10 (without_leading_plus bs), natural bs _ s h refl, e)
signed_by [] z true m s h e = absurd (omega (arith, h.0))
signed_by (c ∷ cs) z true m s h e = inr (cs, digits_value 10 cs, ap (λ (b : ℕ). b ∷ cs) (eqb-true c 45 m), (h, refl), e)

pub integer : (bs : List ℕ) (z : ℤ) → slice_index bs 0 ≢ 43 → IsNumeral 10 (without_leading_sign bs) → z ≡ signed_digits_value 10 bs → IsInteger bs z
integer bs z s h e = signed_by bs z (starts_with_minus bs) refl s h e

pub minus_no_plus : (s x : List ℕ) → StripsPrefix (FindsCharPrefix 45) s x → slice_index s 0 ≢ 43
minus_no_plus s x p e = absurd (omega (arith, ap (λ (xs : List ℕ). slice_index xs 0) (behind_minus s x p), e))

pub ruleset numerals = (natural, integer, minus_no_plus, behind_question)

-- A text after its opening quote.
pub goes_text :
    (a b : Arguments) (s quoted behind content : List ℕ) → b.known ≡ a.known → is_packed a.rest ≡ false → is_packed b.rest ≡ false → rest_left a.rest ≡ 32 ∷ s → StripsPrefix (FindsCharPrefix 34) s quoted →
    IsTextFront quoted content behind → rest_left b.rest ≡ behind → GoesText a b content
goes_text a b s quoted behind content k m n l p t r = (
  34 ∷ (t.0 ++ 34 ∷ []),
  (t.0, t.1, refl),
  (
    k,
    m,
    n,
    l ∙ ap (λ (xs : List ℕ). 32 ∷ xs)
        (behind_quote s quoted p ∙ ap (λ (xs : List ℕ). 34 ∷ xs)
        (t.2 ∙ ap (λ (xs : List ℕ). t.0 ++ 34 ∷ xs) (sym r) ∙ sym (append_assoc t.0 (34 ∷ []) (rest_left b.rest)))),
  ),
)

-- A group of two and of four arguments between brackets.

pub reads_two :
    (a b c d f : Arguments) (ps qs : List Piece) → Reads a b (Group ∷ []) → Reads b c ps → Reads c d qs → Reads d f (End ∷ []) → Reads a f (grouped (ps ++ qs))
reads_two a b c d f ps qs h i j m = reads_grouped a b d f (ps ++ qs) h (reads_then b c d ps qs i j) m

pub reads_four :
    (a b c d f g i : Arguments) (ps qs rs ss : List Piece) → Reads a b (Group ∷ []) → Reads b c ps → Reads c d qs → Reads d f rs → Reads f g ss → Reads g i (End ∷ []) →
    Reads a i (grouped (ps ++ (qs ++ (rs ++ ss))))
reads_four a b c d f g i ps qs rs ss h j k l m n =
    reads_grouped a b g i (ps ++ (qs ++ (rs ++ ss))) h (reads_then b c g ps (qs ++ (rs ++ ss)) j (reads_then c d g qs (rs ++ ss) k (reads_then d f g rs ss l m))) n

-- The items of a list so far.

pub list_begun : {A : Type 0} (pieces : A → List Piece) (a b : Arguments) (xs : List A) → b ≡ a → xs ≡ [] → Reads a b (flat_map pieces xs)
list_begun pieces a b xs h e = subst (λ ys. Reads a b (flat_map pieces ys)) (sym e) (reads_none a b h)

pub list_more :
    {A : Type 0} (pieces : A → List Piece) (a b same c : Arguments) (xs ys : List A) (x : A) → Reads a b (flat_map pieces xs) → same ≡ b → Reads same c (pieces x) → ys ≡ xs ++ x ∷ [] →
    Reads a c (flat_map pieces ys)
list_more pieces a b same c xs ys x h s k e =
    let more = reads_then a b c (flat_map pieces xs) (pieces x) h (subst (λ (d : Arguments). Reads d c (pieces x)) s k) in
    let all : flat_map pieces xs ++ pieces x ≡ flat_map pieces ys =
    ap (λ (ps : List Piece). flat_map pieces xs ++ ps) (sym (append-nil (pieces x))) ∙ sym (flat_map-append pieces xs (x ∷ [])) ∙ ap (λ zs. flat_map pieces zs) (sym e) in
    subst (λ (ps : List Piece). Reads a c ps) all more

pub list_ended : (a b c : Arguments) (ps : List Piece) → Reads a b ps → Goes b c (codes "]") → Reads a c (ps ++ End ∷ [])
list_ended a b c ps h k = reads_then a b c ps (End ∷ []) h (reads_end b c k)

pub list_closed : (a b same c : Arguments) (ps : List Piece) → Reads a b ps → same ≡ b → Reads same c (End ∷ []) → Reads a c (ps ++ End ∷ [])
list_closed a b same c ps h s k = reads_then a b c ps (End ∷ []) h (subst (λ (d : Arguments). Reads d c (End ∷ [])) s k)

-- A whole list.

pub list_in_line :
    {A : Type 0} (pieces : A → List Piece) (a b c : Arguments) (xs : List A) (count : Option ℕ) → Begins a b count → count ≡ None → Reads b c (flat_map pieces xs ++ End ∷ []) → Reads a c (listed pieces xs)
list_in_line pieces a b c xs count h e k =
    reads_then a b c (Items (length xs) ∷ []) (flat_map pieces xs ++ End ∷ []) (subst (λ (n : Option ℕ). Begins a b n) e h (length xs)) k

pub list_counted :
    {A : Type 0} (pieces : A → List Piece) (a b c : Arguments) (xs : List A) (n : ℕ) → Begins a b (Some n) → length xs ≡ n → Reads b c (flat_map pieces xs ++ End ∷ []) → Reads a c (listed pieces xs)
list_counted pieces a b c xs n h e k =
    reads_then a b c (Items (length xs) ∷ []) (flat_map pieces xs ++ End ∷ []) (subst (λ (m : ℕ). Begins a b (Some m)) (sym e) h) k

pub ruleset lists = (list_begun, list_more, list_ended, list_closed, list_in_line, list_counted)
