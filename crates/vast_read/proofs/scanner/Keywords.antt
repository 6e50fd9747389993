-- The table of keywords answers for each word what the list of keywords says.
use Rattle.std.proofs.Common.{◌≡◌, zero, suc, ℕ, ◌<◌, List, [], ◌∷◌, length, map, get_or, Bool, true, false, ◌&&◌, ◌||◌, nat_lt, bytes_eq, Option, Some, None, refl, ap, sym, ◌∙◌, arith}
use Rattle.std.proofs.lemmas.Slice.Eq.{bytes_eq-Decides}
use Rattle.std.proofs.lemmas.Bool.Decides.{nat_tests}
use Rattle.vast_literal.specs.Keyword.{keywords, is_among, is_keyword}
use Rattle.vast_literal.specs.Tokens.{reserved_keys, key_written, Reserved, Word, Keyword, keyword_token, word_token}
use Rattle.vast_literal.specs.declared.token.Key.{Key}
use Rattle.vast_literal.proofs.ScanLaws.{and_left, and_right}
use Rattle.vast_read.specs.Internal.KeywordSlots.{slot_of}
use Rattle.vast_read.specs.declared.scanner.keyword.TheConstants.{PLACES, MOVES}

-- all numbers of a list are below a bound
unfoldable pub all_below : ℕ → List ℕ → Bool
all_below n [] = true
all_below n (k ∷ ks) = nat_lt k n && all_below n ks

below_at : (n : ℕ) (ks : List ℕ) (i : ℕ) → 0 < n → all_below n ks ≡ true → get_or ks i 0 < n
unfolding all_below
below_at n [] i some h = some
below_at n (k ∷ ks) zero some h = let this = and_left (nat_lt k n) _ h in grind (arith, nat_tests)
below_at n (k ∷ ks) (suc i) some h = below_at n ks i some (and_right (nat_lt k n) _ h)

places_below : all_below 248 PLACES ≡ true
unfolding all_below
places_below = refl

pub place_within : (slot : ℕ) → get_or PLACES slot 0 < 248
place_within slot = below_at 248 PLACES slot (omega arith) places_below

abbrev pub keys : List (Option Key)
keys = map (key_written reserved_keys) keywords

-- each keyword stands where it is looked for
unfoldable stand : List (List ℕ) → Bool
stand [] = true
stand (w ∷ ws) = bytes_eq (get_or keywords (get_or PLACES (slot_of MOVES w) 0) []) w && stand ws

all_stand : stand keywords ≡ true
unfolding stand keywords
all_stand = refl

found_among : (ws : List (List ℕ)) (word : List ℕ) → stand ws ≡ true → is_among ws word ≡ true → get_or keywords (get_or PLACES (slot_of MOVES word) 0) [] ≡ word
unfolding stand
found_among [] word h e = cc
found_among (w ∷ ws) word h e = by_first (bytes_eq w word) refl e (found_among ws word (and_right _ _ h))
  where
    by_first : (b : Bool) → bytes_eq w word ≡ b → b || is_among ws word ≡ true →
        (is_among ws word ≡ true → get_or keywords (get_or PLACES (slot_of MOVES word) 0) [] ≡ word) → get_or keywords (get_or PLACES (slot_of MOVES word) 0) [] ≡ word
    by_first true s e more = let same : w ≡ word = (bytes_eq-Decides w word).0 s in rw (sym same) ((bytes_eq-Decides _ w).0 (and_left _ _ h))
    by_first false s e more = more e

among_at : (ws : List (List ℕ)) (i : ℕ) → i < length ws → is_among ws (get_or ws i []) ≡ true
among_at [] i low = absurd (omega arith)
among_at (w ∷ ws) zero low = rw ((bytes_eq-Decides w w).1 refl) refl
among_at (w ∷ ws) (suc i) low = or_true (bytes_eq w (get_or ws i [])) _ (among_at ws i (omega arith))
  where
    or_true : (a b : Bool) → b ≡ true → a || b ≡ true
    or_true true b h = refl
    or_true false b h = h

pub mapped_at : {A B : Type 0} (f : A → B) (xs : List A) (i : ℕ) (d : A) (e : B) → i < length xs → f (get_or xs i d) ≡ get_or (map f xs) i e
mapped_at f [] i d e low = absurd (omega arith)
mapped_at f (x ∷ xs) zero d e low = refl
mapped_at f (x ∷ xs) (suc i) d e low = mapped_at f xs i d e (omega arith)

how_many : length keywords ≡ 248
unfolding keywords
how_many = refl

-- a word that is found, of which the grammar uses the key or not, and one that is not
key_of_found : (i : ℕ) (word : List ℕ) → i < 248 → get_or keywords i [] ≡ word → word_token word ≡ keyword_token (get_or keys i None) word
unfolding word_token is_keyword
key_of_found i word low e =
    let inside : i < length keywords = omega (arith, how_many) in
    let among : is_among keywords word ≡ true = ap (is_among keywords) (sym e) ∙ among_at keywords i inside in
    let key : key_written reserved_keys word ≡ get_or keys i None = ap (key_written reserved_keys) (sym e) ∙ mapped_at (key_written reserved_keys) keywords i [] None inside in
    rw (among, key) refl

pub key_found : (i : ℕ) (text word : List ℕ) (k : Key) (o : Option Key) → text ≡ get_or keywords i [] → text ≡ word → o ≡ get_or keys i None → o ≡ Some k → i < 248 → Reserved k ≡ word_token word
key_found i text word k o e same f is low = sym (key_of_found i word low (sym e ∙ same) ∙ ap (λ (x : Option Key). keyword_token x word) (sym f ∙ is))

pub keyword_found : (i : ℕ) (text word : List ℕ) (o : Option Key) → text ≡ get_or keywords i [] → text ≡ word → o ≡ get_or keys i None → o ≡ None → i < 248 → Keyword word ≡ word_token word
keyword_found i text word o e same f is low = sym (key_of_found i word low (sym e ∙ same) ∙ ap (λ (x : Option Key). keyword_token x word) (sym f ∙ is))

pub name_found : (i : ℕ) (text word : List ℕ) → text ≡ get_or keywords i [] → i ≡ get_or PLACES (slot_of MOVES word) 0 → (text ≡ word → ⊥) → Word word ≡ word_token word
unfolding word_token is_keyword
name_found i text word e place h = by_list (is_among keywords word) refl
  where
    by_list : (b : Bool) → is_among keywords word ≡ b → Word word ≡ word_token word
    by_list true f = absurd (h (e ∙ (ap (λ n. get_or keywords n []) place ∙ found_among keywords word all_stand f)))
    by_list false f = rw f refl
