-- Lines that a line feed ends, and the lines of a text.
use Rattle.std.proofs.Common.{◌≡◌, ℕ, suc, ◌+◌, ◌-◌, ◌<◌, ◌≤◌, Bool, true, false, not, cond, List, [], ◌∷◌, ◌++◌, length, length-append, take, drop, refl, sym, ap, subst, ◌∙◌, arith}
use Rattle.std.proofs.lemmas.Bool.{eqb-true}
use Rattle.std.proofs.lemmas.List.{take_all, length-drop}
use Rattle.std.specs.List.{position_or_len}
use Rattle.vast_calls.specs.Lines.{HasNoFeed, IsEnded, is_line_feed, longer, lines_of}

abbrev end : List ℕ → ℕ
end bytes = position_or_len is_line_feed bytes

none_at : (is_end : Bool) (n m : ℕ) → cond (not is_end) (1 + n) 0 ≡ suc m → (is_end ≡ false) × (n ≡ m)
none_at true n m e = absurd (omega (arith, e))
none_at false n m e = (refl, omega (arith, e))

-- Where a line feed ends what has none, that is the first line.
pub line_ended : (line behind : List ℕ) → HasNoFeed line → lines_of (line ++ 10 ∷ behind) ≡ line ∷ lines_of behind
line_ended [] behind h = refl
line_ended (byte ∷ line) behind h =
    let none = none_at (is_line_feed byte) (end line) (length line) h in
    let rest : List ℕ = line ++ 10 ∷ behind in
    ap (λ (is_end : Bool). cond is_end ([] ∷ lines_of rest) (longer byte (lines_of rest))) none.0 ∙ ap (longer byte) (line_ended line behind none.1)

-- What has no line feed is the last line, unless it is empty.
pub line_left : (byte : ℕ) (line : List ℕ) → HasNoFeed (byte ∷ line) → lines_of (byte ∷ line) ≡ (byte ∷ line) ∷ []
line_left byte [] h =
    ap (λ (is_end : Bool). cond is_end ([] ∷ []) ((byte ∷ []) ∷ [])) (none_at (is_line_feed byte) 0 0 h).0
line_left byte (next ∷ line) h =
    let none = none_at (is_line_feed byte) (end (next ∷ line)) (length (next ∷ line)) h in
    ap (λ (is_end : Bool). cond is_end ([] ∷ lines_of (next ∷ line)) (longer byte (lines_of (next ∷ line)))) none.0 ∙ ap (longer byte) (line_left next line none.1)

pub none_in_both : (front back : List ℕ) → HasNoFeed front → HasNoFeed back → HasNoFeed (front ++ back)
none_in_both [] back f b = b
none_in_both (byte ∷ front) back f b =
    let none = none_at (is_line_feed byte) (end front) (length front) f in
    let more = none_in_both front back none.1 b in
    ap (λ (is_end : Bool). cond (not is_end) (1 + end (front ++ back)) 0) none.0 ∙ omega (arith, more)

-- The byte at the end of the first line is a line feed.
ended_from :
    (is_end : Bool) (byte : ℕ) (bytes : List ℕ) → is_line_feed byte ≡ is_end → cond (not is_end) (1 + end bytes) 0 < suc (length bytes) →
    (end bytes < length bytes → IsEnded bytes (take (end bytes) bytes) (drop (suc (end bytes)) bytes)) →
    IsEnded (byte ∷ bytes) (take (cond (not is_end) (1 + end bytes) 0) (byte ∷ bytes)) (drop (suc (cond (not is_end) (1 + end bytes) 0)) (byte ∷ bytes))
ended_from true byte bytes is inside rest = (refl, ap (λ (b : ℕ). b ∷ bytes) (eqb-true byte 10 is))
ended_from false byte bytes is inside rest =
    let one : suc (end bytes) ≡ 1 + end bytes = omega arith in
    let more = rest (omega (arith, inside)) in
    subst (λ (n : ℕ). IsEnded (byte ∷ bytes) (take n (byte ∷ bytes)) (drop (suc n) (byte ∷ bytes))) one (
      ap (λ (is_end : Bool). cond (not is_end) (1 + end (take (end bytes) bytes)) 0) is ∙ omega (arith, more.0),
      ap (λ (b : List ℕ). byte ∷ b) more.1,
    )

ended_at_first : (bytes : List ℕ) → end bytes < length bytes → IsEnded bytes (take (end bytes) bytes) (drop (suc (end bytes)) bytes)
ended_at_first [] inside = absurd (omega (arith, inside))
ended_at_first (byte ∷ bytes) inside = ended_from (is_line_feed byte) byte bytes refl inside (ended_at_first bytes)

pub ended_first : (bytes : List ℕ) (n : ℕ) → n ≡ end bytes → n < length bytes → IsEnded bytes (take n bytes) (take (length bytes - (n + 1)) (drop (n + 1) bytes))
ended_first bytes n is inside =
    let one : suc (end bytes) ≡ n + 1 = omega (arith, is) in
    let at : end bytes < length bytes = omega (arith, is, inside) in
    let whole = take_all (length bytes - (n + 1)) (drop (n + 1) bytes) (omega (arith, length-drop (n + 1) bytes)) in
    subst (IsEnded bytes (take n bytes)) (sym whole) (subst (λ (line : List ℕ). IsEnded bytes line (drop (n + 1) bytes)) (ap (λ (k : ℕ). take k bytes) (sym is))
    (subst (λ (k : ℕ). IsEnded bytes (take (end bytes) bytes) (drop k bytes)) one (ended_at_first bytes at)))

within_at : (is_end : Bool) (n m : ℕ) → n ≤ m → cond (not is_end) (1 + n) 0 ≤ suc m
within_at true n m h = omega arith
within_at false n m h = omega (arith, h)

within : (bytes : List ℕ) → end bytes ≤ length bytes
within [] = omega arith
within (byte ∷ bytes) = within_at (is_line_feed byte) (end bytes) (length bytes) (within bytes)

pub none_ended : (bytes : List ℕ) (n : ℕ) → n ≡ end bytes → length bytes ≤ n → HasNoFeed bytes
none_ended bytes n is outside = omega (arith, is, outside, within bytes)

pub first_of_ended : (bytes line behind : List ℕ) → IsEnded bytes line behind → lines_of bytes ≡ line ∷ lines_of behind
first_of_ended bytes line behind h = ap lines_of h.1 ∙ line_ended line behind h.0

pub first_of_left : (bytes : List ℕ) → 0 < length bytes → HasNoFeed bytes → lines_of bytes ≡ bytes ∷ []
first_of_left [] some h = absurd (omega (arith, some))
first_of_left (byte ∷ bytes) some h = line_left byte bytes h

pub behind_shorter : (bytes line behind : List ℕ) → IsEnded bytes line behind → length behind < length bytes
behind_shorter bytes line behind h = omega (arith, ap length h.1, length-append line (10 ∷ behind))

pub ruleset first_lines = (first_of_ended, first_of_left, behind_shorter)
