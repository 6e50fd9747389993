-- The longest lexeme at the front of a text, by places: the test that what stands after a place must pass to be in it.
use Rattle.std.proofs.Common.{◌≡◌, ◌≤◌, ◌<◌, ◌+◌, inl, inr, ⊎_elim, ℕ, zero-le, List, [], ◌∷◌, ◌++◌, length, take, drop, get_or, Bool, true, false, cond, refl, sym, ap, ◌∙◌, append_assoc, arith}
use Rattle.std.specs.List.{prefix_len}
use Rattle.std.proofs.Math.Seq.{take-add, drop-append_seam}
use Rattle.std.proofs.lemmas.Bool.{cases_lt}
use Rattle.std.proofs.lemmas.List.{take-append-drop, take-append-le, drop-append-le, length-take-le, length-drop, take_more}
use Rattle.std.proofs.lemmas.List.Sums.{prefix_len-le-length}
use Rattle.vast_literal.specs.Scan.{Gap}
use Rattle.vast_literal.specs.LiteralToken.{every, is_done}
use Rattle.vast_literal.specs.Lexemes.{IsLongest}
use Rattle.vast_literal.proofs.ScanLaws.{and_left, and_right}
use Rattle.vast_literal.proofs.LexemeShapes.{one, lexeme_one}
use Rattle.vast_literal.proofs.LexemeFronts.{Ends}
use Rattle.vast_literal.proofs.LexemeStarts.{front}
use Rattle.vast_read.specs.Behind.{Behind, none_before, lexeme, apostrophe}
use Rattle.vast_read.specs.Internal.Scanner.{GoesOn}
use Rattle.vast_read.proofs.scanner.Lexemes.{one_more}

-- the longest front that passes the test of a lexeme is one
pub behind_longest : (text : List ℕ) (n : ℕ) → n ≤ length text → one (take n text) ≡ true → ((v behind : List ℕ) → text ≡ v ++ behind → one v ≡ true → length v ≤ n) →
    Behind text (drop n text)
behind_longest [] n k h m = let none : n ≡ 0 = omega arith in let clash = rw none at h in absurd (cc)
behind_longest (b ∷ t) n k h m = by_front (front b t)
  where
    by_front : Ends one [] Gap (b ∷ t) → Behind (b ∷ t) (drop n (b ∷ t))
    by_front (inr l) = absurd (l.nothing (take n (b ∷ t)) (drop n (b ∷ t)) (sym (take-append-drop n (b ∷ t))) h)
    by_front (inl a) =
        let low = a.longest (take n (b ∷ t)) (drop n (b ∷ t)) (sym (take-append-drop n (b ∷ t))) h in
        let high = m a.more a.rest a.parts (lexeme_one a.more a.brings a.lexeme) in
        let long : n ≡ length a.more = omega (arith, length-take-le n (b ∷ t) k) in
        let back : drop n (b ∷ t) ≡ a.rest = ap (λ x. drop n x) a.parts ∙ (ap (λ i. drop i (a.more ++ a.rest)) long ∙ drop-append_seam a.more a.rest) in
        let longest : IsLongest a.more a.rest = λ v others us q l. a.longest v others (a.parts ∙ q) (lexeme_one v us l) in
        rw (back, a.parts) (lexeme a.lexeme longest none_before)

goes_bound : (go : List ℕ → Bool) (text : List ℕ) (place k : ℕ) → GoesOn go text place → ((v behind : List ℕ) → drop place text ≡ v ++ behind → go v ≡ true → length v ≤ k) →
    (v behind : List ℕ) → text ≡ v ++ behind → one v ≡ true → place ≤ length v → length v ≤ place + k
goes_bound go text place k g m v behind e h past =
    let fronts : take place text ≡ take place v = ap (λ x. take place x) e ∙ take-append-le place v behind past in
    let backs : drop place text ≡ drop place v ++ behind = ap (λ x. drop place x) e ∙ drop-append-le place v behind past in
    let parts : take place text ++ drop place v ≡ v = ap (λ x. x ++ drop place v) fronts ∙ take-append-drop place v in
    let passes : go (drop place v) ≡ true = sym (g (drop place v)) ∙ (ap one parts ∙ h) in
    let few = m (drop place v) behind backs passes in
    omega (arith, length-drop place v)

-- the lexeme that ends where the test of what goes on passes no further
pub goes_behind : (go : List ℕ → Bool) (text : List ℕ) (place k : ℕ) → place + k ≤ length text → GoesOn go text place → go (take k (drop place text)) ≡ true →
    ((v behind : List ℕ) → drop place text ≡ v ++ behind → go v ≡ true → length v ≤ k) → Behind text (drop (place + k) text)
goes_behind go text place k within g h m =
    behind_longest text (place + k) within (rw (take-add place k text) (g (take k (drop place text)) ∙ h))
    (λ v behind e p. ⊎_elim (λ (before : length v < place). omega arith) (λ (past : place ≤ length v). goes_bound go text place k g m v behind e p past) (cases_lt (length v) place))

done_bound : (text v behind : List ℕ) → text ≡ v ++ behind → is_done v ≡ true → length v ≤ 0
done_bound text [] behind e h = zero-le
done_bound text (c ∷ v) behind e h = absurd (cc)

-- nothing goes on
pub done_behind : (text : List ℕ) (place : ℕ) → place ≤ length text → GoesOn is_done text place → Behind text (drop place text)
done_behind text place within g =
    let none : place + 0 ≡ place = omega arith in
    rw none at (goes_behind is_done text place 0 (omega arith) g refl (done_bound (drop place text)))

-- bytes of one kind go on
pub every_taken : (go : ℕ → Bool) (text : List ℕ) → every go (take (prefix_len go text) text) ≡ true
every_taken go [] = refl
every_taken go (c ∷ cs) = taken_by (go c) refl (every_taken go cs)
  where
    taken_by : (b : Bool) → go c ≡ b → every go (take (prefix_len go cs) cs) ≡ true → every go (take (cond b (1 + prefix_len go cs) 0) (c ∷ cs)) ≡ true
    taken_by true e more = rw (one_more (prefix_len go cs), e) more
    taken_by false e more = refl

pub every_bound : (go : ℕ → Bool) (text v behind : List ℕ) → text ≡ v ++ behind → every go v ≡ true → length v ≤ prefix_len go text
every_bound go text [] behind e h = zero-le
every_bound go [] (d ∷ v) behind e h = absurd (cc)
every_bound go (c ∷ cs) (d ∷ v) behind e h =
    let same : c ≡ d = cc in
    let few = every_bound go cs v behind (cc) (and_right (go d) (every go v) h) in
    let yes : go c ≡ true = rw same (and_left (go d) (every go v) h) in
    rw yes (omega arith)

pub run_behind : (go : ℕ → Bool) (text : List ℕ) (place n : ℕ) → place ≤ length text → GoesOn (every go) text place → n ≡ place + prefix_len go (drop place text) → Behind text (drop n text)
run_behind go text place n within g e =
    let few = prefix_len-le-length go (drop place text) in
    rw e (goes_behind (every go) text place (prefix_len go (drop place text)) (omega (arith, length-drop place text)) g (every_taken go (drop place text)) (every_bound go (drop place text)))

-- a byte more
pub goes_more : (go more : List ℕ → Bool) (text : List ℕ) (place : ℕ) → place < length text → GoesOn go text place → ((v : List ℕ) → go (get_or text place 10 ∷ v) ≡ more v) → GoesOn more text (place + 1)
goes_more go more text place within g step v =
    rw (take_more text place 10 within, append_assoc (take place text) (get_or text place 10 ∷ []) v) (g (get_or text place 10 ∷ v) ∙ step v)

-- after all of it, and after a further part
pub behind_further : (text middle rest : List ℕ) → Behind text middle → Behind middle rest → Behind text rest
behind_further text middle rest none_before k = k
behind_further text middle rest (lexeme l m h) k = lexeme l m (behind_further _ middle rest h k)
behind_further text middle rest (apostrophe l h) k = apostrophe l (behind_further _ middle rest h k)
