-- A literal's text is one token, or a minus and one token.
use Rattle.std.proofs.Common.{◌≡◌, ℕ, List, [], ◌∷◌, ◌++◌, Bool, true, false, eqb, eqb-true, ◌&&◌, refl, sym, append_assoc, true≢false}
use Rattle.vast_literal.specs.Tokens.{Based}
use Rattle.vast_literal.specs.Scan.{is_digit, is_based_digit, is_radix, is_filler, Gap, cons_token, scan}
use Rattle.vast_literal.specs.LiteralToken.{every, is_number, is_radix_tail, is_based_tail, is_based, is_filled, is_bare_literal, is_literal_text}
use Rattle.vast_literal.proofs.LiteralToken.{bare_token, literal_tokens}
use Rattle.vast_literal.proofs.TokenReads.{stops, Reads}
use Rattle.vast_literal.proofs.ScanLaws.{and_left, and_right, scan_number, scan_based, scan_filler, scan_signed, by_test}
use Rattle.vast_literal.proofs.Pieces.{free_reads, minus_free}

pub every_push : (p : ℕ → Bool) (d : List ℕ) (c : ℕ) → every p d ≡ true → p c ≡ true → every p (d ++ (c ∷ [])) ≡ true
every_push p [] c h k = rw k
every_push p (x ∷ d) c h k = rw (and_left (p x) (every p d) h) (every_push p d c (and_right (p x) (every p d) h) k)

radix_tail : (d v rest : List ℕ) → every is_digit d ≡ true → is_radix_tail v ≡ true → stops rest ≡ true → scan Gap (d ++ (39 ∷ (v ++ rest))) ≡ cons_token (Based (d ++ (39 ∷ v))) (scan Gap rest)
radix_tail d [] rest g h k = cc
radix_tail d (r ∷ []) rest g h k = absurd (true≢false (sym (and_right (is_radix r) false h)))
radix_tail d (r ∷ x ∷ v) rest g h k =
    let h1 = and_right (is_radix r) (is_based_digit x && every is_based_digit v) h in
    scan_based d r x v rest g (and_left _ _ h) (and_left _ _ h1) (and_right (is_based_digit x) (every is_based_digit v) h1) k

signed_tail : (d v rest : List ℕ) → every is_digit d ≡ true → is_radix_tail v ≡ true → stops rest ≡ true → scan Gap (d ++ (39 ∷ 115 ∷ (v ++ rest))) ≡ cons_token (Based (d ++ (39 ∷ 115 ∷ v))) (scan Gap rest)
signed_tail d [] rest g h k = cc
signed_tail d (r ∷ []) rest g h k = absurd (true≢false (sym (and_right (is_radix r) false h)))
signed_tail d (r ∷ x ∷ v) rest g h k =
    let h1 = and_right (is_radix r) (is_based_digit x && every is_based_digit v) h in
    scan_signed d r x v rest g (and_left _ _ h) (and_left _ _ h1) (and_right (is_based_digit x) (every is_based_digit v) h1) k

pub based_tail : (d v rest : List ℕ) → every is_digit d ≡ true → is_based_tail v ≡ true → stops rest ≡ true → scan Gap (d ++ (39 ∷ (v ++ rest))) ≡ cons_token (Based (d ++ (39 ∷ v))) (scan Gap rest)
based_tail d [] rest g h k = cc
based_tail d (c ∷ v) rest g h k = by_test (eqb c 115)
    (λ e. rw (eqb-true c 115 e) (signed_tail d v rest g (rw e at h) k)) (λ e. radix_tail d (c ∷ v) rest g (rw e at h) k)

-- d is the size so far
based_on_size : (d a rest : List ℕ) → every is_digit d ≡ true → is_based a ≡ true → stops rest ≡ true → scan Gap (d ++ (a ++ rest)) ≡ cons_token (Based (d ++ a)) (scan Gap rest)
based_on_size d [] rest g h k = cc
based_on_size d (c ∷ a) rest g h k = by_test (eqb c 39) (λ e. rw (eqb-true c 39 e) (based_tail d a rest g (rw e at h) k))
    (λ e. let j = rw e at h in
    let m = based_on_size (d ++ (c ∷ [])) a rest (every_push is_digit d c g (and_left _ _ j)) (and_right (is_digit c) (is_based a) j) k in
    rw (append_assoc d (c ∷ []) (a ++ rest), append_assoc d (c ∷ []) a) at m)

fill_scan : (a rest : List ℕ) → is_filled a ≡ true → scan Gap (a ++ rest) ≡ cons_token (Based a) (scan Gap rest)
fill_scan [] rest h = cc
fill_scan (a ∷ []) rest h = cc
fill_scan (a ∷ c ∷ []) rest h = rw (eqb-true a 39 (and_left _ _ h)) (scan_filler c rest (and_right (eqb a 39) (is_filler c) h))
fill_scan (a ∷ c ∷ b ∷ v) rest h = cc

bare_reads : (a : List ℕ) → is_bare_literal a ≡ true → Reads a (bare_token a ∷ [])
bare_reads a h = by_test (is_number a) (λ n. rw n (record { at = λ rest k. scan_number a rest n k }))
    (λ n. rw n (by_test (is_based a) (λ b. record { at = λ rest k. based_on_size [] a rest refl b k }) (λ b. record { at = λ rest k. fill_scan a rest (rw (n, b) at h) })))

pub literal_reads : (a : List ℕ) → is_literal_text a ≡ true → Reads a (literal_tokens a)
literal_reads [] h = cc
literal_reads (c ∷ cs) h = by_test (eqb c 45)
    (λ e. rw (e, eqb-true c 45 e) (free_reads minus_free (bare_reads cs (rw e at h)))) (λ e. rw e (bare_reads (c ∷ cs) (rw e at h)))
