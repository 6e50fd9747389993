-- Where a text may be cut: after an ASCII byte, and after a run of them.
use Rattle.std.proofs.Common.{◌≡◌, zero, suc, ℕ, ◌+◌, ◌-◌, ◌<◌, ◌≤◌, List, length, drop, get_or, Bool, true, refl, sym, subst, arith}
use Rattle.std.specs.List.{prefix_len}
use Rattle.std.specs.Str.{IsUtf8, IsCharBoundary}
use Rattle.std.proofs.lemmas.List.{length-drop, get_or-drop, get_or_default}
use Rattle.std.proofs.lemmas.List.Sums.{prefix_len-le-length, prefix_len_passes}
use Rattle.std.proofs.lemmas.Str.{IsCharBoundary-after_ascii}

pub cut_behind : (text : List ℕ) (k n : ℕ) → IsUtf8 text → k < length text → get_or text k 10 < 128 → n ≡ k + 1 → IsCharBoundary text n
cut_behind text k n utf8 within small e =
    subst (IsCharBoundary text) (sym e) (IsCharBoundary-after_ascii text k utf8 within (omega (arith, get_or_default text k 0 10 within)))

run_cut_by : (go : ℕ → Bool) → ((c : ℕ) → go c ≡ true → c < 128) → (text : List ℕ) (from n k : ℕ) → IsUtf8 text → 0 < from → from ≤ length text →
    get_or text (from - 1) 10 < 128 → n ≡ from + k → prefix_len go (drop from text) ≡ k → IsCharBoundary text n
run_cut_by go small text from n zero utf8 some within before e last = cut_behind text (from - 1) n utf8 (omega arith) before (omega arith)
run_cut_by go small text from n (suc j) utf8 some within before e last =
    let short = prefix_len-le-length go (drop from text) in
    let passed : go (get_or (drop from text) j 10) ≡ true = prefix_len_passes go (drop from text) j 10 (omega arith) in
    let here : get_or text (from + j) 10 < 128 = small (get_or text (from + j) 10) (rw (get_or-drop from text j 10) at passed) in
    cut_behind text (from + j) n utf8 (omega (arith, length-drop from text)) here (omega arith)

-- after a run of bytes that begins after an ASCII byte
pub run_cut : (go : ℕ → Bool) → ((c : ℕ) → go c ≡ true → c < 128) → (text : List ℕ) (from n : ℕ) → IsUtf8 text → 0 < from → from ≤ length text →
    get_or text (from - 1) 10 < 128 → n ≡ from + prefix_len go (drop from text) → IsCharBoundary text n
run_cut go small text from n utf8 some within before e = run_cut_by go small text from n (prefix_len go (drop from text)) utf8 some within before e refl
