-- Where the call's name and its arguments stand in a line.
use Rattle.std.proofs.Common.{◌≡◌, ℕ, List, [], ◌∷◌, take, drop, sym, ap, ◌∙◌, lit<, length}
use Rattle.std.proofs.Math.Seq.{drop-append_seam, drop-length, take-length}
use Rattle.std.specs.List.{position_or_len}
use Rattle.std.specs.Prelude.{◌==◌}
use Rattle.std.specs.Str.Pattern.{FindsChar, SplitsAroundMatch}
use Rattle.vast_calls.specs.Lines.{behind_first, first_word}
use Rattle.vast_calls.proofs.Words.{around}

-- What stands after the first word, and its space.
pub behind_some : (text word rest : List ℕ) → SplitsAroundMatch (FindsChar 32) text word rest → word ≡ first_word text → 32 ∷ rest ≡ behind_first text
behind_some text word rest p w =
    sym (drop-append_seam word (32 ∷ rest))
    ∙ ap (λ (xs : List ℕ). drop (length word) xs) (sym (around 32 text word rest (lit< tt) p))
    ∙ ap (λ (xs : List ℕ). drop (length xs) text) w

-- A text of one word.
pub behind_none : (text : List ℕ) → position_or_len (λ (b : ℕ). b == 32) text ≡ length text → [] ≡ behind_first text
behind_none text e =
    sym (drop-length text)
    ∙ ap (λ (xs : List ℕ). drop (length xs) text) (sym (take-length text) ∙ ap (λ (n : ℕ). take n text) (sym e))

pub ruleset firsts = (behind_some, behind_none)
