-- The line of a list that names its dialect, and those before it.
use Rattle.std.proofs.Common.{◌≡◌, ℕ, ◌+◌, ◌-◌, ◌<◌, arith, length, get_or, List, [], ◌∷◌, ◌++◌, take, drop, All, Bor, sym, ap, subst, ◌∙◌}
use Rattle.std.proofs.lemmas.List.{map-append, take-append-drop, take_all, take_more, length-drop}
use Rattle.std.proofs.lemmas.List.Elements.{All-push}
use Rattle.vast_literal.specs.declared.kind.VastFileType.{VastFileType}
use Rattle.vast_calls.specs.Lines.{BeginsWithDialect, Passed, dialect_word, line_kind, line_texts, without_return}

-- The lines up to one more.
pub texts-more : (lines : List (ℕ × Bor (List ℕ))) (i : ℕ) (line : ℕ × Bor (List ℕ)) → i < length lines → line ≡ get_or lines i line → line_texts (take (i + 1) lines) ≡ line_texts (take i lines) ++ line.1.now ∷ []
texts-more lines i line l at = rw (take_more lines i line l, ← at) (map-append (λ (x : ℕ × Bor (List ℕ)). x.1.now) (take i lines) (line ∷ []))

pub passed-more :
    (lines : List (ℕ × Bor (List ℕ))) (i : ℕ) (line : ℕ × Bor (List ℕ)) → i < length lines → line ≡ get_or lines i line → All (λ (l : List ℕ). line_kind l ≡ Passed) (line_texts (take i lines)) →
    line_kind line.1.now ≡ Passed → All (λ (l : List ℕ). line_kind l ≡ Passed) (line_texts (take (i + 1) lines))
passed-more lines i line l at h k = rw (texts-more lines i line l at) (All-push (λ (l : List ℕ). line_kind l ≡ Passed) (line_texts (take i lines)) line.1.now h k)

-- The lines of a list that stand after the first that is no comment.
pub begins :
    (lines first rest : List (ℕ × Bor (List ℕ))) (n : ℕ) (line : ℕ × Bor (List ℕ)) (behind : List (ℕ × Bor (List ℕ))) (dialect : VastFileType) → first ≡ lines → rest ≡ lines →
    All (λ (l : List ℕ). line_kind l ≡ Passed) (line_texts (take n first)) → take (length rest - n) (drop n rest) ≡ line ∷ behind → without_return line.1.now ≡ dialect_word dialect →
    BeginsWithDialect (line_texts lines) dialect (line_texts behind)
begins lines first rest n line behind dialect f r passed left word =
    let all : take (length lines - n) (drop n lines) ≡ drop n lines = take_all (length lines - n) (drop n lines) (omega (arith, length-drop n lines)) in
    let begun : drop n lines ≡ line ∷ behind = sym all ∙ subst (λ (ls : List (ℕ × Bor (List ℕ))). take (length ls - n) (drop n ls) ≡ line ∷ behind) r left in (
      line_texts (take n lines),
      line.1.now,
      subst (λ (ls : List (ℕ × Bor (List ℕ))). All (λ (l : List ℕ). line_kind l ≡ Passed) (line_texts (take n ls))) f passed,
      word,
      ap line_texts (sym (take-append-drop n lines) ∙ ap (λ (rest : List (ℕ × Bor (List ℕ))). take n lines ++ rest) begun) ∙ map-append (λ (l : ℕ × Bor (List ℕ)). l.1.now) (take n lines) (line ∷ behind),
    )
