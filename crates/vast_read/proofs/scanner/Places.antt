-- Places of a text between its tokens.
use Rattle.std.proofs.Common.{◌≡◌, ◌≢◌, true, List, ℕ, [], ◌∷◌, ◌++◌, Option, None, refl, sym, ap, subst, ◌∙◌, append_assoc}
use Rattle.std.specs.Option.{MatchOption}
use Rattle.vast_literal.specs.Scan.{is_space}
use Rattle.vast_literal.specs.Lexemes.{space, comment}
use Rattle.vast_read.specs.Behind.{Behind, none_before, lexeme, apostrophe}
use Rattle.vast_read.specs.Places.{BeginsWithoutGap}
use Rattle.vast_read.specs.Internal.Scanner.{byte_at}

-- what stands after some lexemes of a text ends it
pub behind_suffix : (text rest : List ℕ) → Behind text rest → (before : List ℕ) × (text ≡ before ++ rest)
behind_suffix text rest none_before = ([], refl)
behind_suffix text rest (lexeme {front} {behind} l m h) =
    let s = behind_suffix behind rest h in
    (front ++ s.0, ap (λ x. front ++ x) s.1 ∙ sym (append_assoc front s.0 rest))
behind_suffix text rest (apostrophe {c} {behind} l h) =
    let s = behind_suffix (c ∷ behind) rest h in
    (39 ∷ s.0, ap (λ x. 39 ∷ x) s.1)

pub no_other_rest : {T : Type 0} (P : T → Type 0) (text rest : List ℕ) → (before : List ℕ) × (text ≡ before ++ rest) → (o : Option T) → o ≡ None → MatchOption o ((before : List ℕ) → text ≢ before ++ rest) P → ⊥
no_other_rest P text rest s o e n = subst (λ x. MatchOption x ((before : List ℕ) → text ≢ before ++ rest) P) e n s.0 s.1

-- where no byte of white space and no two slashes stand at the front, no lexeme without a token does
pub no_gap : (text : List ℕ) → (is_space (byte_at text 0) ≡ true → ⊥) → (byte_at text 0 ≡ 47 → byte_at text 1 ≡ 47 → ⊥) → BeginsWithoutGap text
no_gap text n m front behind e (space {c} s) = n (rw e s)
no_gap text n m front behind e (comment {line} s) = m (rw e refl) (rw e refl)
