-- Lines with their numbers before them.
use Rattle.std.proofs.Common.{◌≡◌, ℕ, ◌+◌, ◌<◌, List, [], ◌∷◌, ◌++◌, length, take, get_or, sym, ap, ◌∙◌}
use Rattle.std.proofs.lemmas.Grind.{flat_map-append}
use Rattle.std.proofs.lemmas.List.{append-nil, append_assoc, take_more}
use Rattle.std.specs.Fmt.{decimal}
use Rattle.vast_list.specs.declared.origins.TextLine.{TextLine}
use Rattle.vast_list.specs.Origins.{numbered}

numbered_one : (line : TextLine) → numbered (line ∷ []) ≡ decimal line.origin ++ 9 ∷ line.bytes.items
numbered_one line = append-nil (decimal line.origin ++ 9 ∷ line.bytes.items)

-- One line more was appended.
pub more_numbered :
    (lines : List TextLine) (before old numeral counted new : List ℕ) (place : ℕ) (line : TextLine) → place < length lines → line ≡ get_or lines place line → old ≡ before ++ numbered (take place lines) →
    numeral ≡ decimal line.origin ++ 9 ∷ [] → counted ≡ old ++ numeral → new ≡ counted ++ line.bytes.items → new ≡ before ++ numbered (take (place + 1) lines)
more_numbered lines before old numeral counted new place line b i o m c n =
    let number = decimal line.origin in
    let text = line.bytes.items in
    let all = numbered (take place lines) in
    let more : numbered (take (place + 1) lines) ≡ all ++ (number ++ 9 ∷ text) =
    ap numbered (take_more lines place line b ∙ ap (λ (l : TextLine). take place lines ++ l ∷ []) (sym i))
    ∙ flat_map-append (λ (l : TextLine). decimal l.origin ++ 9 ∷ l.bytes.items) (take place lines) (line ∷ [])
    ∙ ap (λ (xs : List ℕ). all ++ xs) (numbered_one line) in
    n
    ∙ ap (λ (xs : List ℕ). xs ++ text) (c ∙ (λ k. o k ++ m k))
    ∙ append_assoc (before ++ all) (number ++ 9 ∷ []) text
    ∙ ap (λ (xs : List ℕ). (before ++ all) ++ xs) (append_assoc number (9 ∷ []) text)
    ∙ append_assoc before all (number ++ 9 ∷ text)
    ∙ ap (λ (xs : List ℕ). before ++ xs) (sym more)
