-- Whether the file of a list is plain.
use Rattle.std.proofs.Common.{◌≡◌, ℕ, ◌+◌, ◌<◌, List, [], ◌∷◌, ◌++◌, Bor, Ok, Err, Some, None, Result, ap, drop, false, get_or, length, refl, subst, sym, take, true, ◌∙◌, ◌≤◌}
use Rattle.std.proofs.lemmas.List.{append_assoc, map-append, take-append-drop, take_all}
use Rattle.std.specs.Prelude.{Bool, IfOk, IfSome, Option, is_some}
use Rattle.std.specs.declared.alloc.AllocError.{AllocError}
use Rattle.vast_literal.specs.declared.kind.VastFileType.{VastFileType}
use Rattle.vast_list.specs.declared.answering.ListRun.{ListRun}
use Rattle.vast_list.specs.declared.plainness.Plainness.{Plainness}
use Rattle.vast_list.specs.declared.plainness.Plainness.TheVariants.{Plain, NotPlain}
use Rattle.vast_list.specs.Built.{HasBuilt}
use Rattle.vast_calls.specs.Lines.{BeginsWithDialect, line_texts}
use Rattle.vast_list.specs.PlainLists.{BuildPlain, PlainnessOf}
use Rattle.vast_list.specs.Untitled.{HasAnswered}
use Rattle.vast_list.specs.Internal.Output.{TakesOn}
use Rattle.vast_list.specs.Internal.PlainLists.{IsMadePlain, IsToldNotPlain, IsToldPlain}
use Rattle.vast_calls.specs.Written.{meaning}
use Rattle.vast_session.proofs.Dialects.{texts-more}
use Rattle.vast_list.proofs.UntitledLists.{answered-more, answered_first}

-- Lines that were taken, with nothing at fault, build what there is.
build_plain : (is_plain : Bool) (lines : List (List ℕ)) (answering : ListRun) → HasAnswered lines answering → IsMadePlain is_plain answering → BuildPlain is_plain lines
build_plain is_plain lines answering h made =
    let was = h.built made.0 in
    (was.0, was.1, was.2, answering.session.file, answering.session.answers.items, meaning answering.session.names, was.3.0, made.1)

told_plain : (lines : List (List ℕ)) (answering : ListRun) (told : Plainness) → HasAnswered lines answering → IsToldPlain answering told → PlainnessOf told lines
told_plain lines answering Plain h made = build_plain true lines answering h made
told_plain lines answering (NotPlain number call) h made = absurd made

told_not_plain :
    (before : List (List ℕ)) (line : List ℕ) (behind : List (List ℕ)) (answering : ListRun) (told : Plainness) → HasAnswered (before ++ line ∷ []) answering → IsToldNotPlain answering line told →
    PlainnessOf told ((before ++ line ∷ []) ++ behind)
told_not_plain before line behind answering Plain h made = absurd made
told_not_plain before line behind answering (NotPlain number call) h made = (before, line, behind, refl, made.0, build_plain false (before ++ line ∷ []) answering h made.1)

-- One line more was taken, after these.
answered_next :
    (before : List (List ℕ)) (lines : List (ℕ × Bor (List ℕ))) (i : ℕ) (line : ℕ × Bor (List ℕ)) (old new : ListRun) → i < length lines → line ≡ get_or lines i line →
    HasAnswered (before ++ line_texts (take i lines)) old → TakesOn old new line.1.now → HasAnswered ((before ++ line_texts (take i lines)) ++ line.1.now ∷ []) new
answered_next before lines i line old new l at h on = answered-more (before ++ line_texts (take i lines)) line.1.now old new h on

lines_split :
    (before : List (List ℕ)) (lines : List (ℕ × Bor (List ℕ))) (i : ℕ) (line : ℕ × Bor (List ℕ)) → i < length lines → line ≡ get_or lines i line →
    ((before ++ line_texts (take i lines)) ++ line.1.now ∷ []) ++ line_texts (drop (i + 1) lines) ≡ before ++ line_texts lines
lines_split before lines i line l at =
    ap (λ (ls : List (List ℕ)). ls ++ line_texts (drop (i + 1) lines)) (append_assoc before (line_texts (take i lines)) (line.1.now ∷ []) ∙ ap (λ (ls : List (List ℕ)). before ++ ls) (sym (texts-more lines i line l at)))
    ∙ append_assoc before (line_texts (take (i + 1) lines)) (line_texts (drop (i + 1) lines))
    ∙ ap (λ (ls : List (List ℕ)). before ++ ls) (sym (map-append (λ (l : ℕ × Bor (List ℕ)). l.1.now) (take (i + 1) lines) (drop (i + 1) lines)) ∙ ap line_texts (take-append-drop (i + 1) lines))

pub taken_next :
    (before : List (List ℕ)) (lines : List (ℕ × Bor (List ℕ))) (i : ℕ) (line : ℕ × Bor (List ℕ)) (old new : ListRun) → i < length lines → line ≡ get_or lines i line →
    HasAnswered (before ++ line_texts (take i lines)) old → TakesOn old new line.1.now → HasAnswered (before ++ line_texts (take (i + 1) lines)) new
taken_next before lines i line old new l at h on =
    subst (λ (ls : List (List ℕ)). HasAnswered ls new)
    (append_assoc before (line_texts (take i lines)) (line.1.now ∷ []) ∙ ap (λ (ls : List (List ℕ)). before ++ ls) (sym (texts-more lines i line l at)))
    (answered_next before lines i line old new l at h on)

not_plain_next :
    (before : List (List ℕ)) (lines : List (ℕ × Bor (List ℕ))) (i : ℕ) (line : ℕ × Bor (List ℕ)) (old new : ListRun) (told : Plainness) → i < length lines → line ≡ get_or lines i line →
    HasAnswered (before ++ line_texts (take i lines)) old → TakesOn old new line.1.now → IsToldNotPlain new line.1.now told → PlainnessOf told (before ++ line_texts lines)
not_plain_next before lines i line old new told l at h on made =
    subst (λ (ls : List (List ℕ)). PlainnessOf told ls) (lines_split before lines i line l at)
    (told_not_plain (before ++ line_texts (take i lines)) line.1.now (line_texts (drop (i + 1) lines)) new told (answered_next before lines i line old new l at h on) made)

weaker :
    (found : Result (Option Plainness) AllocError) (P Q : Plainness → Type 0) → ((told : Plainness) → P told → Q told) → IfOk found (λ (it : Option Plainness). IfSome it P) →
    IfOk found (λ (it : Option Plainness). IfSome it Q)
weaker (Err e) P Q f h = tt
weaker (Ok None) P Q f h = tt
weaker (Ok (Some told)) P Q f h = f told h

pub found_not_plain :
    (before : List (List ℕ)) (lines : List (ℕ × Bor (List ℕ))) (i : ℕ) (line : ℕ × Bor (List ℕ)) (old new : ListRun) (found : Result (Option Plainness) AllocError) → i < length lines →
    line ≡ get_or lines i line → HasAnswered (before ++ line_texts (take i lines)) old → TakesOn old new line.1.now → IfOk found (λ (it : Option Plainness). IfSome it (IsToldNotPlain new line.1.now)) →
    IfOk found (λ (it : Option Plainness). IfSome it (λ told. PlainnessOf told (before ++ line_texts lines)))
found_not_plain before lines i line old new found l at h on told =
    weaker found (IsToldNotPlain new line.1.now) (λ told. PlainnessOf told (before ++ line_texts lines)) (λ told made. not_plain_next before lines i line old new told l at h on made) told

pub found_plain :
    (before : List (List ℕ)) (lines : List (ℕ × Bor (List ℕ))) (i : ℕ) (answering : ListRun) (found : Result (Option Plainness) AllocError) → length lines ≤ i →
    HasAnswered (before ++ line_texts (take i lines)) answering → IfOk found (λ (it : Option Plainness). IfSome it (IsToldPlain answering)) →
    IfOk found (λ (it : Option Plainness). IfSome it (λ told. PlainnessOf told (before ++ line_texts lines)))
found_plain before lines i answering found l h told =
    weaker found (IsToldPlain answering) (λ told. PlainnessOf told (before ++ line_texts lines))
    (λ told made. told_plain (before ++ line_texts lines) answering told (subst (λ (ls : List (ℕ × Bor (List ℕ))). HasAnswered (before ++ line_texts ls) answering) (take_all i lines l) h) made) told

-- What is told of the list whose lines begin with the dialect's.
pub told_of_list :
    (lines behind : List (List ℕ)) (dialect : VastFileType) (answering : ListRun) (found : Result (Option Plainness) AllocError) →
    ((before : List (List ℕ)) → HasAnswered before answering → IfOk found (λ (it : Option Plainness). IfSome it (λ told. PlainnessOf told (before ++ behind)))) →
    BeginsWithDialect lines dialect behind → is_some answering.trial ≡ false → answering.is_stopped ≡ false → HasBuilt false dialect [] answering.session →
    IfOk found (λ (it : Option Plainness). IfSome it (λ told. PlainnessOf told lines))
told_of_list lines behind dialect answering found told begun trial going built =
    subst (λ (ls : List (List ℕ)). IfOk found (λ (it : Option Plainness). IfSome it (λ told. PlainnessOf told ls))) (append_assoc begun.0 (begun.1 ∷ []) behind ∙ sym begun.4)
    (told (begun.0 ++ begun.1 ∷ []) (answered_first begun.1 dialect answering begun.3 trial going built begun.0 begun.2))
