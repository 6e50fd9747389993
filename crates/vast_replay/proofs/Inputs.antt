-- What is read of an input, and what is printed of it.
use Rattle.std.proofs.Common.{◌≡◌, ◌==◌, ℕ, ◌<◌, ◌≤◌, Bool, true, false, cond, List, [], ◌∷◌, ◌++◌, length, drop, Option, Some, None, IfSome, Result, Ok, Err, IfOk, OnOk, Vec, Global, inl, inr, refl, sym, ap, subst, ◌∙◌, arith, append_assoc, append-nil}
use Rattle.std.proofs.KnownBytes.{Consumes-trans, Consumes-kept}
use Rattle.std.specs.Io.{StartsWith, appended_bytes}
use Rattle.std.specs.Io.KnownBytes.{Consumes, Keeps}
use Rattle.std.proofs.lemmas.Bool.{eqb-true, false≢true}
use Rattle.std.proofs.lemmas.List.{nil_from_length, take-append-drop}
use Rattle.std.proofs.lemmas.Option.{IfSome_then}
use Rattle.std.specs.Prelude.{IsTrue, if◌then◌else◌, is_ok, is_some, vec_len}
use Rattle.vast_list.specs.Built.{IsListText}
use Rattle.vast_calls.specs.Lines.{HasNoFeed, IsEnded, lines_of}
use Rattle.vast_list.specs.Output.{IsPrinted}
use Rattle.vast_list.specs.PackedLists.{IsPackedText}
use Rattle.vast_list.specs.Untitled.{GoesOnTo, HasTaken, IsPrintedOf}
use Rattle.vast_list.specs.declared.output.ListOutput.{ListOutput}
use Rattle.vast_list.specs.declared.untitled.UntitledList.{UntitledList}
use Rattle.vast_session.proofs.EndedLines.{first_of_left, line_ended, none_in_both}
use Rattle.vast_replay.specs.declared.input.InputLines.{InputLines}
use Rattle.vast_replay.specs.declared.input.ReadInput.{ReadInput}
use Rattle.vast_replay.specs.declared.input.ReadInput.TheVariants.{Bytes, List as OneList}
use Rattle.vast_replay.specs.Input.{GivesTaken, PrintsInput, WritesTaken, begins_with, unmarked}
use Rattle.vast_replay.specs.Internal.Input.{GivesTextOf, HasRead, ReadsInput, ReadsOn}

pub none_left : (left : Vec ℕ Global) → (vec_len left == 0) ≡ true → left.items ≡ []
none_left left none = nil_from_length left.items (sym left.ok.0 ∙ eqb-true left.len 0 none)

-- Lines that are read.

-- The lines after one that ends with a piece.
ended_lines :
    (bytes left piece more : List ℕ) (taken : List (List ℕ)) → HasNoFeed (left ++ piece) → ((more : List ℕ) → lines_of (bytes ++ more) ≡ taken ++ lines_of (left ++ more)) →
    lines_of ((bytes ++ (piece ++ 10 ∷ [])) ++ more) ≡ (taken ++ (left ++ piece) ∷ []) ++ lines_of more
ended_lines bytes left piece more taken none h =
    ap lines_of (append_assoc bytes (piece ++ 10 ∷ []) more ∙ ap (λ (rest : List ℕ). bytes ++ rest) (append_assoc piece (10 ∷ []) more))
    ∙ h (piece ++ 10 ∷ more)
    ∙ ap (λ (rest : List ℕ). taken ++ lines_of rest) (sym (append_assoc left piece (10 ∷ more)))
    ∙ ap (λ (lines : List (List ℕ)). taken ++ lines) (line_ended (left ++ piece) more none)
    ∙ sym (append_assoc taken ((left ++ piece) ∷ []) (lines_of more))

ends_line :
    (old new : InputLines) (piece line : List ℕ) → line ≡ old.left.items ++ piece → GoesOnTo old.list new.list line → new.left.items ≡ [] → HasNoFeed piece →
    ReadsOn old new (piece ++ 10 ∷ [])
ends_line old new piece line is goes left none_of bytes h =
    let none = none_in_both old.left.items piece h.none none_of in
    record {
      none = subst HasNoFeed (sym left) refl;
      taken = (
        h.taken.0 ++ line ∷ [],
        goes h.taken.0 h.taken.1,
        λ (more : List ℕ). ended_lines bytes old.left.items piece more h.taken.0 none h.taken.2
            ∙ (λ i. (h.taken.0 ++ sym is i ∷ []) ++ lines_of (sym left i ++ more)),
      );
    }

pub ends_piece :
    {A E : Type 0} (r : Result A E) (old new : InputLines) (piece : List ℕ) → old.left.items ≡ [] → OnOk r (GoesOnTo old.list new.list piece) → new.left ≡ old.left →
    OnOk r (HasNoFeed piece → ReadsOn old new (piece ++ 10 ∷ []))
ends_piece (Ok a) old new piece left goes same = λ none_of.
    ends_line old new piece piece (ap (λ (l : List ℕ). l ++ piece) (sym left)) goes (ap (λ (l : Vec ℕ Global). l.items) same ∙ left) none_of
ends_piece (Err e) old new piece left goes same = tt

pub ends_left :
    {A E : Type 0} (r : Result A E) (old new : InputLines) (piece left : List ℕ) → left ≡ old.left.items ++ piece → OnOk r (GoesOnTo old.list new.list left) → OnOk r (new.left.items ≡ []) →
    OnOk r (HasNoFeed piece → ReadsOn old new (piece ++ 10 ∷ []))
ends_left (Ok a) old new piece left is goes none = λ none_of. ends_line old new piece left is goes none none_of
ends_left (Err e) old new piece left is goes none = tt

keeps_rest : (old new : InputLines) (rest : List ℕ) → HasNoFeed rest → new.list ≡ old.list → new.left.items ≡ old.left.items ++ rest → ReadsOn old new rest
keeps_rest old new rest none_of same left bytes h = record {
  none = subst HasNoFeed (sym left) (none_in_both old.left.items rest h.none none_of);
  taken = (
    h.taken.0,
    subst (λ (list : UntitledList). HasTaken h.taken.0 list) (sym same) h.taken.1,
    λ (more : List ℕ). ap lines_of (append_assoc bytes rest more) ∙ h.taken.2 (rest ++ more)
        ∙ ap (λ (bs : List ℕ). h.taken.0 ++ lines_of bs) (sym (append_assoc old.left.items rest more) ∙ ap (λ (l : List ℕ). l ++ more) (sym left)),
  );
}

pub reads_both : (old between new : InputLines) (front back : List ℕ) → ReadsOn old between front → ReadsOn between new back → ReadsOn old new (front ++ back)
reads_both old between new front back f b bytes h =
    subst (HasRead new) (append_assoc bytes front back) (b (bytes ++ front) (f bytes h))

-- Of the bytes some front was read, and this is left.
abbrev pub ReadsUpTo : (old new : InputLines) → (bytes rest : List ℕ) → Type 0
ReadsUpTo old new bytes rest = (front : List ℕ) × (bytes ≡ front ++ rest) × ReadsOn old new front

pub one_more :
    (start old new : InputLines) (bytes rest piece behind : List ℕ) → ReadsUpTo start old bytes rest → IsEnded rest piece behind → (HasNoFeed piece → ReadsOn old new (piece ++ 10 ∷ [])) →
    ReadsUpTo start new bytes behind
one_more start old new bytes rest piece behind (front, is, read) ended more = (
  front ++ (piece ++ 10 ∷ []),
  is ∙ ap (λ (r : List ℕ). front ++ r) (ended.1 ∙ sym (append_assoc piece (10 ∷ []) behind)) ∙ sym (append_assoc front (piece ++ 10 ∷ []) behind),
  reads_both start old new front (piece ++ 10 ∷ []) read (more ended.0),
)

pub last_more :
    {A E : Type 0} (r : Result A E) (start old new : InputLines) (bytes rest : List ℕ) → ReadsUpTo start old bytes rest → HasNoFeed rest → new.list ≡ old.list →
    new.left.items ≡ (if is_ok r then old.left.items ++ rest else old.left.items) → OnOk r (ReadsOn start new bytes)
last_more (Ok a) start old new bytes rest (front, is, read) none_of same left =
    subst (ReadsOn start new) (sym is) (reads_both start old new front rest read (keeps_rest old new rest none_of same left))
last_more (Err e) start old new bytes rest upto none_of same left = tt

-- What a reader gives.

pub more_given :
    (start old new : InputLines) (a b c : Option (List ℕ)) (more : List ℕ) → ReadsInput start old a b → Consumes b c more → ReadsOn old new more → ReadsInput start new a c
more_given start old new a b c more (front, given, read) gives reads =
    (front ++ more, Consumes-trans a b c front more given gives, reads_both start old new front more read reads)

pub still_given : (start old : InputLines) (a b c : Option (List ℕ)) → ReadsInput start old a b → Keeps b c → ReadsInput start old a c
still_given start old a b c (front, given, read) kept = (front, Consumes-kept a b c front given kept, read)

-- What the list gives in the end.

all_lines : (bytes left : List ℕ) (taken : List (List ℕ)) → ((more : List ℕ) → lines_of (bytes ++ more) ≡ taken ++ lines_of (left ++ more)) → lines_of bytes ≡ taken ++ lines_of left
all_lines bytes left taken h = ap lines_of (sym (append-nil bytes)) ∙ h [] ∙ ap (λ (l : List ℕ). taken ++ lines_of l) (append-nil left)

-- The text is that of the lines that were taken, where nothing is left.
pub text_of_taken :
    {E : Type 0} (r : Result ListOutput E) (start now : InputLines) → now ≡ start → start.left.items ≡ [] → IfOk r (IsPrintedOf now.list) → IfOk r (GivesTextOf start)
text_of_taken (Ok made) start now same left printed = λ bytes h.
    let all = all_lines bytes start.left.items h.taken.0 h.taken.2 ∙ ap (λ (l : List ℕ). h.taken.0 ++ lines_of l) left ∙ append-nil h.taken.0 in
    subst (λ (lines : List (List ℕ)). IfSome made.output (λ text. IsListText false lines text.items)) (sym all)
    (subst (λ (n : InputLines). IsPrintedOf n.list made) same printed h.taken.0 h.taken.1)
text_of_taken (Err e) start now same left printed = tt

-- What is left is a line more.
pub text_of_left :
    {E : Type 0} (r : Result ListOutput E) (start next now : InputLines) → now ≡ next → 0 < length start.left.items → GoesOnTo start.list next.list start.left.items → IfOk r (IsPrintedOf now.list) →
    IfOk r (GivesTextOf start)
text_of_left (Ok made) start next now same some goes printed = λ bytes h.
    let left = start.left.items in
    let all = all_lines bytes left h.taken.0 h.taken.2 ∙ ap (λ (lines : List (List ℕ)). h.taken.0 ++ lines) (first_of_left left some h.none) in
    subst (λ (lines : List (List ℕ)). IfSome made.output (λ text. IsListText false lines text.items)) (sym all)
    (subst (λ (n : InputLines). IsPrintedOf n.list made) same printed (h.taken.0 ++ left ∷ []) (goes h.taken.0 h.taken.1))
text_of_left (Err e) start next now same some goes printed = tt

-- The front of an input shows whether it begins with a byte order mark.

mark_at : (is_marked : Bool) (a b c : ℕ) (front rest : List ℕ) → cond is_marked (front ++ rest) (a ∷ b ∷ c ∷ (front ++ rest)) ≡ cond is_marked front (a ∷ b ∷ c ∷ front) ++ rest
mark_at true a b c front rest = refl
mark_at false a b c front rest = refl

same_mark : (front rest : List ℕ) → 6 ≤ length front → unmarked (front ++ rest) ≡ unmarked front ++ rest
same_mark [] rest six = absurd (omega (arith, six))
same_mark (a ∷ []) rest six = absurd (omega (arith, six))
same_mark (a ∷ b ∷ []) rest six = absurd (omega (arith, six))
same_mark (a ∷ b ∷ c ∷ front) rest six = mark_at (begins_with (239 ∷ 187 ∷ 191 ∷ []) (a ∷ b ∷ c ∷ [])) a b c front rest

-- What the one list of a short input gives.
pub short_taken :
    (a b : Option (List ℕ)) (front : List ℕ) (old new : InputLines) (made : ListOutput) → Consumes a b front → HasRead old [] → ReadsOn old new (unmarked front) → IsPrinted made → GivesTextOf new made →
    GivesTaken a b (OneList made)
short_taken a b front old new made f none read printed text = (front, f, (printed, IfSome_then made.output (text (unmarked front) (read [] none)) (λ output is. inl is)))

pub long_taken :
    (a b c : Option (List ℕ)) (front : List ℕ) (old between new : InputLines) (made : ListOutput) → 6 ≤ length front → Consumes a b front → HasRead old [] → ReadsOn old between (unmarked front) →
    ReadsInput between new b c → IsPrinted made → GivesTextOf new made → GivesTaken a c (OneList made)
long_taken a b c front old between new made six f none read (more, m, reads) printed text = (
  front ++ more,
  Consumes-trans a b c front more f m,
  (
    printed,
    IfSome_then made.output (subst (λ (bytes : List ℕ). IfSome made.output (λ text. IsListText false (lines_of bytes) text.items)) (sym (same_mark front more six))
        (text (unmarked front ++ more) (reads (unmarked front) (read [] none))))
        (λ output is. inl is),
  ),
)

-- What a packed list gives, of which the front was read and then the rest.
pub packed_taken :
    (a b c : Option (List ℕ)) (front input : List ℕ) (made : ListOutput) → Consumes a b front → StartsWith input front → Consumes b c (appended_bytes front input) → IsPrinted made →
    IfSome made.output (λ text. IsPackedText input text.items) → GivesTaken a c (OneList made)
packed_taken a b c front input made f is more printed text =
    let whole : front ++ appended_bytes front input ≡ input =
    ap (λ (bytes : List ℕ). bytes ++ drop (length front) input) (sym is) ∙ take-append-drop (length front) input in
    (input, subst (Consumes a c) whole (Consumes-trans a b c front (appended_bytes front input) f more), (printed, IfSome_then made.output text (λ output is. inr is)))

-- What is written of it.

both : {X : Type 0} (o : Option X) {P Q : X → Type 0} → IsTrue (is_some o) → IfSome o P → IfSome o Q → (x : X) × P x × Q x
both (Some x) some p q = (x, p, q)
both None some p q = absurd (false≢true some)

pub prints_input : (a c old new : Option (List ℕ)) (taken : ReadInput) → GivesTaken a c taken → WritesTaken taken old new → PrintsInput a c old new
prints_input a c old new (Bytes bytes) (input, given, header) writes = (input, given, λ none. absurd (false≢true (sym none ∙ header)))
prints_input a c old new (OneList made) (input, given, taken) writes =
    let written = writes taken.0 in
    let text = both made.output written.0 written.1 taken.1 in
    (input, given, λ _. (text.0.items, text.1, text.2))
