-- What is made of the parts of a file, from the right.
use Rattle.std.proofs.Common.{◌≡◌, List, [], ◌∷◌, ◌++◌, Option, Some, None, map, reverse, refl, sym, ap, ◌∙◌, subst, append_assoc, append-nil}
use Rattle.std.proofs.lemmas.List.{reverse-append, map-append}
use Rattle.std.proofs.lemmas.Option.{same_Some}
use Rattle.vast_literal.specs.NormalFile as normal
use Rattle.vast_literal.specs.NormalFile.{Or}
use Rattle.vast_rows.specs.Built.{Seen, SeenFile, and_then, happens, built}
use Rattle.vast_rows.specs.Events.{Event}
use Rattle.vast_rows.specs.Trace.{trace}
use Rattle.vast_rows.proofs.Builds.{trace_builds}
use Rattle.vast_read.specs.Internal.Made.{Grown, events_heard, denoted, told_event}
use Rattle.vast_read.specs.Internal.StatementView.{arm_view}
use Rattle.vast_read.specs.StatementParts.{ChoicePart, arms_of}
use Rattle.vast_read.specs.declared.made.heard.Told.{Told}
use Rattle.vast_read.specs.declared.made.value.Value.{Value}
use Rattle.vast_read.specs.declared.tree.statement.Arm.{Arm}

-- A list that grows from the right.

pub reverse_grown : {A : Type 0} (xs : List A) (x : A) → reverse (xs ++ (x ∷ [])) ≡ x ∷ reverse xs
reverse_grown xs x = reverse-append xs (x ∷ [])

-- Arms.

arms_more : (p q : ChoicePart) (xs : List ChoicePart) (last : Option normal.NormalStatements) → arms_of (p ∷ (xs ++ (q ∷ []))) last ≡ Or p.0 p.1 (arms_of (xs ++ (q ∷ [])) last)
arms_more p q [] last = refl
arms_more p q (x ∷ xs) last = refl

pub arms_grown : (before : List Arm) (a innermost : Arm) (last : Option normal.NormalStatements) →
    arms_of (map arm_view (reverse (before ++ (a ∷ [])) ++ (innermost ∷ []))) last ≡ Or (arm_view a).0 (arm_view a).1 (arms_of (map arm_view (reverse before ++ (innermost ∷ []))) last)
arms_grown before a innermost last = rw (reverse_grown before a, map-append arm_view (a ∷ reverse before) (innermost ∷ []), map-append arm_view (reverse before) (innermost ∷ [])) (arms_more (arm_view a) (arm_view innermost) (map arm_view (reverse before)) last)

-- What was heard, in order.

pub heard_more : (t : Told) (ts : List Told) → events_heard (t ∷ ts) ≡ events_heard ts ++ (told_event t ∷ [])
heard_more t ts = reverse-append (told_event t ∷ []) (map told_event ts)

-- What is built of it.

-- What was heard is what is still to come and some events after it, which built the values, where they built anything.
pub record Building (all left : List Told) (values : List Value) : Type 0 where
  pub after : List Event
  pub split : events_heard all ≡ events_heard left ++ after
  pub fits : (vs : List Seen) → built after ≡ Some vs → denoted values ≡ vs

pub begins_built : (all : List Told) → Building all all []
unfolding built
begins_built all = record { after = []; split = sym (append-nil (events_heard all)); fits = λ vs e. same_Some _ _ e }

happened : (before : Option (List Seen)) (f : List Seen → Option (List Seen)) (vs : List Seen) → and_then before f ≡ Some vs → (us : List Seen) × (before ≡ Some us) × (f us ≡ Some vs)
happened None f vs e = absurd (cc e)
happened (Some us) f vs e = (us, refl, e)

pub goes_on_built : (all left rest : List Told) (t : Told) (before now : List Value) → Building all left before → left ≡ t ∷ rest → Grown (happens (told_event t) (denoted before)) now → Building all rest now
unfolding built
goes_on_built all left rest t before now b e g = record {
  after = told_event t ∷ b.after;
  split = b.split ∙ (ap (λ (v : List Told). events_heard v ++ b.after) e ∙ (ap (λ (v : List Event). v ++ b.after) (heard_more t rest) ∙ append_assoc (events_heard rest) (told_event t ∷ []) b.after));
  fits = λ vs h. let x = happened (built b.after) (happens (told_event t)) vs h in
      let same : happens (told_event t) (denoted before) ≡ Some vs = ap (happens (told_event t)) (b.fits x.0 x.1) ∙ x.2 in
      subst (λ (o : Option (List Seen)). Grown o now) same g;
}

pub ends_built : (all left : List Told) (values : List Value) (t : normal.NormalFile) → Building all left values → left ≡ [] → events_heard all ≡ trace t [] → denoted values ≡ SeenFile t ∷ []
unfolding built
ends_built all left values t b e h =
    let after : b.after ≡ trace t [] = sym (b.split ∙ ap (λ (v : List Told). events_heard v ++ b.after) e) ∙ h in
    b.fits (SeenFile t ∷ []) (ap built after ∙ trace_builds t [] [] refl)

pub ruleset lists = (reverse_grown)

pub ruleset arms = (reverse_grown, arms_grown)

pub ruleset hears = (heard_more)
