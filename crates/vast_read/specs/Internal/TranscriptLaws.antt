-- Laws of what is written one after the other, for who hears it.
use Rattle.std.proofs.Common.{◌≡◌, ◌∙◌, Option, Some, None, List, ◌++◌, refl, sym, ap, subst, append_assoc, append-nil}
use Rattle.std.proofs.lemmas.List.{append_cancel_left, map-append}
use Rattle.std.proofs.lemmas.Grind.{flat_map-append}
use Rattle.vast_rows.specs.Events.{Event}
use Rattle.vast_read.specs.Internal.Transcripts.{Entry, Written, nothing_written, joined, written, note_of, texts_of, entries_in, entries, Follows}

same_written : (u v : Written) → u.notes ≡ v.notes → u.texts ≡ v.texts → u ≡ v
same_written u v n w = ap (λ ns. record { notes = ns; texts = u.texts }) n ∙ ap (λ ws. record { notes = v.notes; texts = ws }) w

pub joined_assoc : (u v w : Written) → joined (joined u v) w ≡ joined u (joined v w)
joined_assoc u v w = same_written _ _ (append_assoc u.notes v.notes w.notes) (append_assoc u.texts v.texts w.texts)

pub joined_nothing : (u : Written) → joined u nothing_written ≡ u
joined_nothing u = same_written _ _ (append-nil u.notes) (append-nil u.texts)

pub joined_cancel : (u v w : Written) → joined u v ≡ joined u w → v ≡ w
joined_cancel u v w e = same_written _ _ (append_cancel_left u.notes v.notes w.notes (ap (λ x. x.notes) e)) (append_cancel_left u.texts v.texts w.texts (ap (λ x. x.texts) e))

pub written_both : (es fs : List Entry) → written (es ++ fs) ≡ joined (written es) (written fs)
written_both es fs = same_written _ _ (map-append note_of es fs) (flat_map-append texts_of es fs)

pub written_joined : (es fs : List Event) → written (entries (es ++ fs)) ≡ joined (written (entries es)) (written (entries fs))
written_joined es fs = ap written (flat_map-append entries_in es fs) ∙ written_both (entries es) (entries fs)

pub adds_nothing : (u : Written) → u ≡ joined u nothing_written
adds_nothing u = sym (joined_nothing u)

pub adds_joined : (u v w first second : Written) → v ≡ joined u first → w ≡ joined v second → w ≡ joined u (joined first second)
adds_joined u v w first second a b = b ∙ (ap (λ x. joined x second) a ∙ joined_assoc u first second)

pub follows_nothing : (o : Option Written) → Follows o nothing_written o
follows_nothing None = refl
follows_nothing (Some u) = refl

pub follows_joined : (o p q : Option Written) (first second : Written) → Follows o first p → Follows p second q → Follows o (joined first second) q
follows_joined None p q first second a b = let c : Follows None second q = subst (λ v. Follows v second q) a b in c
follows_joined (Some u) None q first second a b = let c : Follows (Some u) (joined first second) None = λ w e. a (joined second w) (e ∙ joined_assoc first second w) in
    subst (λ v. Follows (Some u) (joined first second) v) (sym b) c
follows_joined (Some u) (Some v) None first second a b = λ w e. b w (joined_cancel first v (joined second w) (sym a ∙ (e ∙ joined_assoc first second w)))
follows_joined (Some u) (Some v) (Some w) first second a b = a ∙ (ap (joined first) b ∙ sym (joined_assoc first second w))
