-- Rows without phrases tell of none.
use Rattle.std.proofs.Common.{◌≡◌, ℕ, suc, zero, List, [], ◌∷◌, ◌++◌, Bool, true, false, Option, Some, None, refl}
use Rattle.std.specs.List.{slice_get}
use Rattle.vast_literal.specs.Tokens as tokens
use Rattle.vast_rows.specs.declared.action.Action.{Action}
use Rattle.vast_rows.specs.declared.grammar.Item.{Item}
use Rattle.vast_rows.specs.declared.grammar.Item.TheVariants.{Token, Rule, Phrase}
use Rattle.vast_rows.specs.Events.{Event, Makes, Reads, Names, name_of, made_by, named_by}
use Rattle.vast_rows.specs.Internal.Derives.{Derives, nothing, token, phrase, choice}
use Rattle.vast_rows.specs.Internal.Reaches.{plain_items, are_plain}
use Rattle.vast_rows.specs.Phrases.{Meaning}
use Rattle.vast_rows.specs.Rows.{Row}
use Rattle.vast_rows.proofs.Sets.{both, some_one}

plain_at : (xs : List Row) (i : ℕ) (row : Row) → are_plain xs ≡ true → slice_get xs i ≡ Some row → plain_items row.items ≡ true
plain_at [] i row h e = absurd (cc)
plain_at (x ∷ xs) zero row h e = let f : x ≡ row = some_one x row e in rw (← f) (both (plain_items x.items) (are_plain xs) h).0
plain_at (x ∷ xs) (suc i) row h e = plain_at xs i row (both (plain_items x.items) (are_plain xs) h).1 e

plain_over : (items s : List Item) → plain_items items ≡ true → plain_items s ≡ true → plain_items (items ++ s) ≡ true
plain_over [] s h e = e
plain_over (Token k ∷ items) s h e = plain_over items s h e
plain_over (Rule r ∷ items) s h e = plain_over items s h e
plain_over (Phrase p ∷ items) s h e = absurd (cc h)

abbrev pub no_reads : List Event → Bool
no_reads [] = true
no_reads (Makes a ∷ es) = no_reads es
no_reads (Names w ∷ es) = no_reads es
no_reads (Reads m ∷ es) = false

made_reads : (a : Option Action) (es : List Event) → no_reads es ≡ true → no_reads (made_by a es) ≡ true
made_reads (Some a) es h = h
made_reads None es h = h

named_reads : (n : Option (List ℕ)) (es : List Event) → no_reads es ≡ true → no_reads (named_by n es) ≡ true
named_reads (Some w) es h = h
named_reads None es h = h

pub plain_tells : {rows : List Row} {s : List Item} {ts : List tokens.Token} {es : List Event} → are_plain rows ≡ true → plain_items s ≡ true → Derives rows s ts es → no_reads es ≡ true
plain_tells p h nothing = refl
plain_tells p h (token {es = es} t e d) = named_reads (name_of t) es (plain_tells p h d)
plain_tells p h (phrase ps m i e d) = absurd (cc h)
plain_tells {rows} p h (choice {s = s} {es = es} n row at ruled d) = made_reads row.action es (plain_tells p (plain_over row.items s (plain_at rows n row p at) h) d)

pub never_read : (es fs : List Event) (m : Meaning) → no_reads (es ++ (Reads m ∷ fs)) ≡ true → ⊥
never_read [] fs m h = absurd (cc h)
never_read (Makes a ∷ es) fs m h = never_read es fs m h
never_read (Names w ∷ es) fs m h = never_read es fs m h
never_read (Reads n ∷ es) fs m h = absurd (cc h)
