-- The parts of what is printed without a refusal, and the halves of a test of two.
use Rattle.std.proofs.Common.{◌≡◌, Bool, true, false, Option, Some, None, refl}
use Rattle.vast_literal.proofs.ScanLaws.{and_left, and_right}
use Rattle.vast_print.specs.declared.refusal.Refusal.{Refusal}
use Rattle.vast_print.specs.Printed.{Printed, first_fault, plain_text, refused, ◌⊕◌, wrapped}
use Rattle.vast_print.specs.Text.{elided}

pub first_none : (a b : Option Refusal) → first_fault a b ≡ None → (a ≡ None) × (b ≡ None)
first_none None b e = (refl, e)
first_none (Some r) b e = absurd (cc e)

pub first_assoc : (a b c : Option Refusal) → first_fault (first_fault a b) c ≡ first_fault a (first_fault b c)
first_assoc None b c = refl
first_assoc (Some r) b c = refl

pub wrapped_fine : (b : Bool) (p : Printed) → (wrapped b p).fault ≡ None → p.fault ≡ None
unfolding wrapped ◌⊕◌ plain_text
wrapped_fine true p e = (first_none p.fault None e).0
wrapped_fine false p e = e

pub elided_fine : (b : Bool) (r : Refusal) (p : Printed) → (elided b r p).fault ≡ None → (b ≡ true) × (p.fault ≡ None)
unfolding elided refused
elided_fine true r p e = (refl, e)
elided_fine false r p e = absurd (cc e)

pub elided_text : (b : Bool) (r : Refusal) (p : Printed) → (elided b r p).text ≡ p.text
unfolding elided refused
elided_text true r p = refl
elided_text false r p = refl

-- the halves of a test of two, and theirs
pub ruleset halves = (and_left, and_right)
