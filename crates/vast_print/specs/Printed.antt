-- What a tree prints: a text, and the first refusal in the order of the text where there is one.
use Rattle.std.specs.Prelude.{ℕ, List, [], ◌∷◌, ◌++◌, Bool, true, false, Option, Some, None, codes}
use Rattle.vast_print.specs.declared.refusal.Refusal.{Refusal}
use Rattle.vast_print.specs.declared.refusal.Refusal.TheVariants.{ScalarIndex, ScalarSlice}

-- A text, and the first refusal in its order where there is one.
pub record Printed : Type 0 where
  pub text : List ℕ
  pub fault : Option Refusal

unfoldable pub refusal_text : Refusal → List ℕ
refusal_text ScalarIndex = codes "a scalar signal can only be indexed with zero"
refusal_text ScalarSlice = codes "a scalar signal can only be sliced at [0:0]"

-- the refusal that stands first
abbrev pub first_fault : Option Refusal → Option Refusal → Option Refusal
first_fault None later = later
first_fault (Some r) later = Some r

-- a text as it stands
unfoldable pub plain_text : List ℕ → Printed
plain_text w = record { text = w; fault = None }

-- the same text, refused
unfoldable pub refused : Refusal → Printed → Printed
refused r p = record { text = p.text; fault = Some r }

-- one text after another
infixl 60 ◌⊕◌
unfoldable pub ◌⊕◌ : Printed → Printed → Printed
p ⊕ q = record { text = p.text ++ q.text; fault = first_fault p.fault q.fault }

-- a text in parentheses, where it needs them
unfoldable pub wrapped : Bool → Printed → Printed
wrapped true p = plain_text (codes "(") ⊕ p ⊕ plain_text (codes ")")
wrapped false p = p

-- a part with the space that parts it from the next; an empty part has none
abbrev pub gapped : List ℕ → Printed → Printed
gapped [] p = p
gapped (c ∷ w) p = p ⊕ plain_text (codes " ")

unfoldable pub spaced : Printed → Printed
spaced p = gapped p.text p
