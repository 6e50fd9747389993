use Rattle.std.proofs.Common.{◌≡◌, ◌⊎◌, inl, inr, ℕ, List, subst}
use Rattle.vast_check.specs.Check.{AreSame}
use Rattle.vast_read.specs.Compared as read
use Rattle.vast_read.specs.declared.same.Comparison.{Comparison}
use Rattle.vast_read.specs.declared.same.Comparison.TheVariants.{Different, OldUnderived, NewUnderived}
use Rattle.vast_check.proofs.same.found_texts.Goals as goal

module _ (old new : List ℕ) (c : Comparison) where
  different : c ≡ Different → read.Compares c old new → AreSame old new → ⊥
  different e h (u, v, (t, a, b)) = (subst (λ (k : Comparison). read.Compares k old new) e h).2 t a b

  underived : (c ≡ OldUnderived) ⊎ (c ≡ NewUnderived) → read.Compares c old new → AreSame old new → ⊥
  underived (inl e) h (u, v, (t, a, b)) = (subst (λ (k : Comparison). read.Compares k old new) e h) t a
  underived (inr e) h (u, v, (t, a, b)) = (subst (λ (k : Comparison). read.Compares k old new) e h) t b

pub returns-in-Different : goal.returns-in-Different
returns-in-Different c = different c.args.texts.old.now c.args.texts.new.now c.in_ok-are_same.field-0 c.in-Different.is c.in_ok-are_same.ensures

pub returns-in-OldUnderived : goal.returns-in-OldUnderived
returns-in-OldUnderived c = underived c.args.texts.old.now c.args.texts.new.now c.in_ok-are_same.field-0 c.in-OldUnderived.is c.in_ok-are_same.ensures
