-- Lists that begin with another.
use Rattle.std.proofs.Common.{◌≡◌, List, ◌++◌}

-- All of a list begins with a front, just where what is left of it begins with what is still wanted, before the same others.
pub record Leading {A : Type 0} (all front wanted rest : List A) : Type 0 where
  pub to : (others : List A) → all ≡ front ++ others → rest ≡ wanted ++ others
  pub from : (others : List A) → rest ≡ wanted ++ others → all ≡ front ++ others
