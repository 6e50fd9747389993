-- Beside `specs/Built.antt`: what private contracts and proofs say, and no public one.
use Rattle.std.specs.Prelude.{◌≡◌, ℕ, Bool, List}
use Rattle.vast_session.specs.declared.session.LineResult.{LineResult}
use Rattle.vast_session.specs.declared.session.Session.{Session}
use Rattle.vast_session.specs.Session.{Gives, IsGivenBy, IsSameKnown}
use Rattle.vast_list.specs.Built.{Between}

-- One line is taken; where memory was refused it, once more.
pub record TakesLine (again : Bool) (old new : Session) (line : List ℕ) : Type 0 where
  pub between : Session
  pub file : Between again old.file between.file
  pub answers : between.answers.items ≡ old.answers.items
  pub known : IsSameKnown old between
  pub given : LineResult
  pub gives : Gives between new line given
  pub is : IsGivenBy line given
