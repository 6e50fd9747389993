-- Beside `specs/Lines.antt`: what private contracts and proofs say, and no public one.
use Rattle.std.specs.Prelude.{ℕ, List, [], Option, Some, None}
use Rattle.std.specs.Borrow.{Bor}

-- What is left of a text, where anything is.
abbrev pub rest_text : Option (Bor (List ℕ)) → List ℕ
rest_text None = []
rest_text (Some rest) = rest.now
