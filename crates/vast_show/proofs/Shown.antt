-- A text that is a file's was written.
use Rattle.std.proofs.Common.{List, ℕ, Option, Result, Ok, Err, IfOk, String, Global, string_bytes}
use Rattle.std.specs.Prelude.{MatchResult}
use Rattle.std.specs.Io.KnownBytes.{Appends}
use Rattle.vast_print.specs.Layout.{IsFileText}
use Rattle.vast_show.specs.Shown.{ShowsFile}

pub shown : {E : Type 0} (r : Result (String Global) E) (old new : Option (List ℕ)) → IfOk r (λ t. IsFileText (string_bytes t)) → MatchResult r (λ t. Appends old new (string_bytes t)) (λ _. ⊥) → ShowsFile old new
shown (Ok t) old new file written = (string_bytes t, file, written)
shown (Err e) old new file written = absurd written
