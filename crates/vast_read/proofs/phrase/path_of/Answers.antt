use Rattle.std.proofs.Common.{[], ◌∷◌, ◌++◌, arith}
use Rattle.std.proofs.lemmas.Str.Pattern.{strip_prefix_char, strip_suffix_char}
use Rattle.vast_read.proofs.Paths.{unquoted}
use Rattle.vast_read.proofs.phrase.path_of.Goals as goal

pub returns-in-None : goal.returns-in-None
returns-in-None c = let none = rw c.in-None.is at (strip_prefix_char 34 _ _ c.strip_prefix.ensures.cases (omega arith)) in λ p. none (p ++ (34 ∷ []))

pub returns-in-Some : goal.returns-in-Some
returns-in-Some c =
    let opened = rw c.in-Some.is at (strip_prefix_char 34 _ _ c.strip_prefix.ensures.cases (omega arith)) in
    unquoted (λ p. p.now) c.args.text.now c.in-Some.rest.now c.strip_suffix.result opened (strip_suffix_char 34 _ _ c.strip_suffix.ensures.cases (omega arith))
