-- Phrases of the rows of the grammar, as they are read.
use Rattle.std.specs.Prelude.{List, Bool, cond, Option, Some, None}
use Rattle.vast_literal.specs.Tokens.{Token}
use Rattle.vast_literal.specs.NormalExpr.{NormalExpr}
use Rattle.vast_rows.specs.Internal.Sources.{HasRead, HasNone}
use Rattle.vast_rows.specs.Phrases.{Meaning, IsExpression, IsLoop, IsPath}
use Rattle.vast_rows.specs.declared.grammar.Phrase.{Phrase}
use Rattle.vast_rows.specs.declared.grammar.Phrase.TheVariants.{Expression, Target}
use Rattle.vast_read.specs.declared.phrase.Made.{Made}
use Rattle.vast_read.specs.declared.phrase.Made.TheVariants as made

-- What was made of a phrase, as what it means.
abbrev pub meaning_of : {E : Type 0} → (E → NormalExpr) → Made E → Meaning
meaning_of tree (made.Expression x) = IsExpression (tree x)
meaning_of tree (made.Loop i x e) = IsLoop i.now (tree x) (tree e)
meaning_of tree (made.Path p) = IsPath p.now

-- An expression, or what is assigned to.
abbrev pub phrase_of : (is_target : Bool) → Phrase
phrase_of is_target = cond is_target Target Expression

-- A phrase was read, or none stands there.
abbrev pub ReadsPhrase : {E : Type 0} → (E → NormalExpr) → Phrase → Option (Made E) → List Token → List Token → Type 0
ReadsPhrase tree phrase None ts us = HasNone phrase ts
ReadsPhrase tree phrase (Some m) ts us = HasRead phrase ts (meaning_of tree m) us
