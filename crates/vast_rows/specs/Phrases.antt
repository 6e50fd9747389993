-- Phrases: what rows take from a reader of its own.
use Rattle.std.specs.Prelude.{ℕ, List, [], ◌∷◌, ◌++◌}
use Rattle.vast_rows.specs.Numbers.{Less}
use Rattle.vast_literal.specs.Tokens.{Token, Quoted}
use Rattle.vast_literal.specs.NormalExpr.{NormalExpr, Name, Binary}
use Rattle.vast_literal.specs.Grammar.{Spells}
use Rattle.vast_literal.specs.Shape.{counting}
use Rattle.vast_rows.specs.declared.grammar.Phrase.{Phrase}
use Rattle.vast_rows.specs.declared.grammar.Phrase.TheVariants.{Expression, Target, LoopHead, Path}

-- What a phrase says: an expression; the variable of a loop, its start and its end; a path.
pub data Meaning : Type 0 where
  IsExpression : NormalExpr → Meaning
  IsLoop : (variable : List ℕ) (start end : NormalExpr) → Meaning
  IsPath : List ℕ → Meaning

-- Which tokens are a phrase of the grammar of files, and what it means.
pub data IsPhrase : Phrase → List Token → Meaning → Type 0 where
  expression : {ts : List Token} {x : NormalExpr} → Spells 0 ts x → IsPhrase Expression ts (IsExpression x)
  target : {ts : List Token} {x : NormalExpr} → Spells 13 ts x → IsPhrase Target ts (IsExpression x)
  -- i = X ; i < e ; i = i + 1 )
  loop_head : {xs cs : List Token} {x e : NormalExpr} (i : List ℕ) → Spells 0 xs x → Spells 0 cs (Binary Less (Name i) e) →
      IsPhrase LoopHead (counting i xs cs []) (IsLoop i x e)
  -- "path"
  path : (p : List ℕ) → IsPhrase Path (Quoted (34 ∷ (p ++ (34 ∷ []))) ∷ []) (IsPath p)
