-- What is known of a rule, by its number.
use Rattle.std.specs.Prelude.{ℕ, suc, zero, Bool, List, [], ◌∷◌, map, false}
use Rattle.vast_rows.specs.declared.grammar.Fact as code

-- What the author of rows knows of a rule: what begins it, or what follows it if it is empty; what may follow it; whether it may
-- be empty; a rank above that of the rules that begin it; and its first row.
pub record Fact : Type 0 where
  pub begins : ℕ
  pub follow : ℕ
  pub empty : Bool
  pub rank : ℕ
  pub first_row : ℕ

abbrev pub fact_in : List Fact → ℕ → Fact
fact_in [] rule = record { begins = 0; follow = 0; empty = false; rank = 0; first_row = 0 }
fact_in (f ∷ fs) zero = f
fact_in (f ∷ fs) (suc rule) = fact_in fs rule

abbrev pub fact_view : code.Fact → Fact
fact_view f = record { begins = f.begins; follow = f.follow; empty = f.empty; rank = f.rank; first_row = f.first_row }

abbrev pub facts_view : List code.Fact → List Fact
facts_view facts = map fact_view facts
