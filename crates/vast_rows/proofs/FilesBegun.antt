-- What begins by the rows of the page begins a file.
use Rattle.std.proofs.Common.{◌≡◌, ℕ, List, [], Bool}
use Rattle.vast_literal.specs.FileGrammar.{file, no_items}
use Rattle.vast_literal.specs.Tokens.{Token}
use Rattle.vast_rows.specs.declared.rule.Rule.TheVariants.{File}
use Rattle.vast_rows.specs.Fronts.{SpellsFile, LongestFront}
use Rattle.vast_rows.specs.Internal.Reaches.{SpellsRule}
use Rattle.vast_rows.specs.Numbers.{rule_number}
use Rattle.vast_rows.specs.Page.{page}
use Rattle.vast_rows.specs.Rows.{Row, bare}
use Rattle.vast_rows.specs.Trace.{trace}
use Rattle.vast_rows.proofs.Alike.{alike}
use Rattle.vast_rows.proofs.Bare.{by_page}
use Rattle.vast_rows.proofs.Bridge.{rows_are_so, file_to}

module _ (rows : List Row) (same : bare rows ≡ page) where
  to_file : (ts : List Token) → SpellsRule rows (rule_number File) ts → SpellsFile ts
  to_file ts s = let t = (rows_are_so ts s.0).0 ((by_page rows page (rule_number File) ts s.0 same).0 s.1) in (t.0, t.1)

  from_file : (ts : List Token) → SpellsFile ts → SpellsRule rows (rule_number File) ts
  from_file ts t = (trace t.0 [], (by_page rows page (rule_number File) ts (trace t.0 []) same).1 (file_to ts t.0 t.1))

  pub one_spelled : (ts : List Token) × SpellsRule rows (rule_number File) ts
  one_spelled = ([], from_file [] (record { items = [] }, file no_items))

  pub of_file : (ts left : List Token) (kinds : ℕ) (ends : Bool) → LongestFront (SpellsRule rows (rule_number File)) ts left kinds ends → LongestFront SpellsFile ts left kinds ends
  of_file = alike (SpellsRule rows (rule_number File)) SpellsFile to_file from_file
