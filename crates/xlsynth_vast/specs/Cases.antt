-- Which case statements may be unique.
use Rattle.std.specs.Prelude.{ℕ, Bool, true, false, List, Result, Ok, Err, codes}
use Rattle.vast_literal.specs.declared.kind.VastFileType.{VastFileType}
use Rattle.vast_literal.specs.declared.kind.VastFileType.TheVariants.{Verilog, SystemVerilog}

-- Those of SystemVerilog; in Verilog the word is refused.
abbrev pub may_be_unique : VastFileType → (unique : Bool) → Result (Unit {0}) (List ℕ)
may_be_unique SystemVerilog unique = Ok tt
may_be_unique Verilog false = Ok tt
may_be_unique Verilog true = Err (codes "unique case requires SystemVerilog")
