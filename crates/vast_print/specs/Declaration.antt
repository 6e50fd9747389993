-- The text of a declaration: kind word, type, name with its dimensions.
use Rattle.std.specs.Prelude.{ℕ, ℤ, pos, ◌-ℤ◌, Bool, List, [], Option, Some, None, codes, if◌then◌else◌}
use Rattle.std.specs.Fmt.{signed_decimal}
use Rattle.vast_literal.specs.Tree.{ExprTree, Exprs, NoExprs, MoreExprs}
use Rattle.vast_literal.specs.declared.kind.VastFileType.{VastFileType as Dialect}
use Rattle.vast_literal.specs.declared.kind.VastFileType.TheVariants.{Verilog as VerilogDialect, SystemVerilog as SystemVerilogDialect}
use Rattle.vast_literal.specs.Tree.{TypeTree, ScalarTree, VectorTree, IntegerTree, IntTree, ExternalTree, PackageTree}
use Rattle.vast_literal.specs.Tree.{Declaration}
use Rattle.vast_literal.specs.declared.kind.DataKind.{DataKind as Kind}
use Rattle.vast_literal.specs.declared.kind.DataKind.TheVariants.{Reg as RegKind, Wire as WireKind, Logic as LogicKind, Integer as IntegerKind, Int as IntKind, Genvar as GenvarKind}
use Rattle.vast_literal.specs.Shape.{literal_value, highest_index_wraps, base_of, packed_dimensions, unpacked_dimensions, port_kind}
use Rattle.vast_print.specs.Printed.{Printed, plain_text, ◌⊕◌, wrapped, spaced}
use Rattle.vast_print.specs.Text.{expr_text, package_text}

-- a vector's highest index: its width minus one, computed where the width has a value
unfoldable pub highest_index_text : ExprTree → Option ℤ → Printed
highest_index_text w (Some v) = plain_text (signed_decimal (v -ℤ pos 1))
highest_index_text w None = wrapped (highest_index_wraps w) (expr_text w) ⊕ plain_text (codes " - 1")

-- `[d-1:0]`, as of a vector
abbrev pub packed_range : ExprTree → Printed
packed_range d = plain_text (codes "[") ⊕ highest_index_text d (literal_value d) ⊕ plain_text (codes ":0]")

unfoldable pub packed_text : Exprs → Printed
packed_text NoExprs = plain_text []
packed_text (MoreExprs d ds) = packed_range d ⊕ packed_text ds

-- `[d]`, in Verilog `[0:d-1]`
abbrev pub unpacked_range : Dialect → ExprTree → Printed
unpacked_range VerilogDialect d = plain_text (codes "[0:") ⊕ highest_index_text d (literal_value d) ⊕ plain_text (codes "]")
unpacked_range SystemVerilogDialect d = plain_text (codes "[") ⊕ expr_text d ⊕ plain_text (codes "]")

unfoldable pub unpacked_text : Dialect → Exprs → Printed
unpacked_text dialect NoExprs = plain_text []
unpacked_text dialect (MoreExprs d ds) = unpacked_range dialect d ⊕ unpacked_text dialect ds

abbrev pub signed_word : Bool → List ℕ
signed_word signed = if signed then codes "signed" else []

abbrev pub unsigned_word : Bool → List ℕ
unsigned_word signed = if signed then [] else codes "unsigned"

unfoldable pub with_dimensions : Printed → Exprs → Printed
with_dimensions p NoExprs = p
with_dimensions p (MoreExprs d ds) = spaced p ⊕ packed_text (MoreExprs d ds)

-- a base type's text with packed dimensions, which stand before a vector's own and after any other type
unfoldable pub based_text : TypeTree → Exprs → Printed
based_text (VectorTree w v signed) ds = spaced (plain_text (signed_word signed)) ⊕ packed_text ds ⊕ plain_text (codes "[") ⊕ highest_index_text w v ⊕ plain_text (codes ":0]")
based_text (ScalarTree signed) ds = with_dimensions (plain_text (signed_word signed)) ds
based_text (IntegerTree signed) ds = with_dimensions (plain_text (unsigned_word signed)) ds
based_text (IntTree signed) ds = with_dimensions (plain_text (unsigned_word signed)) ds
based_text (ExternalTree name) ds = with_dimensions (plain_text name) ds
based_text (PackageTree scope name) ds = with_dimensions (package_text scope name) ds
based_text _ ds = packed_text ds

unfoldable pub type_text : TypeTree → Printed
type_text t = based_text (base_of t) (packed_dimensions t)

-- a name with the unpacked dimensions of its type
unfoldable pub name_text : Dialect → TypeTree → List ℕ → Printed
name_text dialect t name = plain_text name ⊕ unpacked_text dialect (unpacked_dimensions t)

abbrev pub kind_word : Kind → List ℕ
kind_word RegKind = codes "reg"
kind_word WireKind = codes "wire"
kind_word LogicKind = codes "logic"
kind_word IntegerKind = codes "integer"
kind_word IntKind = codes "int"
kind_word GenvarKind = codes "genvar"
kind_word _ = []

-- parts that aren't empty are joined by a space; the name always stands
unfoldable pub declaration_text : Dialect → Kind → TypeTree → List ℕ → Printed
declaration_text dialect kind t name = spaced (plain_text (kind_word kind)) ⊕ spaced (type_text t) ⊕ name_text dialect t name

abbrev pub declared_text : Dialect → Declaration → Printed
declared_text dialect d = declaration_text dialect d.kind d.type d.name

abbrev pub port_declaration_text : Dialect → Declaration → Printed
port_declaration_text dialect d = declaration_text dialect (port_kind d.kind d.type) d.type d.name
