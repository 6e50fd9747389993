-- The words that the writer writes between the parts of a tree.
use Rattle.std.specs.Prelude.{ℕ, zero, suc, Bool, true, false, List, [], ◌++◌, codes}
use Rattle.vast_literal.specs.Tree.{Exprs, NoExprs, MoreExprs}
use Rattle.vast_literal.specs.declared.kind.DataKind.{DataKind as Kind}
use Rattle.vast_literal.specs.declared.kind.DataKind.TheVariants.{Reg as RegKind, Wire as WireKind, Logic as LogicKind, Integer as IntegerKind, Int as IntKind, User as UserKind, UntypedEnum as UntypedEnumKind, Genvar as GenvarKind}

-- whether there is a dimension
abbrev pub has_dimension : Exprs → Bool
has_dimension NoExprs = false
has_dimension (MoreExprs d ds) = true

-- a kind word with the space after it
abbrev pub kind_opening : Kind → List ℕ
kind_opening RegKind = codes "reg "
kind_opening WireKind = codes "wire "
kind_opening LogicKind = codes "logic "
kind_opening IntegerKind = codes "integer "
kind_opening IntKind = codes "int "
kind_opening GenvarKind = codes "genvar "
kind_opening UserKind = []
kind_opening UntypedEnumKind = []

abbrev pub signed_opening : Bool → List ℕ
signed_opening true = codes "signed "
signed_opening false = []

abbrev pub unsigned_opening : Bool → List ℕ
unsigned_opening true = []
unsigned_opening false = codes "unsigned "

-- before what is cast to a scalar, and after it
abbrev pub scalar_cast_opening : Bool → List ℕ
scalar_cast_opening true = codes "signed'(logic'("
scalar_cast_opening false = codes "logic'("

abbrev pub scalar_cast_closing : Bool → List ℕ
scalar_cast_closing true = codes "))"
scalar_cast_closing false = codes ")"

-- before the width of a cast to a vector
abbrev pub cast_sign_word : Bool → List ℕ
cast_sign_word true = codes "signed'("
cast_sign_word false = codes "unsigned'("

-- before what is cast to an integer or an int, and after it
abbrev pub number_cast_opening : List ℕ → Bool → List ℕ
number_cast_opening name true = name ++ codes "'("
number_cast_opening name false = codes "unsigned'(" ++ (name ++ codes "'(")

abbrev pub number_cast_closing : Bool → List ℕ
number_cast_closing true = codes ")"
number_cast_closing false = codes "))"

-- after an entry of a list, where more follow
abbrev pub comma : Bool → List ℕ
comma true = codes ","
comma false = []

-- before the part i of a list
abbrev pub separator : ℕ → List ℕ → List ℕ
separator zero w = []
separator (suc i) w = w

unfoldable pub function_opening : List ℕ
function_opening = codes "function automatic "

unfoldable pub for_opening : List ℕ
for_opening = codes "for (genvar "

unfoldable pub int_opening : List ℕ
int_opening = codes "for (int "

unfoldable pub step_word : List ℕ
step_word = codes " + 1) "

unfoldable pub enum_opening : List ℕ
enum_opening = codes "typedef enum "

unfoldable pub struct_opening : List ℕ
struct_opening = codes "typedef struct packed {"

unfoldable pub endfunction_word : List ℕ
endfunction_word = codes "endfunction"
