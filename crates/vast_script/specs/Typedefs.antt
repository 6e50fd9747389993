-- What becomes of a call of a type that is declared by name.
use Rattle.std.specs.Prelude.{ℕ, nat_eq, List, length, Option}
use Rattle.vast_core.specs.Growth.{next_type, with_typedef, with_file_typedef}
use Rattle.vast_core.specs.declared.typedef.DeclaredType.TheVariants.{Enum as EnumType, Struct as StructType}
use Rattle.xlsynth_vast.specs.Instances.{connected}
use Rattle.vast_script.specs.declared.answer.Answer.TheVariants.{VastDataType}
use Rattle.vast_script.specs.Outcome.{Call, provided, makes}
use Rattle.vast_script.specs.Kinds.{a_module, a_type, an_expr, a_definition}
use Rattle.vast_script.specs.Arguments.{takes_many, takes_one_and_many, takes_one_and_open, takes_two_and_open}

-- An enumeration, each name with the value at its place or none.
abbrev pub add_enum_typedef : (owner : ℕ) (name : List ℕ) (type : ℕ) → List (List ℕ) → List (Option ℕ) → Call
add_enum_typedef owner name type names values =
    takes_two_and_open a_module a_type an_expr owner type values
    (λ owner type values b. provided (nat_eq (length names) (length values)) (makes VastDataType next_type (with_typedef owner (EnumType type name (connected names values))) b))

abbrev pub add_file_enum_typedef : (name : List ℕ) (type : ℕ) → List (List ℕ) → List (Option ℕ) → Call
add_file_enum_typedef name type names values =
    takes_one_and_open a_type an_expr type values
    (λ type values b. provided (nat_eq (length names) (length values)) (makes VastDataType next_type (with_file_typedef (EnumType type name (connected names values))) b))

-- A structure of fields that are definitions.
abbrev pub add_struct_typedef : (owner : ℕ) (name : List ℕ) → List ℕ → Call
add_struct_typedef owner name fields = takes_one_and_many a_module a_definition owner fields (λ owner fields. makes VastDataType next_type (with_typedef owner (StructType name fields)))

abbrev pub add_file_struct_typedef : (name : List ℕ) → List ℕ → Call
add_file_struct_typedef name fields = takes_many a_definition fields (λ fields. makes VastDataType next_type (with_file_typedef (StructType name fields)))
