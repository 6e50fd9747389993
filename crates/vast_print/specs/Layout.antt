-- The page of a file.
use Rattle.std.specs.Prelude.{◌≡◌, ℕ, List, [], ◌∷◌, codes, map, None}
use Rattle.vast_literal.specs.Tree.{MaybeType, Untyped, Typed, Members, NoMembers, MoreMembers}
use Rattle.vast_literal.specs.declared.kind.VastFileType.{VastFileType as Dialect}
use Rattle.vast_literal.specs.Tree.{PortTree, ParameterPortTree, ModuleTree, FileItemTree, ModuleItem, IncludeItem, ImportItem, TypedefItem, CommentItem, BlankItem, FileTree}
use Rattle.vast_literal.specs.declared.kind.ModulePortDirection.{ModulePortDirection as PortDirection}
use Rattle.vast_literal.specs.declared.kind.ModulePortDirection.TheVariants.{Input as InputDirection, Output as OutputDirection, InOut as InOutDirection}
use Rattle.vast_literal.specs.Shape.{base_kind, base_of}
use Rattle.vast_print.specs.Printed.{Printed, plain_text, ◌⊕◌}
use Rattle.vast_print.specs.Text.{expr_text}
use Rattle.vast_print.specs.Declaration.{declaration_text, port_declaration_text}
use Rattle.vast_print.specs.Page.{Page, no_lines, line, inner, above, written, commented, print}
use Rattle.vast_print.specs.Members.{entries_page, import_text, typedef_page, members_page}

abbrev pub direction_word : PortDirection → List ℕ
direction_word InputDirection = codes "input "
direction_word OutputDirection = codes "output "
direction_word InOutDirection = codes "inout "

unfoldable pub port_text : Dialect → PortTree → Printed
port_text dialect p = plain_text (direction_word p.direction) ⊕ port_declaration_text dialect p.declaration

-- a typed parameter is a declaration, whose kind is its type's; an untyped one is a name
abbrev pub typed_text : Dialect → MaybeType → List ℕ → Printed
typed_text dialect Untyped name = plain_text name
typed_text dialect (Typed t) name = declaration_text dialect (base_kind (base_of t)) t name

unfoldable pub parameter_port_text : Dialect → ParameterPortTree → Printed
parameter_port_text dialect p =
    plain_text (codes "parameter ") ⊕ typed_text dialect p.type p.name ⊕ plain_text (codes " = ") ⊕ expr_text p.value

unfoldable pub ports_page : Dialect → List PortTree → Page
ports_page dialect ports = entries_page (map (port_text dialect) ports)

unfoldable pub parameter_ports_page : Dialect → List ParameterPortTree → Page
parameter_ports_page dialect parameters = entries_page (map (parameter_port_text dialect) parameters)

unfoldable pub opening_page : (name end : List ℕ) → Page
opening_page name end = written (plain_text (codes "module ") ⊕ plain_text name ⊕ plain_text end)

-- the header of a module; a list that is empty isn't written
unfoldable pub header_page : Dialect → (name : List ℕ) → List ParameterPortTree → List PortTree → Page
header_page dialect name [] [] = opening_page name (codes ";")
header_page dialect name [] (q ∷ qs) =
    above (opening_page name (codes "(")) (above (ports_page dialect (q ∷ qs)) (line (codes ");")))
header_page dialect name (p ∷ ps) [] =
    above (opening_page name (codes " #(")) (above (parameter_ports_page dialect (p ∷ ps)) (line (codes ");")))
header_page dialect name (p ∷ ps) (q ∷ qs) =
    above (opening_page name (codes " #("))
    (above (parameter_ports_page dialect (p ∷ ps)) (above (line (codes ") (")) (above (ports_page dialect (q ∷ qs)) (line (codes ");")))))

-- a module without members has one empty line in their place
unfoldable pub body_page : Dialect → Members → Page
body_page dialect NoMembers = line []
body_page dialect (MoreMembers m ms) = inner (members_page dialect (MoreMembers m ms))

unfoldable pub module_page : Dialect → ModuleTree → Page
module_page dialect m =
    above (header_page dialect m.name m.parameters m.ports) (above (body_page dialect m.members) (line (codes "endmodule")))

unfoldable pub item_page : Dialect → FileItemTree → Page
item_page dialect (ModuleItem m) = module_page dialect m
item_page dialect (IncludeItem path) = written (plain_text (codes "`include \"") ⊕ plain_text path ⊕ plain_text (codes "\""))
item_page dialect (ImportItem package_name) = written (import_text package_name)
item_page dialect (TypedefItem t) = typedef_page dialect t
item_page dialect (CommentItem text) = commented (written (plain_text text))
item_page dialect BlankItem = line []

unfoldable pub items_page : Dialect → List FileItemTree → Page
items_page dialect [] = no_lines
items_page dialect (i ∷ items) = above (item_page dialect i) (items_page dialect items)

-- The page of a file.
unfoldable pub layout : FileTree → Page
layout f = items_page f.dialect f.items

-- the text is a file's: the printed layout of a tree that nothing refuses
abbrev pub IsFileText : (text : List ℕ) → Type 0
IsFileText text = (file : FileTree) × ((layout file).fault ≡ None) × (text ≡ print (layout file))
