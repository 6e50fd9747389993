-- The normal modules and files that those of the reader stand for.
use Rattle.std.specs.Prelude.{List, map}
use Rattle.vast_literal.specs.NormalFile as normal
use Rattle.vast_read.specs.Texts.{key_of}
use Rattle.vast_read.specs.View.{view}
use Rattle.vast_read.specs.DeclarationView.{declaration_view}
use Rattle.vast_read.specs.MemberView.{member_view, members_view}
use Rattle.vast_read.specs.declared.tree.file.Parameter.{Parameter}
use Rattle.vast_read.specs.declared.tree.file.Port.{Port}
use Rattle.vast_read.specs.declared.tree.file.NormalModule.{NormalModule}
use Rattle.vast_read.specs.declared.tree.file.NormalItem.{NormalItem}
use Rattle.vast_read.specs.declared.tree.file.NormalItem.TheVariants.{Include, Import, Member, Module}
use Rattle.vast_read.specs.declared.tree.file.NormalFile.{NormalFile}

abbrev pub parameter_view : Parameter → normal.NormalParameter
parameter_view p = record { declaration = declaration_view p.declaration.value; value = view p.value.value }

abbrev pub parameters_view : List Parameter → List normal.NormalParameter
parameters_view ps = map parameter_view ps

abbrev pub port_view : Port → normal.NormalPort
port_view p = record { direction = key_of p.direction; declaration = declaration_view p.declaration.value }

abbrev pub ports_view : List Port → List normal.NormalPort
ports_view ps = map port_view ps

-- The normal module that a module of the reader stands for.
abbrev pub module_view : NormalModule → normal.NormalModule
module_view m = record { name = m.name; parameters = parameters_view m.parameters; ports = ports_view m.ports; members = members_view m.members }

abbrev pub item_view : NormalItem → normal.NormalItem
item_view (Include path) = normal.IncludePart path
item_view (Import package_name) = normal.FileImportPart package_name
item_view (Member m) = normal.MemberPart (member_view m)
item_view (Module m) = normal.ModulePart (module_view m)

abbrev pub items_view : List NormalItem → List normal.NormalItem
items_view is = map item_view is

-- The normal file that a file of the reader stands for.
abbrev pub file_view : NormalFile → normal.NormalFile
file_view f = record { items = items_view f.items }
