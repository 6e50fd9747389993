-- The normal declarations that declarations of the reader stand for.
use Rattle.std.specs.declared.alloc.Global.{Global}
use Rattle.std.specs.Prelude.{ℕ, List, Option, Some, None, option_and_then, option_map, map}
use Rattle.std.specs.declared.boxed.Box.{Box}
use Rattle.vast_literal.specs.declared.token.Key.{Key}
use Rattle.vast_literal.specs.NormalExpr.{NormalExpr}
use Rattle.vast_literal.specs.NormalFile as normal
use Rattle.vast_literal.specs.NormalFile.{One, Range}
use Rattle.vast_read.specs.Texts.{key_of}
use Rattle.vast_read.specs.View.{view}
use Rattle.vast_read.specs.declared.tree.declaration.DeclaredType.{DeclaredType}
use Rattle.vast_read.specs.declared.tree.declaration.Group.{Group}
use Rattle.vast_read.specs.declared.tree.declaration.NormalDeclaration.{NormalDeclaration}

-- One expression, or a range where there are two.
abbrev pub group_of : NormalExpr → Option NormalExpr → normal.Group
group_of x None = One x
group_of x (Some y) = Range x y

abbrev pub group_view : Group → normal.Group
group_view g = group_of (view g.first.value) (option_map (λ x. view x.value) g.second)

abbrev pub groups_view : List Group → List normal.Group
groups_view gs = map group_view gs

-- The package, the name and the sign of a type, where there is one.
abbrev pub package_of : Option (Box DeclaredType Global) → Option (List ℕ)
package_of t = option_and_then (λ b. b.value.«package») t

abbrev pub type_name_of : Option (Box DeclaredType Global) → Option (List ℕ)
type_name_of t = option_and_then (λ b. b.value.type_name) t

abbrev pub sign_of : Option (Box DeclaredType Global) → Option Key
sign_of t = option_and_then (λ b. option_map key_of b.value.sign) t

-- The normal declaration that a declaration of the reader stands for.
abbrev pub declaration_view : NormalDeclaration → normal.NormalDeclaration
declaration_view d = record {
  kind = option_map key_of d.kind;
  package_name = package_of d.typed;
  type_name = type_name_of d.typed;
  sign = sign_of d.typed;
  groups = groups_view d.groups;
  name = d.name;
  behind = groups_view d.after;
}

abbrev pub declarations_view : List NormalDeclaration → List normal.NormalDeclaration
declarations_view ds = map declaration_view ds
