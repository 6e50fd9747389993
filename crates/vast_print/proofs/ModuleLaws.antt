-- Laws of writing files and modules.
use Rattle.std.proofs.Common.{◌≡◌, ◌<◌, ℕ, ◌+◌, List, [], ◌∷◌, length, map, refl, ◌∙◌, codes, arith}
use Rattle.vast_literal.specs.Tree.{Members, NoMembers, MoreMembers, MemberTree, PortTree, ParameterPortTree, ModuleTree, FileItemTree, IncludeItem, ImportItem, TypedefItem, TypedefTree, CommentItem, BlankItem}
use Rattle.vast_literal.specs.declared.kind.VastFileType.{VastFileType as Dialect}
use Rattle.vast_print.specs.Printed.{plain_text}
use Rattle.vast_print.specs.Page.{written, commented}
use Rattle.vast_print.specs.Output.{Output, word, next, indented, inline}
use Rattle.vast_print.specs.Members.{import_text, typedef_page, members_page, entries_page}
use Rattle.vast_print.specs.Layout.{port_text, parameter_port_text, ports_page, parameter_ports_page, opening_page, header_page, body_page, module_page, item_page, items_page}
use Rattle.vast_print.proofs.OutputLaws.{inline-word, indented-line, indented-none, indented-blank, indented-above, indented-inner, indented-written, inline-then}

-- items of a file and members, one below the other

pub indented-items : (d : ℕ) (k : Output) (dialect : Dialect) (i : FileItemTree) (items : List FileItemTree) → indented d k (items_page dialect (i ∷ items)) ≡ indented d (indented d k (item_page dialect i)) (items_page dialect items)
unfolding items_page
indented-items d k dialect i items = indented-above d k (item_page dialect i) (items_page dialect items)

pub indented-items-none : (d : ℕ) (k : Output) (dialect : Dialect) → indented d k (items_page dialect []) ≡ k
unfolding items_page
indented-items-none d k dialect = indented-none d k

pub indented-include : (d : ℕ) (k : Output) (dialect : Dialect) (path : List ℕ) →
    indented d k (item_page dialect (IncludeItem path)) ≡ word (inline d (word (next d k) (codes "`include \"")) (written (plain_text path))) (codes "\"")
unfolding item_page
indented-include d k dialect path = indented-written d k _ ∙ simp (inline-then, inline-word)

pub indented-import-item : (d : ℕ) (k : Output) (dialect : Dialect) (package_name : List ℕ) → indented d k (item_page dialect (ImportItem package_name)) ≡ indented d k (written (import_text package_name))
unfolding item_page
indented-import-item d k dialect package_name = refl

pub indented-typedef-item : (d : ℕ) (k : Output) (dialect : Dialect) (t : TypedefTree) → indented d k (item_page dialect (TypedefItem t)) ≡ indented d k (typedef_page dialect t)
unfolding item_page
indented-typedef-item d k dialect t = refl

pub indented-comment-item : (d : ℕ) (k : Output) (dialect : Dialect) (text : List ℕ) → indented d k (item_page dialect (CommentItem text)) ≡ indented d k (commented (written (plain_text text)))
unfolding item_page
indented-comment-item d k dialect text = refl

pub indented-blank-item : (d : ℕ) (k : Output) (dialect : Dialect) → indented d k (item_page dialect BlankItem) ≡ next d k
unfolding item_page
indented-blank-item d k dialect = indented-blank d k

-- a module: its header, its members, its end
pub indented-module : (d : ℕ) (k : Output) (dialect : Dialect) (m : ModuleTree) →
    indented d k (module_page dialect m)
    ≡ word (next d (indented d (indented d k (header_page dialect m.name m.parameters m.ports)) (body_page dialect m.members))) (codes "endmodule")
unfolding module_page
indented-module d k dialect m = simp (indented-above, indented-line)

pub indented-body-none : (d : ℕ) (k : Output) (dialect : Dialect) → indented d k (body_page dialect NoMembers) ≡ next d k
unfolding body_page
indented-body-none d k dialect = indented-blank d k

pub indented-body : (d : ℕ) (k : Output) (dialect : Dialect) (m : MemberTree) (ms : Members) → indented d k (body_page dialect (MoreMembers m ms)) ≡ indented (d + 1) k (members_page dialect (MoreMembers m ms))
unfolding body_page
indented-body d k dialect m ms = indented-inner d k (members_page dialect (MoreMembers m ms))

-- headers

indented-opening : (d : ℕ) (k : Output) (name end : List ℕ) → indented d k (opening_page name end) ≡ inline d (inline d (word (next d k) (codes "module ")) (written (plain_text name))) (written (plain_text end))
unfolding opening_page
indented-opening d k name end = indented-written d k _ ∙ simp (inline-then, inline-word)

pub indented-header-bare : (d : ℕ) (k : Output) (dialect : Dialect) (name : List ℕ) →
    indented d k (header_page dialect name [] []) ≡ word (inline d (word (next d k) (codes "module ")) (written (plain_text name))) (codes ";")
unfolding header_page
indented-header-bare d k dialect name = simp (indented-opening, inline-word)

pub indented-header-ports : (d : ℕ) (k : Output) (dialect : Dialect) (name : List ℕ) (qs : List PortTree) → 0 < length qs →
    indented d k (header_page dialect name [] qs)
    ≡ word (next d (indented d (word (inline d (word (next d k) (codes "module ")) (written (plain_text name))) (codes "(")) (ports_page dialect qs))) (codes ");")
unfolding header_page
indented-header-ports d k dialect name [] h = absurd (omega arith)
indented-header-ports d k dialect name (q ∷ qs) h = simp (indented-above, indented-opening, indented-line, inline-word)

pub indented-header-parameters : (d : ℕ) (k : Output) (dialect : Dialect) (name : List ℕ) (ps : List ParameterPortTree) → 0 < length ps →
    indented d k (header_page dialect name ps [])
    ≡ word (next d (indented d (word (inline d (word (next d k) (codes "module ")) (written (plain_text name))) (codes " #(")) (parameter_ports_page dialect ps))) (codes ");")
unfolding header_page
indented-header-parameters d k dialect name [] h = absurd (omega arith)
indented-header-parameters d k dialect name (p ∷ ps) h = simp (indented-above, indented-opening, indented-line, inline-word)

pub indented-header-both : (d : ℕ) (k : Output) (dialect : Dialect) (name : List ℕ) (ps : List ParameterPortTree) (qs : List PortTree) → 0 < length ps → 0 < length qs →
    indented d k (header_page dialect name ps qs)
    ≡ word (next d (indented d (word (next d (indented d (word (inline d (word (next d k) (codes "module ")) (written (plain_text name))) (codes " #(")) (parameter_ports_page dialect ps))) (codes ") (")) (ports_page dialect qs))) (codes ");")
unfolding header_page
indented-header-both d k dialect name [] qs h i = absurd (omega arith)
indented-header-both d k dialect name (p ∷ ps) [] h i = absurd (omega arith)
indented-header-both d k dialect name (p ∷ ps) (q ∷ qs) h i = simp (indented-above, indented-opening, indented-line, inline-word)

pub ports-are-entries : (dialect : Dialect) (ps : List PortTree) → ports_page dialect ps ≡ entries_page (map (port_text dialect) ps)
unfolding ports_page
ports-are-entries dialect ps = refl

pub parameters-are-entries : (dialect : Dialect) (ps : List ParameterPortTree) → parameter_ports_page dialect ps ≡ entries_page (map (parameter_port_text dialect) ps)
unfolding parameter_ports_page
parameters-are-entries dialect ps = refl
