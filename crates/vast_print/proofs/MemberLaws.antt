-- Laws of writing the members of modules and loops, one for each case.
use Rattle.std.proofs.Common.{◌≡◌, ◌<◌, ℕ, ◌+◌, Bool, true, false, List, [], ◌∷◌, length, map, refl, ◌∙◌, codes, arith, Option, Some, None}
use Rattle.vast_literal.specs.Tree.{ExprTree, NoExpr, SomeExpr, Exprs, Declaration, Statements, ParameterName, PlainParameter, IntParameter, Connection, InstanceTree, FunctionTree, TypeTree, TypedefTree, EnumTree, StructTree, MemberTree, DeclarationMember, ParameterMember, CommentMember, BlankMember, ImportMember, TypedefMember, InlineMember, MacroMember, InstanceMember, AlwaysMember, FunctionMember, LoopMember, Members, NoMembers, MoreMembers}
use Rattle.vast_literal.specs.declared.kind.VastFileType.{VastFileType as Dialect}
use Rattle.vast_literal.specs.declared.kind.AlwaysKind.{AlwaysKind as AlwaysWord}
use Rattle.vast_literal.specs.declared.kind.AlwaysKind.TheVariants.{AlwaysFF as AlwaysFFWord}
use Rattle.vast_literal.specs.Shape.{base_of, base_kind, unpacked_dimensions, result_kind, is_one_casez, has_events}
use Rattle.vast_print.specs.Internal.Words.{endfunction_word, function_opening, for_opening, enum_opening, struct_opening, kind_opening}
use Rattle.vast_print.specs.Printed.{plain_text, spaced}
use Rattle.vast_print.specs.Page.{written, commented}
use Rattle.vast_print.specs.Output.{Output, word, next, indented, inline}
use Rattle.vast_print.specs.Text.{expr_text}
use Rattle.vast_print.specs.Declaration.{type_text, unpacked_text, name_text, declaration_text, port_declaration_text}
use Rattle.vast_print.specs.Statements.{counting_text, statements_page, block_page}
use Rattle.vast_print.specs.Members.{entries_page, parameter_word, parameter_text, semicolon_text, connection_text, connections_page, instance_head_page, instance_page, events_text, always_opening, always_text, input_text, inputs_text, local_page, locals_page, function_body_page, function_page, loop_label_text, loop_text, import_text, entry_text, enum_text, typedef_page, member_page, members_page}
use Rattle.vast_print.proofs.Lines.{word-word, unbroken}
use Rattle.vast_print.proofs.OutputLaws.{indented-line, indented-none, indented-blank, indented-above, indented-beside, indented-inner, indented-written, inline-then, inline-empty, inline-word}
use Rattle.vast_print.proofs.DeclarationLaws.{inline-kind}
use Rattle.vast_print.proofs.StatementLaws.{indented-block}

-- members below each other

pub indented-members-none : (d : ℕ) (k : Output) (dialect : Dialect) → indented d k (members_page dialect NoMembers) ≡ k
unfolding members_page
indented-members-none d k dialect = indented-none d k

pub indented-members : (d : ℕ) (k : Output) (dialect : Dialect) (m : MemberTree) (ms : Members) →
    indented d k (members_page dialect (MoreMembers m ms)) ≡ indented d (indented d k (member_page dialect m)) (members_page dialect ms)
unfolding members_page member_page
indented-members d k dialect m ms = indented-above d k (member_page dialect m) (members_page dialect ms)

-- single members

pub indented-declaration : (d : ℕ) (k : Output) (dialect : Dialect) (declared : Declaration) →
    indented d k (member_page dialect (DeclarationMember declared))
    ≡ word (inline d (next d k) (written (declaration_text dialect declared.kind declared.type declared.name))) (codes ";")
unfolding member_page
indented-declaration d k dialect declared = indented-written d k _ ∙ simp (inline-then, inline-word)

pub indented-comment-member : (d : ℕ) (k : Output) (dialect : Dialect) (text : List ℕ) → indented d k (member_page dialect (CommentMember text)) ≡ indented d k (commented (written (plain_text text)))
unfolding member_page
indented-comment-member d k dialect text = refl

pub indented-blank-member : (d : ℕ) (k : Output) (dialect : Dialect) → indented d k (member_page dialect BlankMember) ≡ next d k
unfolding member_page
indented-blank-member d k dialect = indented-blank d k

-- the line of an import, alike in a module and in a file
pub indented-import : (d : ℕ) (k : Output) (package_name : List ℕ) →
    indented d k (written (import_text package_name)) ≡ word (inline d (word (next d k) (codes "import ")) (written (plain_text package_name))) (codes "::*;")
unfolding import_text
indented-import d k package_name = indented-written d k _ ∙ simp (inline-then, inline-word)

pub indented-import-member : (d : ℕ) (k : Output) (dialect : Dialect) (package_name : List ℕ) → indented d k (member_page dialect (ImportMember package_name)) ≡ indented d k (written (import_text package_name))
unfolding member_page
indented-import-member d k dialect package_name = refl

-- types that are declared by name, alike in a module and in a file
pub indented-typedef-member : (d : ℕ) (k : Output) (dialect : Dialect) (t : TypedefTree) → indented d k (member_page dialect (TypedefMember t)) ≡ indented d k (typedef_page dialect t)
unfolding member_page
indented-typedef-member d k dialect t = refl

pub indented-enum : (d : ℕ) (k : Output) (dialect : Dialect) (t : TypeTree) (name : List ℕ) (es : List Connection) →
    indented d k (typedef_page dialect (EnumTree t name es))
    ≡ word (inline d (inline d (word (next d (indented d (word (inline d (word (word (next d k) enum_opening) (kind_opening (base_kind (base_of t)))) (written (spaced (type_text t)))) (codes "{")) (entries_page (map entry_text es)))) (codes "} "))
    (written (plain_text name))) (written (unpacked_text dialect (unpacked_dimensions t)))) (codes ";")
unfolding typedef_page enum_text name_text enum_opening
indented-enum d k dialect t name es = simp (indented-above, indented-written, inline-then, inline-kind, inline-word)

pub indented-struct : (d : ℕ) (k : Output) (dialect : Dialect) (name : List ℕ) (ds : List Declaration) →
    indented d k (typedef_page dialect (StructTree name ds))
    ≡ word (inline d (word (next d (indented (d + 1) (word (next d k) struct_opening) (locals_page dialect ds))) (codes "} ")) (written (plain_text name))) (codes ";")
unfolding typedef_page struct_opening
indented-struct d k dialect name ds = simp (indented-above, indented-line, indented-inner, indented-written, inline-then, inline-word)

pub inline-entry : (d : ℕ) (k : Output) (name : List ℕ) (e : ExprTree) →
    inline d k (written (entry_text (record { name = name; value = SomeExpr e }))) ≡ inline d (word (inline d k (written (plain_text name))) (codes " = ")) (written (expr_text e))
unfolding entry_text
inline-entry d k name e = simp (inline-then, inline-word)

pub inline-bare-entry : (d : ℕ) (k : Output) (name : List ℕ) → inline d k (written (entry_text (record { name = name; value = NoExpr }))) ≡ inline d k (written (plain_text name))
unfolding entry_text
inline-bare-entry d k name = simp (inline-then, inline-empty)

pub indented-inline-member : (d : ℕ) (k : Output) (dialect : Dialect) (text : List ℕ) → indented d k (member_page dialect (InlineMember text)) ≡ inline d (next d k) (written (plain_text text))
unfolding member_page
indented-inline-member d k dialect text = indented-written d k (plain_text text)

-- parameters

inline-parameter-word : (d : ℕ) (k : Output) (local : Bool) → inline d k (written (plain_text (parameter_word local))) ≡ word k (parameter_word local)
inline-parameter-word d k true = inline-word d k (codes "localparam ") refl
inline-parameter-word d k false = inline-word d k (codes "parameter ") refl

pub indented-parameter : (d : ℕ) (k : Output) (dialect : Dialect) (local : Bool) (parameter : ParameterName) (v : ExprTree) →
    indented d k (member_page dialect (ParameterMember local parameter v))
    ≡ word (inline d (word (inline d (word (next d k) (parameter_word local)) (written (parameter_text dialect parameter))) (codes " = ")) (written (expr_text v))) (codes ";")
unfolding member_page
indented-parameter d k dialect local parameter v = indented-written d k _ ∙ simp (inline-then, inline-parameter-word, inline-word)

pub inline-plain-parameter : (d : ℕ) (k : Output) (dialect : Dialect) (name : List ℕ) → inline d k (written (parameter_text dialect (PlainParameter name))) ≡ inline d k (written (plain_text name))
inline-plain-parameter d k dialect name = refl

pub inline-int-parameter : (d : ℕ) (k : Output) (dialect : Dialect) (name : List ℕ) → inline d k (written (parameter_text dialect (IntParameter name))) ≡ inline d (word k (codes "int ")) (written (plain_text name))
inline-int-parameter d k dialect name = simp (inline-then, inline-word)

-- macros

inline-semicolon-text : (d : ℕ) (k : Output) (semicolon : Bool) → inline d k (written (plain_text (semicolon_text semicolon))) ≡ word k (semicolon_text semicolon)
inline-semicolon-text d k true = inline-word d k (codes ";") refl
inline-semicolon-text d k false = inline-word d k [] refl

pub indented-macro : (d : ℕ) (k : Output) (dialect : Dialect) (call : ExprTree) (semicolon : Bool) →
    indented d k (member_page dialect (MacroMember call semicolon)) ≡ word (inline d (next d k) (written (expr_text call))) (semicolon_text semicolon)
unfolding member_page
indented-macro d k dialect call semicolon = indented-written d k _ ∙ simp (inline-then, inline-semicolon-text)

-- instantiations

pub indented-instance : (d : ℕ) (k : Output) (dialect : Dialect) (i : InstanceTree) →
    indented d k (member_page dialect (InstanceMember i))
    ≡ word (next d (indented d (indented d k (instance_head_page i.module_name i.parameters i.instance_name)) (connections_page i.connections))) (codes ");")
unfolding member_page instance_page
indented-instance d k dialect i = simp (indented-above, indented-line)

pub indented-instance-head : (d : ℕ) (k : Output) (name instance : List ℕ) →
    indented d k (instance_head_page name [] instance)
    ≡ word (inline d (word (inline d (next d k) (written (plain_text name))) (codes " ")) (written (plain_text instance))) (codes " (")
unfolding instance_head_page
indented-instance-head d k name instance = indented-written d k _ ∙ simp (inline-then, inline-word)

pub indented-instance-parameters : (d : ℕ) (k : Output) (name instance : List ℕ) (cs : List Connection) → 0 < length cs →
    indented d k (instance_head_page name cs instance)
    ≡ word (inline d (word (next d (indented d (word (inline d (next d k) (written (plain_text name))) (codes " #(")) (entries_page (map connection_text cs)))) (codes ") ")) (written (plain_text instance))) (codes " (")
unfolding instance_head_page
indented-instance-parameters d k name instance [] h = absurd (omega arith)
indented-instance-parameters d k name instance (c ∷ cs) h = simp (indented-above, indented-written, inline-then, inline-word)

pub indented-no-connections : (d : ℕ) (k : Output) → indented d k (connections_page []) ≡ next d k
unfolding connections_page
indented-no-connections d k = indented-blank d k

pub indented-connections : (d : ℕ) (k : Output) (cs : List Connection) → 0 < length cs → indented d k (connections_page cs) ≡ indented d k (entries_page (map connection_text cs))
unfolding connections_page
indented-connections d k [] h = absurd (omega arith)
indented-connections d k (c ∷ cs) h = refl

pub inline-connection : (d : ℕ) (k : Output) (name : List ℕ) (e : ExprTree) →
    inline d k (written (connection_text (record { name = name; value = SomeExpr e })))
    ≡ word (inline d (word (inline d (word k (codes ".")) (written (plain_text name))) (codes "(")) (written (expr_text e))) (codes ")")
unfolding connection_text
inline-connection d k name e = simp (inline-then, inline-word)

pub inline-open-connection : (d : ℕ) (k : Output) (name : List ℕ) →
    inline d k (written (connection_text (record { name = name; value = NoExpr })))
    ≡ word (inline d (word k (codes ".")) (written (plain_text name))) (codes "()")
unfolding connection_text
inline-open-connection d k name = simp (inline-then, inline-empty, inline-word, word-word)

-- always blocks

pub indented-always : (d : ℕ) (k : Output) (dialect : Dialect) (w : AlwaysWord) (events : Exprs) (s : Statements) →
    indented d k (member_page dialect (AlwaysMember w events s)) ≡ inline d (inline d (next d k) (written (always_text w events))) (block_page s)
unfolding member_page
indented-always d k dialect w events s = indented-beside d k (always_text w events) (block_page s)

opening-unbroken : (w : AlwaysWord) → unbroken (always_opening w) ≡ true
unfolding always_opening
opening-unbroken AlwaysFFWord = refl
opening-unbroken _ = refl

pub inline-always-events : (d : ℕ) (k : Output) (w : AlwaysWord) (events : Exprs) → has_events w ≡ true →
    inline d k (written (always_text w events)) ≡ word (inline d (word k (always_opening w)) (written (events_text events))) (codes ") ")
unfolding always_text
inline-always-events d k w events h = rw h (simp (inline-then, inline-word, opening-unbroken))

pub inline-always-alone : (d : ℕ) (k : Output) (w : AlwaysWord) (events : Exprs) → has_events w ≡ false → inline d k (written (always_text w events)) ≡ word k (always_opening w)
unfolding always_text
inline-always-alone d k w events h = rw h (simp (inline-word, opening-unbroken))

-- functions

pub indented-function-member : (d : ℕ) (k : Output) (dialect : Dialect) (f : FunctionTree) → indented d k (member_page dialect (FunctionMember f)) ≡ indented d k (function_page dialect f)
unfolding member_page
indented-function-member d k dialect f = refl

pub indented-function : (d : ℕ) (k : Output) (dialect : Dialect) (f : FunctionTree) →
    indented d k (function_page dialect f)
    ≡ word (next d (indented (d + 1) (indented (d + 1)
    (word (inline d (word (inline d (word (next d k) function_opening) (written (declaration_text dialect (result_kind dialect f.result) f.result f.name))) (codes " (")) (written (inputs_text dialect f.inputs))) (codes ");"))
    (locals_page dialect f.locals)) (function_body_page f.body))) endfunction_word
unfolding function_page function_opening endfunction_word
indented-function d k dialect f = simp (indented-above, indented-written, inline-then, inline-word, indented-inner, indented-line)

pub indented-local : (d : ℕ) (k : Output) (dialect : Dialect) (declared : Declaration) →
    indented d k (local_page dialect declared) ≡ word (inline d (next d k) (written (declaration_text dialect declared.kind declared.type declared.name))) (codes ";")
unfolding local_page
indented-local d k dialect declared = indented-written d k _ ∙ simp (inline-then, inline-word)

pub indented-body-block : (d : ℕ) (k : Output) (b : Statements) → is_one_casez b ≡ false → indented d k (function_body_page b) ≡ inline d (next d k) (block_page b)
unfolding function_body_page
indented-body-block d k b h = rw h (indented-block d k b)

pub indented-body-casez : (d : ℕ) (k : Output) (b : Statements) → is_one_casez b ≡ true → indented d k (function_body_page b) ≡ indented d k (statements_page b)
unfolding function_body_page
indented-body-casez d k b h = rw h refl

pub inline-input-text : (d : ℕ) (k : Output) (dialect : Dialect) (declared : Declaration) →
    inline d k (written (input_text dialect declared)) ≡ inline d (word k (codes "input ")) (written (port_declaration_text dialect declared))
unfolding input_text
inline-input-text d k dialect declared = simp (inline-then, inline-word)

-- loops

pub indented-loop : (d : ℕ) (k : Output) (dialect : Dialect) (i : List ℕ) (start end : ExprTree) (label : Option (List ℕ)) (ms : Members) →
    indented d k (member_page dialect (LoopMember i start end label ms))
    ≡ word (next d (indented (d + 1) (inline d (next d k) (written (loop_text i start end label))) (members_page dialect ms))) (codes "end")
unfolding member_page members_page
indented-loop d k dialect i start end label ms = simp (indented-above, indented-written, indented-inner, indented-line)

pub inline-loop : (d : ℕ) (k : Output) (i : List ℕ) (start end : ExprTree) (label : Option (List ℕ)) →
    inline d k (written (loop_text i start end label)) ≡ inline d (word (inline d (word k for_opening) (written (counting_text i start end))) (codes "begin")) (written (loop_label_text label))
unfolding loop_text for_opening
inline-loop d k i start end label = simp (inline-then, inline-word)

pub inline-label-text : (d : ℕ) (k : Output) (label : List ℕ) → inline d k (written (loop_label_text (Some label))) ≡ inline d (word k (codes " : ")) (written (plain_text label))
inline-label-text d k label = simp (inline-then, inline-word)

pub inline-no-label : (d : ℕ) (k : Output) → inline d k (written (loop_label_text None)) ≡ k
inline-no-label d k = inline-empty d k
