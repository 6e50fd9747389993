-- Laws of writing what the arena holds.
use Rattle.std.proofs.Common.{◌≡◌, ◌<◌, ℕ, suc, ◌+◌, List, [], ◌∷◌, length, map, refl, sym, ◌∙◌, ap, codes, arith, Option, Some, None, Err, subst}
use Rattle.vast_literal.specs.declared.error.VastFault.{VastFault}
use Rattle.vast_literal.specs.declared.error.VastFault.TheVariants.{Refused as RefusedBy, Memory as NoMemory}
use Rattle.vast_literal.specs.Tree.{PortTree, ParameterPortTree, Connection as ConnectionTree}
use Rattle.vast_literal.specs.declared.kind.VastFileType.{VastFileType as Dialect}
use Rattle.vast_core.specs.declared.node.Member.{Member}
use Rattle.vast_core.specs.declared.node.Connection.{Connection}
use Rattle.vast_core.specs.Bench.{Bench}
use Rattle.vast_core.specs.FileTree.{member_tree, members_tree, connection_tree, item_tree, tree}
use Rattle.vast_print.specs.Printed.{Printed, plain_text}
use Rattle.vast_print.specs.Page.{Page, written, print}
use Rattle.vast_print.specs.Output.{Output, Unstopped, Stopped, word, next, indented, inline}
use Rattle.vast_print.specs.Internal.Output.{Writes, WritesLines}
use Rattle.vast_print.specs.Draft.{Draft, Writing, unwritten, blank, whole}
use Rattle.vast_print.specs.Emits.{Answers}
use Rattle.vast_print.specs.Internal.Emits.{Faults}
use Rattle.vast_print.specs.declared.refusal.Refusal.{Refusal}
use Rattle.vast_print.specs.declared.refusal.PrintFault.{PrintFault}
use Rattle.vast_print.specs.declared.refusal.PrintFault.TheVariants.{Refused, Memory}
use Rattle.vast_print.specs.Members.{members_page, entries_page, connection_text, connections_page, instance_head_page}
use Rattle.vast_print.specs.Layout.{body_page, header_page, ports_page, parameter_ports_page, items_page, layout}
use Rattle.vast_print.proofs.OutputLaws.{inline-then, inline-word, indented-stopped, inline-stopped, whole-page, whole-fault, line-text, line-fault}
use Rattle.vast_print.proofs.Lines.{word-stopped, next-stopped}
use Rattle.vast_print.proofs.DeclarationLaws.{inline-declaration, inline-port, inline-untyped-parameter, inline-typed-parameter}
use Rattle.vast_print.proofs.MemberLaws.{indented-members-none, indented-members, indented-declaration, indented-import, indented-enum, indented-struct, inline-entry, inline-bare-entry, indented-local, indented-macro, indented-parameter, inline-plain-parameter, inline-int-parameter, indented-instance, indented-instance-head, indented-instance-parameters, indented-no-connections, indented-connections, inline-connection, inline-open-connection}
use Rattle.vast_print.proofs.ModuleLaws.{indented-body-none, indented-body, indented-header-bare, indented-header-ports, indented-header-parameters, indented-header-both, indented-module, indented-include, indented-import-item, indented-typedef-item, indented-comment-item, indented-blank-item, indented-items, indented-items-none, ports-are-entries, parameters-are-entries}
use Rattle.vast_print.proofs.ListLaws.{indented-no-entries, indented-entries, more-left}
use Rattle.vast_print.proofs.Left.{left}

-- a refusal stays

pub ruleset stops = (word-stopped, next-stopped, inline-stopped, indented-stopped)

pub ruleset declarations = (inline-declaration, inline-port, inline-untyped-parameter, inline-typed-parameter, stops)

-- modules

-- members and items, one below the other

pub items-laid-out : (b : Bench) → layout (tree b) ≡ items_page b.file_type (map (item_tree b) b.items)
unfolding layout tree
items-laid-out b = refl

pub ruleset listed = (indented-members-none, indented-members, indented-items-none, indented-items, items-laid-out, left, stops)

pub ruleset entries = (indented-no-entries, indented-entries, more-left, ports-are-entries, parameters-are-entries, left, stops)

pub indented-body-some : (dialect : Dialect) (b : Bench) (d : ℕ) (k : Output) (ms : List Member) → 0 < length ms → indented d k (body_page dialect (members_tree b ms)) ≡ indented (d + 1) k (members_page dialect (members_tree b ms))
indented-body-some dialect b d k [] h = absurd (omega arith)
indented-body-some dialect b d k (m ∷ ms) h = indented-body d k dialect (member_tree b m) (members_tree b ms)

pub indented-body-empty : (dialect : Dialect) (b : Bench) (d : ℕ) (k : Output) (ms : List Member) → length ms ≡ 0 → indented d k (body_page dialect (members_tree b ms)) ≡ next d k
indented-body-empty dialect b d k [] h = indented-body-none d k dialect
indented-body-empty dialect b d k (m ∷ ms) h = absurd (omega arith)

-- headers, by which of their lists are empty

abbrev Opened : (d : ℕ) (k : Output) (name end : List ℕ) → Output
Opened d k name end = word (inline d (word (next d k) (codes "module ")) (written (plain_text name))) end

pub indented-header-of-none :
    {A B : Type 0} (dialect : Dialect) (u : A → ParameterPortTree) (v : B → PortTree) (d : ℕ) (k : Output) (name : List ℕ) (ps : List A) (qs : List B) → length ps ≡ 0 → length qs ≡ 0 →
    indented d k (header_page dialect name (map u ps) (map v qs)) ≡ Opened d k name (codes ";")
indented-header-of-none dialect u v d k name [] [] h i = indented-header-bare d k dialect name
indented-header-of-none dialect u v d k name [] (q ∷ qs) h i = absurd (omega arith)
indented-header-of-none dialect u v d k name (p ∷ ps) qs h i = absurd (omega arith)

pub indented-header-of-ports :
    {A B : Type 0} (dialect : Dialect) (u : A → ParameterPortTree) (v : B → PortTree) (d : ℕ) (k : Output) (name : List ℕ) (ps : List A) (qs : List B) → length ps ≡ 0 → 0 < length qs →
    indented d k (header_page dialect name (map u ps) (map v qs)) ≡ word (next d (indented d (Opened d k name (codes "(")) (ports_page dialect (map v qs)))) (codes ");")
indented-header-of-ports dialect u v d k name [] [] h i = absurd (omega arith)
indented-header-of-ports dialect u v d k name [] (q ∷ qs) h i = indented-header-ports d k dialect name (map v (q ∷ qs)) (omega arith)
indented-header-of-ports dialect u v d k name (p ∷ ps) qs h i = absurd (omega arith)

pub indented-header-of-parameters :
    {A B : Type 0} (dialect : Dialect) (u : A → ParameterPortTree) (v : B → PortTree) (d : ℕ) (k : Output) (name : List ℕ) (ps : List A) (qs : List B) → 0 < length ps → length qs ≡ 0 →
    indented d k (header_page dialect name (map u ps) (map v qs)) ≡ word (next d (indented d (Opened d k name (codes " #(")) (parameter_ports_page dialect (map u ps)))) (codes ");")
indented-header-of-parameters dialect u v d k name [] qs h i = absurd (omega arith)
indented-header-of-parameters dialect u v d k name (p ∷ ps) [] h i = indented-header-parameters d k dialect name (map u (p ∷ ps)) (omega arith)
indented-header-of-parameters dialect u v d k name (p ∷ ps) (q ∷ qs) h i = absurd (omega arith)

pub indented-header-of-both :
    {A B : Type 0} (dialect : Dialect) (u : A → ParameterPortTree) (v : B → PortTree) (d : ℕ) (k : Output) (name : List ℕ) (ps : List A) (qs : List B) → 0 < length ps → 0 < length qs →
    indented d k (header_page dialect name (map u ps) (map v qs))
    ≡ word (next d (indented d (word (next d (indented d (Opened d k name (codes " #(")) (parameter_ports_page dialect (map u ps)))) (codes ") (")) (ports_page dialect (map v qs)))) (codes ");")
indented-header-of-both dialect u v d k name [] qs h i = absurd (omega arith)
indented-header-of-both dialect u v d k name (p ∷ ps) [] h i = absurd (omega arith)
indented-header-of-both dialect u v d k name (p ∷ ps) (q ∷ qs) h i = indented-header-both d k dialect name (map u (p ∷ ps)) (map v (q ∷ qs)) (omega arith) (omega arith)

pub length-records : {A B : Type 0} (f : A → B) (xs : List A) → length (map f xs) ≡ length xs
length-records f [] = refl
length-records f (x ∷ xs) = ap suc (length-records f xs)

pub ruleset modules = (indented-body-some, indented-body-empty, length-records, indented-header-of-none, indented-header-of-ports, indented-header-of-parameters, indented-header-of-both, indented-module, stops)

pub ruleset members = (indented-declaration, indented-macro, stops)

pub ruleset parameters = (indented-parameter, inline-plain-parameter, inline-int-parameter, inline-then, inline-word, stops)

-- instantiations

abbrev Connected : Bench → List Connection → List ConnectionTree
Connected b xs = map (connection_tree b) xs

connected-length : (b : Bench) (xs : List Connection) → length (Connected b xs) ≡ length xs
connected-length b xs = length-records (connection_tree b) xs

pub indented-head-bare : (b : Bench) (d : ℕ) (k : Output) (name instance : List ℕ) (xs : List Connection) → length xs ≡ 0 →
    indented d k (instance_head_page name (Connected b xs) instance)
    ≡ word (inline d (word (inline d (next d k) (written (plain_text name))) (codes " ")) (written (plain_text instance))) (codes " (")
indented-head-bare b d k name instance [] h = indented-instance-head d k name instance
indented-head-bare b d k name instance (x ∷ xs) h = absurd (omega arith)

pub indented-head-parameters : (b : Bench) (d : ℕ) (k : Output) (name instance : List ℕ) (xs : List Connection) → 0 < length xs →
    indented d k (instance_head_page name (Connected b xs) instance)
    ≡ word (inline d (word (next d (indented d (word (inline d (next d k) (written (plain_text name))) (codes " #(")) (entries_page (map connection_text (Connected b xs))))) (codes ") ")) (written (plain_text instance))) (codes " (")
indented-head-parameters b d k name instance xs h = indented-instance-parameters d k name instance (Connected b xs) (rw (connected-length b xs) h)

pub indented-connections-none : (b : Bench) (d : ℕ) (k : Output) (xs : List Connection) → length xs ≡ 0 → indented d k (connections_page (Connected b xs)) ≡ next d k
indented-connections-none b d k [] h = indented-no-connections d k
indented-connections-none b d k (x ∷ xs) h = absurd (omega arith)

pub indented-connections-some : (b : Bench) (d : ℕ) (k : Output) (xs : List Connection) → 0 < length xs → indented d k (connections_page (Connected b xs)) ≡ indented d k (entries_page (map connection_text (Connected b xs)))
indented-connections-some b d k xs h = indented-connections d k (Connected b xs) (rw (connected-length b xs) h)

pub ruleset instances = (indented-instance, indented-head-bare, indented-head-parameters, indented-connections-none, indented-connections-some, inline-connection, inline-open-connection, stops)

-- files

pub ruleset imports = (indented-import, stops)

pub ruleset typedefs = (indented-enum, indented-struct, inline-entry, inline-bare-entry, indented-local, declarations)

pub ruleset items = (indented-include, indented-import-item, indented-typedef-item, indented-comment-item, indented-blank-item, stops)

-- what a call returns that prints

pub emits-page : (p : Page) (k : Draft) (text : List ℕ) → indented 0 (Unstopped unwritten) p ≡ Unstopped k → text ≡ whole k → (p.fault ≡ None) × (text ≡ print p)
emits-page p k text h e = let w = whole-page p k h in (w.0, e ∙ w.1)

pub emits-line : (p : Printed) (k : Draft) (text : List ℕ) → inline 0 (next 0 (Unstopped unwritten)) (written p) ≡ Unstopped k → text ≡ k.text → (p.fault ≡ None) × (text ≡ p.text)
emits-line p k text h e = let w = line-text p k h in (w.0, e ∙ w.1)

refuses : (text : List ℕ) (fault : Option Refusal) (output : Output) (start new : Writing) (f : PrintFault) (answer : VastFault) →
    ((r : Refusal) → output ≡ Stopped r → fault ≡ Some r) → Writes start new (Err f) output → Faults f answer → Answers text fault (Err answer)
refuses text fault output start new (Refused r) (RefusedBy e) k w h = rw (k r w) (ap Some (sym h))
refuses text fault output start new (Memory error) (RefusedBy e) k w h = absurd h
refuses text fault output start new f (NoMemory e) k w h = tt

pub refuses-page : (p : Page) (start new : Writing) (f : PrintFault) (answer : VastFault) → start ≡ blank → WritesLines start new (Err f) p → Faults f answer → Answers (print p) p.fault (Err answer)
refuses-page p start new f answer e w h =
    let W : Writing → Type 0 = λ k. WritesLines k new (Err f) p in
    refuses (print p) p.fault (indented 0 (Unstopped unwritten) p) blank new f answer (whole-fault p) (subst W e w) h

pub refuses-line : (p : Printed) (start new : Writing) (f : PrintFault) (answer : VastFault) → start ≡ blank → Writes start new (Err f) (inline start.margin (next start.margin (Unstopped start.draft)) (written p)) → Faults f answer → Answers p.text p.fault (Err answer)
refuses-line p start new f answer e w h =
    let W : Writing → Type 0 = λ k. Writes k new (Err f) (inline k.margin (next k.margin (Unstopped k.draft)) (written p)) in
    refuses p.text p.fault (inline 0 (next 0 (Unstopped unwritten)) (written p)) blank new f answer (line-fault p) (subst W e w) h
