-- The grammar derives the normal form of a plain file from its printed layout.
use Rattle.std.proofs.Common.{◌≡◌, ℕ, List, [], ◌∷◌, ◌++◌, map, true, false, Some, None, refl, append_assoc, codes, ◌||◌, eqb}
use Rattle.vast_literal.specs.Tokens.{Token, key_text, Reserved, Mark, Word, MacroWord, Quoted}
use Rattle.vast_literal.specs.declared.token.Mark.TheVariants.{OpenParen, CloseParen, Semicolon}
use Rattle.vast_literal.specs.declared.token.Key.TheVariants.{Input as InputKey, Parameter as ParameterKey, Module as ModuleKey, EndModule as EndModuleKey, Output as OutputKey, InOut as InOutKey}
use Rattle.vast_literal.specs.declared.kind.VastFileType.{VastFileType as Dialect}
use Rattle.vast_literal.specs.Scan.{scan, tokens}
use Rattle.vast_literal.specs.Plain.{is_plain_name}
use Rattle.vast_literal.specs.PlainFile.{are_plain_ports, is_plain_typed, are_plain_parameters, is_plain_module, is_path_byte, are_plain_items, is_plain_file}
use Rattle.vast_literal.proofs.FileTokens.{separated, member_tokens, members_tokens, each_port, typed_tokens, each_parameter, header_parameter_tokens, header_port_tokens, module_tokens, item_tokens, items_tokens, file_tokens}
use Rattle.vast_literal.proofs.TokenReads.{Free, Divides, Reads}
use Rattle.vast_literal.proofs.ScanLaws.{scan_macro, not_or_left, not_or_right, or_left, or_right}
use Rattle.vast_print.proofs.FaultLaws.{halves}
use Rattle.vast_literal.proofs.Pieces.{reads_sep, open_paren}
use Rattle.vast_literal.proofs.Words.{key_reads, name_reads, string_reads}
use Rattle.vast_literal.specs.Shape.{base_kind, base_of}
use Rattle.vast_print.specs.Printed.{plain_text, ◌⊕◌}
use Rattle.vast_print.specs.Page.{Page, print}
use Rattle.vast_print.proofs.TextReads.{Prints, printed_assoc, stands, after, closed, parted}
use Rattle.vast_print.proofs.DeclarationReads.{declaration_reads}
use Rattle.vast_print.proofs.ExprReads.{expr_reads}
use Rattle.vast_print.proofs.PageReads.{Whole, page_regrouped, whole_above, whole_inner, whole_none, whole_line, whole_written, whole_blank, space_divides, equals, semicolon, key_space, whole_comment}
use Rattle.vast_literal.specs.WellFormedFile.{are_well_formed_ports, is_well_formed_typed, are_well_formed_parameters, is_well_formed_module, are_well_formed_items, is_well_formed_file}
use Rattle.vast_literal.specs.Tree.{Members, NoMembers, MoreMembers, MaybeType, Untyped, Typed, PortTree, ParameterPortTree, ModuleTree, FileItemTree, ModuleItem, IncludeItem, ImportItem, TypedefItem, CommentItem, BlankItem, FileTree}
use Rattle.vast_print.specs.Members.{members_page}
use Rattle.vast_literal.specs.declared.kind.ModulePortDirection.{ModulePortDirection as PortDirection}
use Rattle.vast_literal.specs.declared.kind.ModulePortDirection.TheVariants.{Input as InputDirection, Output as OutputDirection, InOut as InOutDirection}
use Rattle.vast_literal.specs.LiteralToken.{every, is_string_rest}
use Rattle.vast_literal.specs.NormalTree.{direction_key, normal_file}
use Rattle.vast_literal.specs.FileGrammar.{DerivesFile}
use Rattle.vast_literal.proofs.FilesSpelled.{file_spelled}
use Rattle.vast_literal.proofs.Longest.{scan_lexes}
use Rattle.vast_print.specs.Layout.{direction_word, port_text, typed_text, parameter_port_text, ports_page, parameter_ports_page, opening_page, header_page, body_page, module_page, item_page, items_page, layout}
use Rattle.vast_print.proofs.PageLines.{print_tokens}
use Rattle.vast_print.proofs.EntryReads.{AllRead, all_none, all_more, entries_whole, hash_open, list_closed}
use Rattle.vast_print.proofs.FunctionReads.{port_reads}
use Rattle.vast_print.proofs.TypedefReads.{typedef_whole}
use Rattle.vast_print.proofs.MemberReads.{import_reads, members_whole}

-- ports

direction_free : (d : PortDirection) → Free (direction_word d) (Reserved (direction_key d) ∷ [])
unfolding direction_key key_text
direction_free InputDirection = key_space InputKey
direction_free OutputDirection = key_space OutputKey
direction_free InOutDirection = key_space InOutKey

ports_read : (dialect : Dialect) (ps : List PortTree) → are_plain_ports ps ≡ true → are_well_formed_ports ps ≡ true → AllRead (map (port_text dialect) ps) (each_port dialect ps)
unfolding port_text each_port
ports_read dialect [] h w = all_none
ports_read dialect (p ∷ ps) h w = all_more (after (stands _ (direction_free p.direction)) (port_reads dialect p.declaration (search halves) (search halves)))
    (ports_read dialect ps (search halves) (search halves))

ports_whole : (dialect : Dialect) (ps : List PortTree) → are_plain_ports ps ≡ true → are_well_formed_ports ps ≡ true → Whole (ports_page dialect ps) (separated (each_port dialect ps))
unfolding ports_page
ports_whole dialect ps h w = entries_whole (map (port_text dialect) ps) (each_port dialect ps) (ports_read dialect ps h w)

-- parameters of a header

typed_reads : (dialect : Dialect) (t : MaybeType) (n : List ℕ) → is_plain_typed t n ≡ true → is_well_formed_typed t ≡ true → Prints Reads (typed_text dialect t n) (typed_tokens dialect t n)
unfolding typed_tokens
typed_reads dialect Untyped n h w = stands _ (name_reads n h)
typed_reads dialect (Typed t) n h w = declaration_reads dialect (base_kind (base_of t)) t n h w

header_parameters_read : (dialect : Dialect) (ps : List ParameterPortTree) → are_plain_parameters ps ≡ true → are_well_formed_parameters ps ≡ true → AllRead (map (parameter_port_text dialect) ps) (each_parameter dialect ps)
unfolding parameter_port_text each_parameter key_text
header_parameters_read dialect [] h w = all_none
header_parameters_read dialect (p ∷ ps) h w =
    all_more (simp printed_assoc (after (stands _ (key_space ParameterKey)) (parted (typed_reads dialect p.type p.name (search halves) (search halves)) equals
    (expr_reads p.value (search halves) (search halves)))))
    (header_parameters_read dialect ps (search halves) (search halves))

header_parameters_whole : (dialect : Dialect) (ps : List ParameterPortTree) → are_plain_parameters ps ≡ true → are_well_formed_parameters ps ≡ true → Whole (parameter_ports_page dialect ps) (separated (each_parameter dialect ps))
unfolding parameter_ports_page
header_parameters_whole dialect ps h w = entries_whole (map (parameter_port_text dialect) ps) (each_parameter dialect ps) (header_parameters_read dialect ps h w)

-- headers

opening_whole : {n e : List ℕ} {es : List Token} → is_plain_name n ≡ true → Divides e es → Whole (opening_page n e) (Reserved ModuleKey ∷ (Word n ∷ es))
unfolding opening_page key_text
opening_whole {n = n} p f = whole_written (simp printed_assoc (after (stands _ (key_space ModuleKey)) (closed (stands _ (name_reads n p)) f)))

close_open : Reads (41 ∷ 32 ∷ 40 ∷ []) (Mark CloseParen ∷ Mark OpenParen ∷ [])
unfolding scan
close_open = record { at = λ rest h. refl }

header_whole : (dialect : Dialect) (n : List ℕ) (ps : List ParameterPortTree) (qs : List PortTree) → is_plain_name n ≡ true → are_plain_parameters ps ≡ true → are_plain_ports qs ≡ true → are_well_formed_parameters ps ≡ true → are_well_formed_ports qs ≡ true →
    Whole (header_page dialect n ps qs) (Reserved ModuleKey ∷ (Word n ∷ (header_parameter_tokens dialect ps ++ (header_port_tokens dialect qs ++ (Mark Semicolon ∷ [])))))
unfolding header_page header_parameter_tokens header_port_tokens
header_whole dialect n [] [] h a b c d = opening_whole h semicolon
header_whole dialect n [] (q ∷ qs) h a b c d = page_regrouped (whole_above (opening_whole h open_paren) (whole_above (ports_whole dialect (q ∷ qs) b d) list_closed)) (simp append_assoc)
header_whole dialect n (p ∷ ps) [] h a b c d = page_regrouped (whole_above (opening_whole h hash_open) (whole_above (header_parameters_whole dialect (p ∷ ps) a c) list_closed)) (simp append_assoc)
header_whole dialect n (p ∷ ps) (q ∷ qs) h a b c d = page_regrouped (whole_above (opening_whole h hash_open)
    (whole_above (header_parameters_whole dialect (p ∷ ps) a c) (whole_above (whole_line close_open) (whole_above (ports_whole dialect (q ∷ qs) b d) list_closed)))) (simp append_assoc)

-- modules

body_whole : (dialect : Dialect) (ms : Members) → Whole (members_page dialect ms) (members_tokens dialect ms) → Whole (body_page dialect ms) (members_tokens dialect ms)
unfolding body_page member_tokens
body_whole dialect NoMembers h = whole_blank
body_whole dialect (MoreMembers m ms) h = whole_inner h

module_whole : (dialect : Dialect) (m : ModuleTree) → is_plain_module m ≡ true → is_well_formed_module m ≡ true → Whole (module_page dialect m) (module_tokens dialect m)
unfolding module_page module_tokens key_text
module_whole dialect m p w =
    page_regrouped (whole_above (header_whole dialect m.name m.parameters m.ports (search halves) (search halves) (search halves) (search halves) (search halves))
    (whole_above (body_whole dialect m.members (members_whole dialect m.members (search halves) (search halves))) (whole_line (key_reads EndModuleKey)))) (simp append_assoc)

-- includes

path_byte : (c : ℕ) (v : List ℕ) → is_path_byte c ≡ true → is_string_rest false v ≡ true → is_string_rest false (c ∷ v) ≡ true
path_byte c v h k =
    let a = not_or_left (eqb c 34) (eqb c 92 || eqb c 10) h in
    let b = not_or_right (eqb c 34) (eqb c 92 || eqb c 10) h in
    rw (a, or_right (eqb c 92) (eqb c 10) b, or_left (eqb c 92) (eqb c 10) b) k

path_string : (path : List ℕ) → every is_path_byte path ≡ true → is_string_rest false (path ++ (34 ∷ [])) ≡ true
path_string [] h = refl
path_string (c ∷ path) h = path_byte c (path ++ (34 ∷ [])) (search halves) (path_string path (search halves))

include_word : Reads (96 ∷ codes "include") (MacroWord (codes "include") ∷ [])
include_word = record { at = λ rest h. scan_macro (codes "include") rest refl h }

include_reads : (path : List ℕ) → every is_path_byte path ≡ true → Prints Reads (plain_text (codes "`include \"") ⊕ plain_text path ⊕ plain_text (codes "\"")) (MacroWord (codes "include") ∷ (Quoted (34 ∷ (path ++ (34 ∷ []))) ∷ []))
unfolding ◌⊕◌ plain_text
include_reads path h = record { told = λ e. rw append_assoc (reads_sep include_word space_divides (string_reads (34 ∷ (path ++ (34 ∷ []))) (path_string path h))) }

-- files

items_whole : (dialect : Dialect) (is : List FileItemTree) → are_plain_items is ≡ true → are_well_formed_items is ≡ true → Whole (items_page dialect is) (items_tokens dialect is)
unfolding items_page items_tokens item_page item_tokens
items_whole dialect [] p w = whole_none
items_whole dialect (ModuleItem m ∷ is) p w = whole_above (module_whole dialect m (search halves) (search halves)) (items_whole dialect is (search halves) (search halves))
items_whole dialect (IncludeItem path ∷ is) p w = whole_above (whole_written (include_reads path (search halves))) (items_whole dialect is (search halves) w)
items_whole dialect (ImportItem package_name ∷ is) p w = whole_above (whole_written (import_reads package_name (search halves))) (items_whole dialect is (search halves) w)
items_whole dialect (TypedefItem t ∷ is) p w = whole_above (typedef_whole dialect t (search halves) (search halves)) (items_whole dialect is (search halves) (search halves))
items_whole dialect (CommentItem text ∷ is) p w = whole_above (whole_comment text) (items_whole dialect is p w)
items_whole dialect (BlankItem ∷ is) p w = whole_above whole_blank (items_whole dialect is p w)

layout_whole : (f : FileTree) → is_plain_file f ≡ true → is_well_formed_file f ≡ true → Whole (layout f) (file_tokens f)
unfolding layout file_tokens
layout_whole f p w = items_whole f.dialect f.items p w

printed_tokens : (p : Page) (ts : List Token) → Whole p ts → p.fault ≡ None → tokens (print p) ≡ Some ts
unfolding print
printed_tokens p ts h e = print_tokens (h.lines e)

-- The grammar derives the normal form of a plain, well-formed file from its printed layout.
pub file_derived : (f : FileTree) → is_plain_file f ≡ true → is_well_formed_file f ≡ true → (layout f).fault ≡ None → DerivesFile (print (layout f)) (normal_file f)
file_derived f p w e = record { parts = file_tokens f; lexed = scan_lexes _ _ (printed_tokens (layout f) (file_tokens f) (layout_whole f p w) e); spelled = file_spelled f p w }
