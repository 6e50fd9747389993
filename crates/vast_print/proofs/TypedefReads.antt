-- Types that are declared by name have the tokens that the grammar reads.
use Rattle.std.proofs.Common.{◌≡◌, List, [], ◌∷◌, ◌++◌, map, true, refl, append_assoc, codes}
use Rattle.vast_literal.specs.Tokens.{key_text, Reserved, Mark, Word}
use Rattle.vast_literal.specs.declared.token.Mark.TheVariants.{OpenBrace, CloseBrace}
use Rattle.vast_literal.specs.declared.token.Key.TheVariants.{Typedef as TypedefKey, Enum as EnumKey, Struct as StructKey, Packed as PackedKey}
use Rattle.vast_literal.specs.Tree.{MaybeExpr, NoExpr, SomeExpr, TypeTree, Connection, TypedefTree, EnumTree, StructTree}
use Rattle.vast_literal.specs.declared.kind.VastFileType.{VastFileType as Dialect}
use Rattle.vast_literal.specs.Plain.{is_plain_name, is_plain_type}
use Rattle.vast_literal.specs.PlainFile.{is_plain_maybe, are_plain_connections, is_plain_typedef}
use Rattle.vast_literal.specs.WellFormed.{is_well_formed_type}
use Rattle.vast_literal.specs.WellFormedFile.{is_well_formed_maybe, are_well_formed_connections, is_well_formed_typedef}
use Rattle.vast_literal.specs.NormalTree.{kind_key, sign_of}
use Rattle.vast_literal.specs.Shape.{base_of, base_kind, packed_dimensions}
use Rattle.vast_literal.specs.Scan.{scan}
use Rattle.vast_literal.proofs.FileTokens.{maybe_tokens, type_name_tokens, packed_tokens, vector_tokens, entry_value_tokens, each_entry, typedef_tokens}
use Rattle.vast_literal.proofs.TokenReads.{Free, Reads}
use Rattle.vast_literal.proofs.Pieces.{as_reads, free_free, open_brace}
use Rattle.vast_literal.proofs.Words.{name_reads}
use Rattle.vast_print.proofs.FaultLaws.{halves}
use Rattle.vast_print.specs.Members.{entry_text, enum_text, typedef_page}
use Rattle.vast_print.proofs.TextReads.{Prints, stands, rest_none, after, after_free, closed, parted, goes_on}
use Rattle.vast_print.proofs.ExprReads.{expr_reads}
use Rattle.vast_print.proofs.DeclarationReads.{base_free, named_reads}
use Rattle.vast_print.proofs.EntryReads.{AllRead, all_none, all_more, entries_whole}
use Rattle.vast_print.proofs.FunctionReads.{fields_whole}
use Rattle.vast_print.proofs.PageReads.{Whole, page_regrouped, whole_above, whole_inner, whole_line, whole_written, equals, semicolon, key_space}

-- entries

entry_reads : (c : Connection) → is_plain_name c.name ≡ true → is_plain_maybe c.value ≡ true → is_well_formed_maybe c.value ≡ true → Prints Reads (entry_text c) (Word c.name ∷ entry_value_tokens c.value)
unfolding entry_text entry_value_tokens
entry_reads c p q w = valued c.value q w
  where
    valued : (v : MaybeExpr) → is_plain_maybe v ≡ true → is_well_formed_maybe v ≡ true → Prints Reads (entry_text (record { name = c.name; value = v })) (Word c.name ∷ entry_value_tokens v)
    valued NoExpr q w = goes_on (stands _ (name_reads c.name p)) rest_none
    valued (SomeExpr e) q w = parted (stands _ (name_reads c.name p)) equals (expr_reads e q w)

entries_read : (cs : List Connection) → are_plain_connections cs ≡ true → are_well_formed_connections cs ≡ true → AllRead (map entry_text cs) (each_entry cs)
unfolding each_entry
entries_read [] p w = all_none
entries_read (c ∷ cs) p w = all_more (entry_reads c (search halves) (search halves) (search halves)) (entries_read cs (search halves) (search halves))

-- words

enum_opens : Free (codes "typedef enum ") (Reserved TypedefKey ∷ Reserved EnumKey ∷ [])
unfolding key_text
enum_opens = free_free (key_space TypedefKey) (key_space EnumKey)

struct_opens : Free (codes "typedef struct packed {") (Reserved TypedefKey ∷ Reserved StructKey ∷ Reserved PackedKey ∷ Mark OpenBrace ∷ [])
unfolding key_text
struct_opens = free_free (key_space TypedefKey) (free_free (key_space StructKey) (free_free (key_space PackedKey) open_brace.free))

brace_space : Free (codes "} ") (Mark CloseBrace ∷ [])
unfolding scan
brace_space = record { at = λ rest. refl }

enum_reads : (t : TypeTree) → is_plain_type t ≡ true → is_well_formed_type t ≡ true → Prints Reads (enum_text t)
    (Reserved TypedefKey ∷ (Reserved EnumKey ∷ ((maybe_tokens (kind_key (base_kind (base_of t))) ++ (type_name_tokens (base_of t) ++ (maybe_tokens (sign_of (base_of t)) ++ (packed_tokens (packed_dimensions t) ++ vector_tokens (base_of t))))) ++ (Mark OpenBrace ∷ []))))
unfolding enum_text
enum_reads t p w = after (after_free (stands _ enum_opens) (base_free (base_kind (base_of t)) t p w)) (stands _ (as_reads open_brace.free))

-- The page of a type that is declared by name brings its tokens.
pub typedef_whole : (dialect : Dialect) (t : TypedefTree) → is_plain_typedef t ≡ true → is_well_formed_typedef t ≡ true → Whole (typedef_page dialect t) (typedef_tokens dialect t)
unfolding typedef_page typedef_tokens
typedef_whole dialect (EnumTree t n es) p w =
    page_regrouped (whole_above (whole_written (enum_reads t (search halves) (search halves))) (whole_above (entries_whole (map entry_text es) (each_entry es) (entries_read es (search halves) (search halves)))
    (whole_written (closed (after (stands _ brace_space) (named_reads dialect t n (search halves) (search halves))) semicolon)))) (simp append_assoc)
typedef_whole dialect (StructTree n ds) p w =
    page_regrouped (whole_above (whole_line (as_reads struct_opens)) (whole_above (whole_inner (fields_whole dialect ds (search halves) w))
    (whole_written (closed (after (stands _ brace_space) (stands _ (name_reads n (search halves)))) semicolon)))) (simp append_assoc)
