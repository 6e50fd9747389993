-- Functions have the tokens that the grammar reads.
use Rattle.std.proofs.Common.{◌≡◌, List, [], ◌∷◌, ◌++◌, true, refl, sym, ap, append_assoc, append-nil, codes}
use Rattle.std.specs.Cmp.Derive.{both_true}
use Rattle.std.specs.Prelude.{◌&&◌}
use Rattle.vast_literal.specs.Tokens.{Token, key_text, Reserved, Mark}
use Rattle.vast_literal.specs.declared.token.Mark.TheVariants.{Comma}
use Rattle.vast_literal.specs.declared.token.Key.TheVariants.{Function as FunctionKey, Automatic as AutomaticKey, EndFunction as EndFunctionKey, Input as InputKey}
use Rattle.vast_literal.specs.Tree.{Declaration, FunctionTree, Statements}
use Rattle.vast_literal.specs.declared.kind.VastFileType.{VastFileType as Dialect}
use Rattle.vast_literal.specs.PlainFile.{is_plain_declared, is_plain_function}
use Rattle.vast_literal.specs.WellFormed.{is_well_formed_type}
use Rattle.vast_literal.specs.WellFormedFile.{is_local_word, are_well_formed_inputs, are_well_formed_locals, is_well_formed_function}
use Rattle.vast_literal.proofs.FileTokens.{declared_tokens, port_declaration_tokens, statements_tokens, separated, each_input, local_tokens, body_tokens, function_tokens}
use Rattle.vast_literal.proofs.TokenReads.{Free, Reads}
use Rattle.vast_print.proofs.FaultLaws.{halves}
use Rattle.vast_literal.proofs.Pieces.{free_free, comma}
use Rattle.vast_literal.proofs.Words.{key_reads}
use Rattle.vast_literal.specs.Shape.{port_kind, result_kind, is_one_casez}
use Rattle.vast_print.specs.Declaration.{declared_text, port_declaration_text}
use Rattle.vast_print.specs.Statements.{statements_page}
use Rattle.vast_print.specs.Members.{input_text, more_inputs_text, inputs_text, local_page, locals_page, function_body_page, function_page}
use Rattle.vast_print.proofs.TextReads.{Prints, nothing_reads, Rest, regrouped, leftward, stands, rest_none, after, closed, enclosing, goes_on, rest_more}
use Rattle.vast_print.proofs.DeclarationReads.{declaration_reads}
use Rattle.vast_print.proofs.StatementReads.{statements_whole, block_open}
use Rattle.vast_print.proofs.PageReads.{Whole, page_regrouped, whole_above, whole_inner, whole_none, whole, whole_line, whole_written, space_open, semicolon, key_space}
use Rattle.vast_print.proofs.EntryReads.{close_semicolon}
use Rattle.vast_literal.specs.LiteralToken.{every}
use Rattle.vast_literal.proofs.ScanLaws.{and_right, by_test}

pub declared_reads : (dialect : Dialect) (d : Declaration) → is_plain_declared d ≡ true → is_well_formed_type d.type ≡ true → Prints Reads (declared_text dialect d) (declared_tokens dialect d)
unfolding declared_tokens
declared_reads dialect d p w = declaration_reads dialect d.kind d.type d.name p w

pub port_reads : (dialect : Dialect) (d : Declaration) → is_plain_declared d ≡ true → is_well_formed_type d.type ≡ true → Prints Reads (port_declaration_text dialect d) (port_declaration_tokens dialect d)
unfolding port_declaration_tokens
port_reads dialect d p w = declaration_reads dialect (port_kind d.kind d.type) d.type d.name p w

-- inputs

input_reads : (dialect : Dialect) (d : Declaration) → is_plain_declared d ≡ true → is_well_formed_type d.type ≡ true → Prints Reads (input_text dialect d) (Reserved InputKey ∷ port_declaration_tokens dialect d)
unfolding input_text key_text
input_reads dialect d p w = after (stands _ (key_space InputKey)) (port_reads dialect d p w)

after_first : List (List Token) → List Token
after_first [] = []
after_first (t ∷ ts) = Mark Comma ∷ separated (t ∷ ts)

separated_more : (t : List Token) (ts : List (List Token)) → separated (t ∷ ts) ≡ t ++ after_first ts
unfolding separated after_first
separated_more t [] = sym (append-nil t)
separated_more t (u ∷ us) = refl

more_inputs_read : (dialect : Dialect) (ds : List Declaration) → every is_plain_declared ds ≡ true → are_well_formed_inputs ds ≡ true → Prints Rest (more_inputs_text dialect ds) (after_first (each_input dialect ds))
unfolding more_inputs_text each_input after_first
more_inputs_read dialect [] p w = rest_none
more_inputs_read dialect (d ∷ ds) p w = regrouped
    (rest_more comma (input_reads dialect d (search halves) (search halves)) (more_inputs_read dialect ds (search halves) (search halves)))
    (ap (λ (ts : List Token). Mark Comma ∷ ts) (sym (separated_more _ (each_input dialect ds))))

inputs_read : (dialect : Dialect) (ds : List Declaration) → every is_plain_declared ds ≡ true → are_well_formed_inputs ds ≡ true → Prints Reads (inputs_text dialect ds) (separated (each_input dialect ds))
unfolding inputs_text each_input separated
inputs_read dialect [] p w = stands _ nothing_reads
inputs_read dialect (d ∷ ds) p w = regrouped
    (goes_on (input_reads dialect d (search halves) (search halves)) (more_inputs_read dialect ds (search halves) (search halves)))
    (sym (separated_more _ (each_input dialect ds)))

-- locals and bodies

pub fields_whole : (dialect : Dialect) (ds : List Declaration) → every is_plain_declared ds ≡ true → are_well_formed_inputs ds ≡ true → Whole (locals_page dialect ds) (local_tokens dialect ds)
unfolding locals_page local_page local_tokens
fields_whole dialect [] p w = whole_none
fields_whole dialect (d ∷ ds) p w = whole_above
    (whole_written (closed (declared_reads dialect d (search halves) (search halves)) semicolon))
    (fields_whole dialect ds (search halves) (search halves))

types_formed : (ds : List Declaration) → are_well_formed_locals ds ≡ true → are_well_formed_inputs ds ≡ true
types_formed [] w = refl
types_formed (d ∷ ds) w = let own : (is_local_word d.kind && is_well_formed_type d.type) ≡ true = search halves in
    both_true (and_right (is_local_word d.kind) (is_well_formed_type d.type) own) (types_formed ds (search halves))

body_whole : (b : Statements) → Whole (statements_page b) (statements_tokens b) → Whole (function_body_page b) (body_tokens b)
unfolding function_body_page body_tokens
body_whole b h = by_test (is_one_casez b) (λ e. rw e h) (λ e. rw e (whole (block_open b h)))

-- functions

function_opens : Free (codes "function automatic ") (Reserved FunctionKey ∷ Reserved AutomaticKey ∷ [])
unfolding key_text
function_opens = free_free (key_space FunctionKey) (key_space AutomaticKey)

pub function_whole : (dialect : Dialect) (f : FunctionTree) → is_plain_function f ≡ true → is_well_formed_function f ≡ true → Whole (function_page dialect f) (function_tokens dialect f)
unfolding function_page function_tokens key_text
function_whole dialect f p w =
    page_regrouped (whole_above (whole_written (leftward _ _ _ (leftward _ _ _ (leftward _ _ _ (after (stands _ function_opens) (enclosing (declaration_reads dialect (result_kind dialect f.result) f.result f.name (search halves) (search halves)) space_open
    (inputs_read dialect f.inputs (search halves) (search halves)) close_semicolon))))))
    (whole_above (whole_inner (whole_above (fields_whole dialect f.locals (search halves) (types_formed f.locals (search halves)))
    (body_whole f.body (statements_whole f.body (search halves) (search halves))))) (whole_line (key_reads EndFunctionKey)))) (simp append_assoc)
