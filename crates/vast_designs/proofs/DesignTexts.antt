-- The printed text of each design.
use Rattle.std.proofs.Common.{◌≡◌, ℕ, List, refl, ap, ◌∙◌, map, Result, Ok, Err, IfOk, IsOkAnd, String, Global, string_bytes}
use Rattle.std.specs.Fmt.{digits}
use Rattle.vast_literal.specs.Keyword.{is_keyword}
use Rattle.vast_literal.specs.Pattern.{is_pattern, pattern}
use Rattle.vast_literal.specs.declared.error.VastFault.{VastFault}
use Rattle.vast_literal.specs.declared.kind.VastFileType.TheVariants.{SystemVerilog}
use Rattle.vast_core.specs.Nodes.{expr_in, type_in}
use Rattle.vast_core.specs.Bench.{Bench, start}
use Rattle.vast_core.specs.FileTree.{tree, families}
use Rattle.vast_print.specs.Printed.{plain_text, ◌⊕◌, spaced}
use Rattle.vast_print.specs.Text.{expr_text, list_text, more_text}
use Rattle.vast_print.specs.Statements.{begin_end, statement_page, statements_page, block_page, arms_page}
use Rattle.vast_print.specs.Declaration.{packed_text, unpacked_text, highest_index_text, with_dimensions, based_text, type_text, name_text, declaration_text}
use Rattle.vast_print.specs.Page.{print_lines, print, no_lines, line, inner_lines, inner, lead_lines, lead, above, beside_lines, written_lines, written, beside, commented_lines, commented}
use Rattle.vast_print.specs.Members.{entries_page, input_text, inputs_text, more_inputs_text, local_page, locals_page, function_body_page, function_page, member_page, members_page}
use Rattle.vast_print.specs.Layout.{port_text, ports_page, opening_page, header_page, body_page, module_page, item_page, items_page, layout}
use Rattle.vast_print.specs.Emits.{Emits}
use Rattle.xlsynth_vast.specs.Conditions.{is_free}
use Rattle.xlsynth_vast.specs.Declarations.{already_declared}
use Rattle.xlsynth_vast.specs.Functions.{declared_in_function}
use Rattle.vast_script.specs.declared.answer.Answer.{Answer}
use Rattle.vast_steps.specs.declared.step.Step.{Step}
use Rattle.vast_script.specs.Arguments.{found, one, two, three, many}
use Rattle.vast_script.specs.Script.{call_of, run, Going, called}
use Rattle.vast_script.proofs.Calls.{left-called}
use Rattle.vast_designs.specs.DesignCalls.{IsPlainDesign, passthrough_calls, cases_calls}
use Rattle.vast_designs.specs.Internal.DesignCalls.{calls_text}
use Rattle.vast_designs.specs.DesignTexts.{passthrough_text, cases_text}

-- A design's calls print its text.

pub passthrough_printed : calls_text passthrough_calls ≡ passthrough_text
unfolding calls_text passthrough_calls passthrough_text found one two is_free tree families expr_in type_in print print_lines layout items_page item_page module_page header_page opening_page ports_page port_text entries_page body_page members_page member_page expr_text declaration_text name_text type_text based_text packed_text unpacked_text highest_index_text with_dimensions spaced inner inner_lines lead lead_lines no_lines line above beside_lines written written_lines plain_text ◌⊕◌ digits
passthrough_printed = refl

pub cases_printed : calls_text cases_calls ≡ cases_text
unfolding calls_text cases_calls cases_text found one two three many is_free is_pattern pattern already_declared declared_in_function tree families expr_in type_in print print_lines layout items_page item_page module_page header_page opening_page ports_page port_text entries_page body_page members_page member_page function_page local_page locals_page input_text inputs_text more_inputs_text function_body_page begin_end statement_page statements_page block_page arms_page list_text more_text expr_text declaration_text name_text type_text based_text packed_text unpacked_text highest_index_text with_dimensions spaced inner inner_lines lead lead_lines no_lines line above beside beside_lines written written_lines commented commented_lines plain_text ◌⊕◌ digits
cases_printed = refl

-- A design's calls build a plain file.

pub passthrough_plain : IsPlainDesign passthrough_calls
unfolding passthrough_calls found one two is_free is_keyword tree families expr_in type_in
passthrough_plain = refl

pub cases_plain : IsPlainDesign cases_calls
unfolding cases_calls found one two three many is_free is_keyword is_pattern pattern already_declared declared_in_function tree families expr_in type_in
cases_plain = refl

-- A file that a run of the steps has built prints what their calls print.
pub design-printed :
    (old new : Bench) (steps : List Step) (answers : List Answer) (s : String Global) → old ≡ start SystemVerilog 1 → run old steps ≡ Going answers new → Emits (layout (tree new)) (Ok s) →
    string_bytes s ≡ calls_text (map call_of steps)
unfolding calls_text
design-printed old new steps answers s e made printed =
    printed.1 ∙ ap (λ (b : Bench). print (layout (tree b))) (left-called old new steps (map call_of steps) answers refl made ∙ ap (λ (b : Bench). called b (map call_of steps)) e)

pub emitted : (b : Bench) (text : List ℕ) (r : Result (String Global) VastFault) → print (layout (tree b)) ≡ text → Emits (layout (tree b)) r → IfOk r (λ s. string_bytes s ≡ text)
emitted b text (Ok s) e h = h.1 ∙ e
emitted b text (Err fault) e h = tt

-- What a rule that passed allows.
pub allowed : {P : Type 0} (rule : Result (Unit {0}) (List ℕ)) → IsOkAnd rule (λ _. P) → P
allowed (Ok x) h = h
allowed (Err words) h = absurd h
