-- Worked declarations, members and files.
use Rattle.std.proofs.Common.{◌≡◌, None, refl}
use Rattle.vast_print.specs.Declaration.{declaration_text, name_text, type_text, based_text, packed_text, unpacked_text, highest_index_text, with_dimensions}
use Rattle.vast_print.specs.Printed.{spaced, plain_text, ◌⊕◌, wrapped}
use Rattle.std.specs.Fmt.{digits}
use Rattle.vast_print.specs.Text.{expr_text}
use Rattle.vast_print.specs.Page.{print, print_lines, no_lines, line, above, written, written_lines, beside_lines, inner, inner_lines, commented, commented_lines, lead, lead_lines, beside}
use Rattle.vast_print.specs.Layout.{layout, items_page, item_page, module_page, header_page, opening_page, body_page, ports_page, port_text}
use Rattle.vast_print.specs.Members.{members_page, member_page, entries_page, instance_page, instance_head_page, connections_page, connection_text, loop_text, import_text, enum_text, entry_text, typedef_page, always_opening, always_text, function_page, inputs_text, more_inputs_text, input_text, local_page, locals_page, function_body_page}
use Rattle.vast_print.specs.Statements.{counting_text, statement_page, statements_page, block_page, alternates_page, begin_end, arms_page}
use Rattle.vast_literal.specs.NormalExpr.{unary_operator_token, binary_operator_token}
use Rattle.vast_literal.specs.Keyword.{is_keyword}
use Rattle.vast_literal.specs.WorkedTexts.{passthrough_file}
use Rattle.vast_print.specs.Derived.{FilePrintsPlainly}
use Rattle.vast_print.specs.WorkedPages.{WorkedPages}

passthrough_printed : (layout passthrough_file).fault ≡ None
unfolding print print_lines layout items_page item_page module_page header_page opening_page ports_page port_text entries_page body_page members_page member_page expr_text declaration_text name_text type_text based_text packed_text unpacked_text highest_index_text with_dimensions spaced inner inner_lines lead lead_lines no_lines line above written written_lines beside_lines plain_text ◌⊕◌ digits
passthrough_printed = refl

passthrough_prints_plainly : FilePrintsPlainly passthrough_file
unfolding is_keyword digits
passthrough_prints_plainly = record { plain = refl; well_formed = refl; printed = passthrough_printed }

pub worked_pages : WorkedPages
unfolding declaration_text name_text type_text based_text packed_text unpacked_text highest_index_text with_dimensions spaced plain_text ◌⊕◌ digits expr_text unary_operator_token binary_operator_token wrapped print print_lines layout items_page no_lines item_page module_page header_page opening_page body_page line above written written_lines beside_lines members_page member_page inner inner_lines commented commented_lines ports_page port_text entries_page lead lead_lines instance_page instance_head_page connections_page connection_text loop_text counting_text import_text enum_text entry_text typedef_page always_opening always_text statement_page statements_page block_page alternates_page begin_end beside function_page inputs_text more_inputs_text input_text local_page locals_page function_body_page arms_page
worked_pages =
    record {
      packed_declaration = refl;
      verilog_array = refl;
      packed_by_expression = refl;
      verilog_memory = refl;
      memory = refl;
      grouped_dimension = refl;
      symbolic_highest_index = refl;
      nameless = refl;
      no_items = refl;
      empty_module = refl;
      blank_member = refl;
      import_of_package = refl;
      enumeration = refl;
      structure = refl;
      file_items = refl;
      passthrough = refl;
      passthrough_prints_plainly = passthrough_prints_plainly;
      broken_names = refl;
      unconnected = refl;
      connected = refl;
      loop = refl;
      conditional = refl;
      tasks = refl;
      counted = refl;
      casez_function = refl;
    }
