-- The printed text of the design `registers`.
use Rattle.std.proofs.Common.{◌≡◌, ℕ, pos, true, false, List, [], ◌∷◌, Some, Result, Ok, Err, IfOk, refl, codes}
use Rattle.std.specs.Fmt.{digits}
use Rattle.vast_literal.specs.Tree.{LiteralTree, TypeTree, ScalarTree, VectorTree, PortTree, MemberTree, DeclarationMember, NoMembers, MoreMembers, ModuleItem, FileTree}
use Rattle.vast_literal.specs.declared.kind.VastFileType.TheVariants.{SystemVerilog as SystemVerilogDialect}
use Rattle.vast_literal.specs.declared.kind.DataKind.TheVariants.{Logic as LogicKind, Wire as WireKind}
use Rattle.vast_literal.specs.declared.kind.ModulePortDirection.TheVariants.{Input as InputDirection}
use Rattle.vast_literal.specs.declared.error.VastFault.{VastFault}
use Rattle.vast_core.specs.declared.handle.Expr.{Expr}
use Rattle.vast_core.specs.declared.handle.VastModule.{VastModule}
use Rattle.vast_core.specs.Nodes.{expr_in, type_in}
use Rattle.vast_core.specs.Bench.{Bench, tree_of}
use Rattle.vast_core.specs.FileTree.{tree, families}
use Rattle.vast_literal.specs.NormalExpr.{unary_operator_token}
use Rattle.vast_print.specs.Printed.{plain_text, ◌⊕◌, spaced, wrapped}
use Rattle.vast_print.specs.Text.{expr_text}
use Rattle.vast_print.specs.Statements.{begin_end, statement_page, statements_page, block_page}
use Rattle.vast_print.specs.Declaration.{packed_text, unpacked_text, highest_index_text, with_dimensions, based_text, type_text, name_text, declaration_text}
use Rattle.vast_print.specs.Page.{print_lines, print, no_lines, line, inner_lines, inner, lead_lines, lead, above, beside_lines, written_lines, written, beside}
use Rattle.vast_print.specs.Members.{entries_page, always_opening, always_text, events_text, more_events_text, member_page, members_page}
use Rattle.vast_print.specs.Layout.{port_text, ports_page, opening_page, header_page, body_page, module_page, item_page, items_page, layout}
use Rattle.xlsynth_vast.specs.declared.helpers.registers.Reset.{Reset}
use Rattle.xlsynth_vast.specs.declared.helpers.registers.RegisterDefinition.{RegisterDefinition}
use Rattle.xlsynth_vast.specs.declared.helpers.registers.RegisterScope.TheVariants.{Module as ModuleScope}
use Rattle.xlsynth_vast.specs.Registers.{registers_member, maybe_reset_tree, register_trees}
use Rattle.xlsynth_vast.specs.AddedRegisters.{with_assigned, with_if, with_branches, with_register_block, with_registers, AddsRegisters, MayAddRegisters}
use Rattle.vast_designs.specs.DesignTexts.{registers_text}
use Rattle.vast_designs.specs.Internal.RegistersFile.{the_module, clock, reset, the_signals, the_state, the_values, enabled, plain, signals_made, state_made, values_made}

-- The tree of the file, with this member at its end.

abbrev bit_port : List ℕ → PortTree
bit_port name = record { direction = InputDirection; declaration = record { kind = WireKind; type = ScalarTree false; name = name } }

abbrev byte_tree : TypeTree
byte_tree = VectorTree (LiteralTree (codes "8") (Some (pos 8))) (Some (pos 8)) false

abbrev byte_logic : List ℕ → MemberTree
byte_logic name = DeclarationMember (record { kind = LogicKind; type = byte_tree; name = name })

unfoldable design_with : MemberTree → FileTree
design_with last =
    record {
      dialect = SystemVerilogDialect;
      items =
          ModuleItem (record {
            name = codes "regs_rst_en";
            parameters = [];
            ports = bit_port (codes "clk") ∷ bit_port (codes "rst") ∷ bit_port (codes "en") ∷ [];
            members = MoreMembers (byte_logic (codes "r")) (MoreMembers (byte_logic (codes "r_next")) (MoreMembers (byte_logic (codes "r2")) (MoreMembers (byte_logic (codes "r2_next")) (MoreMembers last NoMembers))));
          }) ∷ [];
    }

abbrev the_reset : Reset
the_reset = record { signal = record { id = reset.id }; active_low = true }

-- The registers' always block, as a tree.
abbrev the_member : MemberTree
the_member = registers_member (tree_of values_made (record { id = clock.id })) (maybe_reset_tree values_made (Some the_reset)) (register_trees values_made (enabled the_signals the_state the_values ∷ plain the_state the_values ∷ []))

whole : tree (with_registers (record { id = clock.id }) (Some the_reset) (enabled the_signals the_state the_values ∷ plain the_state the_values ∷ []) (ModuleScope the_module) values_made) ≡ design_with the_member
unfolding tree families expr_in type_in design_with digits signals_made state_made values_made with_registers with_register_block with_branches with_if with_assigned
whole = refl

registers_printed : print (layout (design_with the_member)) ≡ registers_text
unfolding registers_text design_with signals_made state_made values_made expr_in type_in print print_lines layout items_page item_page module_page header_page opening_page ports_page port_text entries_page body_page members_page member_page always_opening always_text events_text more_events_text begin_end statement_page statements_page block_page expr_text unary_operator_token declaration_text name_text type_text based_text packed_text unpacked_text highest_index_text with_dimensions spaced wrapped inner inner_lines lead lead_lines no_lines line above beside beside_lines written written_lines plain_text ◌⊕◌ digits
registers_printed = refl

-- The text after the registers are added.
pub registers-added :
    (b c : Bench) (result : Result (Unit {0}) VastFault) (x s : Expr) (r q : RegisterDefinition) (m : VastModule) →
    b ≡ values_made → x ≡ record { id = clock.id } → s ≡ record { id = reset.id } →
    r ≡ enabled the_signals the_state the_values → q ≡ plain the_state the_values → m ≡ the_module →
    MayAddRegisters b c result x (Some (record { signal = s; active_low = true })) (r ∷ q ∷ []) (ModuleScope m) →
    IfOk result (λ _. print (layout (tree c)) ≡ registers_text)
registers-added b c (Ok done) x s r q m e ex es er eq em h =
    let added : AddsRegisters values_made c (record { id = clock.id }) (Some the_reset) (enabled the_signals the_state the_values ∷ plain the_state the_values ∷ []) (ModuleScope the_module) = simp (e, ex, es, er, eq, em) at h in
    rw (added.after, whole) registers_printed
registers-added b c (Err fault) x s r q m e ex es er eq em h = tt
