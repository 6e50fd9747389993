-- Worked statements: those of the other files, the normal forms of some trees, and what some texts of expressions derive, which
-- is computed by running the rows of expressions.
use Rattle.std.proofs.Common.{◌≡◌, negsuc, true, Some, refl, codes}
use Rattle.vast_literal.specs.Keyword.{is_keyword}
use Rattle.vast_literal.specs.Tokens.{level, is_unary, word_token}
use Rattle.vast_literal.specs.Scan.{tokens}
use Rattle.vast_literal.specs.declared.operator.BinaryOperator.TheVariants.{Sub as SubOp, Power as PowerOp}
use Rattle.vast_literal.specs.Tree.{LiteralTree, BinaryTree, WidthCastTree, TypeCastTree, ExternalTree}
use Rattle.vast_literal.specs.NormalExpr.{Name, Literal, Unary, Binary, binary_operator_token, normal_literal, normal}
use Rattle.vast_literal.specs.PlainFile.{is_plain_file}
use Rattle.vast_literal.specs.WorkedTexts.{named, passthrough_file, WorkedTexts}
use Rattle.vast_expressions.specs.Events.{trace, traces, mores}
use Rattle.vast_expressions.specs.Rows.{code, take_row, operand_row, rest_row, right_row, selects_row, select_end_row, member_name_row, word_row, macro_row, primary_row, maybe_cast_row, type_name_row, arguments_row, more_row, braces_row, brace_next_row}
use Rattle.vast_expressions.proofs.Computed.{run, outcome, only, none}
use Rattle.vast_rows.specs.Numbers.{Minus, Power}
use Rattle.vast_rows.proofs.FilePins
use Rattle.vast_rows.proofs.LoopPin.{no_disjunction}

groups_differ :
    normal (BinaryTree SubOp (named (codes "a")) (BinaryTree SubOp (named (codes "b")) (named (codes "c"))))
    ≡ normal (BinaryTree SubOp (BinaryTree SubOp (named (codes "a")) (named (codes "b"))) (named (codes "c"))) → ⊥
unfolding normal binary_operator_token
groups_differ e = absurd (cc e)

negated_base : normal (BinaryTree PowerOp (LiteralTree (codes "-1") (Some (negsuc 0))) (named (codes "a"))) ≡ Binary Power (Unary Minus (Literal (codes "1"))) (Name (codes "a"))
unfolding normal binary_operator_token normal_literal
negated_base = refl

width_or_type : normal (WidthCastTree (named (codes "W")) (named (codes "x"))) ≡ normal (TypeCastTree (ExternalTree (codes "W")) (named (codes "x")))
unfolding normal
width_or_type = refl

passthrough_is_plain : is_plain_file passthrough_file ≡ true
unfolding is_keyword
passthrough_is_plain = refl

pub worked_texts : WorkedTexts
unfolding tokens word_token is_keyword level is_unary outcome run code take_row operand_row rest_row right_row selects_row select_end_row member_name_row word_row macro_row primary_row maybe_cast_row type_name_row arguments_row more_row braces_row brace_next_row trace traces mores
worked_texts =
    record {
      nested_parentheses = only _ _ refl;
      no_spaces = only _ _ refl;
      two_names = none _ tt;
      two_ands = none _ tt;
      negated_name = only _ _ refl;
      minus_minus = only _ _ refl;
      no_group = only _ _ refl;
      left_group = only _ _ refl;
      right_group = only _ _ refl;
      two_choices = only _ _ refl;
      grouped_choices = only _ _ refl;
      bare_cast = only _ _ refl;
      wrapped_cast = only _ _ refl;
      replication = only _ _ refl;
      nested_concatenation = only _ _ refl;
      member_of_element = only _ _ refl;
      numbered_member = none _ tt;
      assigned_comparison = FilePins.assigned_comparison;
      labelled_by_ternary = FilePins.labelled_by_ternary;
      wire_of_type = FilePins.wire_of_type;
      variable_of_type = FilePins.variable_of_type;
      wire_of_name = FilePins.wire_of_name;
      no_disjunction = no_disjunction;
      bare_body = FilePins.bare_body;
      block_of_casez = FilePins.block_of_casez;
      groups_differ = groups_differ;
      negated_base = negated_base;
      width_or_type = width_or_type;
      passthrough_is_plain = passthrough_is_plain;
    }
