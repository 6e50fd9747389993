-- Worked texts of expressions.
use Rattle.std.proofs.Common.{refl}
use Rattle.vast_print.specs.Text.{expr_text, elided, width_cast, cast_to, type_cast}
use Rattle.vast_print.specs.Printed.{wrapped, plain_text, ◌⊕◌, refused}
use Rattle.std.specs.Fmt.{digits}
use Rattle.vast_literal.specs.NormalExpr.{unary_operator_token, binary_operator_token}
use Rattle.vast_literal.specs.Literal.{is_decimal}
use Rattle.vast_print.specs.Bare.{is_bare}
use Rattle.vast_print.specs.WorkedTexts.{WorkedTexts}

pub worked_texts : WorkedTexts
unfolding expr_text unary_operator_token binary_operator_token wrapped plain_text ◌⊕◌ elided refused digits width_cast cast_to is_bare is_decimal type_cast
worked_texts =
    record {
      right_child = refl;
      left_child = refl;
      reductions = refl;
      ternary_condition = refl;
      negative_operand = refl;
      negative_subject = refl;
      negative_child = refl;
      elided_index = refl;
      refused_index = refl;
      refused_pattern = refl;
      first_refusal = refl;
      outer_select = refl;
      part_select = refl;
      member_of_sum = refl;
      based_cast = refl;
      named_cast = refl;
      negated_cast = refl;
      nameless_cast = refl;
      vector_cast = refl;
    }
