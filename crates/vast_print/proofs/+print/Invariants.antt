use Rattle.std.proofs.Common.{◌≡◌, ◌+◌, drop, codes}
use Rattle.vast_core.specs.FileTree.{families, conditional_statement, case_statement, block_tree, statements_tree, alternates_tree, case_arms_tree}
use Rattle.vast_core.specs.View.{bench}
use Rattle.vast_print.specs.Output.{Unstopped, word, next, indented, inline}
use Rattle.vast_print.specs.Statements.{statement_page, statements_page, alternates_page, arms_page}
use Rattle.vast_core.proofs.Heights.{height, statement_height}
use Rattle.vast_print.proofs.+print.Given as goal
use Rattle.vast_print.proofs.Left.{LinesLeft}

abbrev pub decreases-statement::print_block : goal.decreases-statement::print_block
decreases-statement::print_block l = height l.b.id.index + 2

abbrev pub decreases-statement::print_statements : goal.decreases-statement::print_statements
decreases-statement::print_statements l = height l.b.id.index + 1

abbrev pub decreases-statement::print_statement : goal.decreases-statement::print_statement
decreases-statement::print_statement l = statement_height l.statement.now

abbrev pub decreases-conditional::print_conditional : goal.decreases-conditional::print_conditional
decreases-conditional::print_conditional l = height l.c.id.index + 4

abbrev pub decreases-case::print_case : goal.decreases-case::print_case
decreases-case::print_case l = height l.c.id.index + 4

abbrev pub decreases-case::print_arm : goal.decreases-case::print_arm
decreases-case::print_arm l = height l.arm.block.id.index + 3

abbrev pub decreases-counting::print_for : goal.decreases-counting::print_for
decreases-counting::print_for l = height l.parts.now.block.id.index + 3

abbrev pub invariant-statement::print_statements-loop-statement : goal.invariant-statement::print_statements-loop-statement
invariant-statement::print_statements-loop-statement l = LinesLeft l.fn.out l.out (statements_page (block_tree (bench l.ast) l.fn.b)) (statements_page (statements_tree (bench l.ast) (drop l.statement-index l.statement-items)))

abbrev pub invariant-conditional::print_conditional-loop-arm : goal.invariant-conditional::print_conditional-loop-arm
invariant-conditional::print_conditional-loop-arm l =
    record {
      same : indented l.fn.out.margin (Unstopped l.fn.out.draft) (statement_page (conditional_statement (families (bench l.ast) l.fn.c.id.index))) ≡ inline l.fn.out.margin (Unstopped l.out.draft) (alternates_page (alternates_tree (bench l.ast) (drop l.arm-index l.arm-items) l.node.otherwise));
      margin : l.out.margin ≡ l.fn.out.margin;
    }

abbrev pub invariant-case::print_case-loop-arm : goal.invariant-case::print_case-loop-arm
invariant-case::print_case-loop-arm l =
    record {
      same : indented l.fn.out.margin (Unstopped l.fn.out.draft) (statement_page (case_statement (families (bench l.ast) l.fn.c.id.index))) ≡ word (next l.fn.out.margin (indented (l.fn.out.margin + 1) (Unstopped l.out.draft) (arms_page l.node.kind (case_arms_tree (bench l.ast) (drop l.arm-index l.arm-items))))) (codes "endcase");
      margin : l.out.margin ≡ l.fn.out.margin + 1;
    }
