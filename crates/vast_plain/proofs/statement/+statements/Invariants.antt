use Rattle.std.proofs.Common.{◌≡◌, ◌+◌, drop}
use Rattle.vast_literal.specs.PlainFile.{is_plain_statement, are_plain_statements, are_plain_alternates, are_plain_arms}
use Rattle.vast_core.specs.FileTree.{families, conditional_statement, case_statement, block_tree, statements_tree, alternates_tree, case_arms_tree}
use Rattle.vast_core.specs.View.{bench}
use Rattle.vast_core.proofs.Heights.{height, statement_height}
use Rattle.vast_plain.proofs.statement.+statements.Given as goal

abbrev pub decreases-is_plain_block : goal.decreases-is_plain_block
decreases-is_plain_block l = height l.b.id.index + 1

abbrev pub decreases-is_plain_statement : goal.decreases-is_plain_statement
decreases-is_plain_statement l = statement_height l.statement.now

abbrev pub decreases-is_plain_conditional : goal.decreases-is_plain_conditional
decreases-is_plain_conditional l = height l.c.id.index + 3

abbrev pub decreases-is_plain_arm : goal.decreases-is_plain_arm
decreases-is_plain_arm l = height l.b.id.index + 2

abbrev pub decreases-is_plain_case : goal.decreases-is_plain_case
decreases-is_plain_case l = height l.c.id.index + 3

abbrev pub decreases-is_plain_case_arm : goal.decreases-is_plain_case_arm
decreases-is_plain_case_arm l = height l.arm.block.id.index + 2

abbrev pub decreases-is_plain_for : goal.decreases-is_plain_for
decreases-is_plain_for l = height l.parts.now.block.id.index + 2

abbrev pub invariant-is_plain_block-loop-statement : goal.invariant-is_plain_block-loop-statement
invariant-is_plain_block-loop-statement l =
    are_plain_statements (block_tree (bench l.ast) l.fn.b)
    ≡ are_plain_statements (statements_tree (bench l.ast) (drop l.statement-index l.statement-items))

abbrev pub invariant-is_plain_conditional-loop-arm : goal.invariant-is_plain_conditional-loop-arm
invariant-is_plain_conditional-loop-arm l =
    is_plain_statement (conditional_statement (families (bench l.ast) l.fn.c.id.index))
    ≡ are_plain_alternates (alternates_tree (bench l.ast) (drop l.arm-index l.arm-items) l.node.otherwise)

abbrev pub invariant-is_plain_case-loop-arm : goal.invariant-is_plain_case-loop-arm
invariant-is_plain_case-loop-arm l =
    is_plain_statement (case_statement (families (bench l.ast) l.fn.c.id.index))
    ≡ are_plain_arms (case_arms_tree (bench l.ast) (drop l.arm-index l.arm-items))
