use Rattle.std.proofs.Common.{◌+◌, get_or, drop, None, sym, ◌∙◌, arith}
use Rattle.std.proofs.lemmas.List.{at_drop_more}
use Rattle.vast_literal.specs.PlainFile.{is_plain_maybe, are_plain_statements, are_plain_arms}
use Rattle.vast_core.specs.declared.node.CaseArm.{CaseArm}
use Rattle.vast_core.specs.Bench.{maybe_tree_of}
use Rattle.vast_core.specs.FileTree.{block_tree, case_arms_tree}
use Rattle.vast_core.specs.View.{bench}
use Rattle.vast_plain.proofs.Tests.{and-assoc}
use Rattle.vast_plain.proofs.statement.+statements.Goals as goal

abbrev no_arm : CaseArm
no_arm = record { label = None; block = record { id = record { file_id = 0; index = 0 } } }

pub is_plain_case-returns-then-not-branch-2 : goal.is_plain_case-returns-then-not-branch-2
is_plain_case-returns-then-not-branch-2 t c =
    let b = bench c.args.ast.now in
    let xs = c.deref-arm-items.result.now in
    let i = c.loop-arm.arm-index in
    let x : CaseArm = get_or xs i no_arm in
    grind (
      arith,
      at_drop_more (λ ys. are_plain_arms (case_arms_tree b ys)) xs i no_arm c.loop-arm-test.true
          ∙ sym (and-assoc (is_plain_maybe (maybe_tree_of b x.label)) (are_plain_statements (block_tree b x.block)) (are_plain_arms (case_arms_tree b (drop (i + 1) xs)))),
    )
