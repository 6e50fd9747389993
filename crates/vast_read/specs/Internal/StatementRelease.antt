-- How many rounds of a loop it takes at most to let a statement go.
use Rattle.std.specs.Prelude.{ℕ, ◌+◌, List, Option, Some, None, map, option_map}
use Rattle.vast_read.specs.Internal.Release.{Rounds, rounds_each, rounds_first_last, of_nothing, of_list, left_with}
use Rattle.vast_read.specs.declared.tree.statement.NormalStatement.{NormalStatement, fold-NormalStatement}
use Rattle.vast_read.specs.declared.tree.statement.NormalStatement.TheOpen.{NormalStatement-F, Arm-F, CaseArm-F}
use Rattle.vast_read.specs.declared.tree.statement.Arm.{Arm, fold-Arm}
use Rattle.vast_read.specs.declared.tree.statement.CaseArm.{CaseArm, fold-CaseArm}

-- Of a block of such statements, while another waits and when nothing else is left.
abbrev pub of_block : List Rounds → Rounds
of_block ss = (rounds_each ss, rounds_first_last ss)

abbrev pub of_last : Option (List Rounds) → Rounds
of_last None = (0, 0)
of_last (Some ss) = of_block ss

-- Of a conditional: its arms go first, and then the block of its last `else`.
abbrev pub of_choice : List Rounds → Rounds → Rounds
of_choice arms last = (rounds_each arms + last.0 + 2, rounds_each arms + last.1 + 1)

-- One level, with the rounds of each statement, arm and label inside.
abbrev pub statement_step : NormalStatement-F Rounds Rounds Rounds → Rounds
statement_step (NormalStatement-F.Blocking l r) = of_nothing
statement_step (NormalStatement-F.Nonblocking l r) = of_nothing
statement_step (NormalStatement-F.Assign l r) = of_nothing
statement_step (NormalStatement-F.Task x) = of_nothing
statement_step (NormalStatement-F.Choice arms last) = of_choice arms (of_last last)
statement_step (NormalStatement-F.Case unique word selector arms) = of_list arms
statement_step (NormalStatement-F.For i x e b) = of_list b

abbrev pub arm_step : Arm-F Rounds Rounds Rounds → Rounds
arm_step a = of_block a.block

abbrev pub label_step : CaseArm-F Rounds Rounds Rounds → Rounds
label_step a = of_block a.block

abbrev pub statement_rounds : NormalStatement → Rounds
statement_rounds = fold-NormalStatement Rounds Rounds Rounds statement_step arm_step label_step

abbrev pub arm_rounds : Arm → Rounds
arm_rounds = fold-Arm Rounds Rounds Rounds statement_step arm_step label_step

abbrev pub label_rounds : CaseArm → Rounds
label_rounds = fold-CaseArm Rounds Rounds Rounds statement_step arm_step label_step

abbrev pub statement_beside : NormalStatement → ℕ
statement_beside s = (statement_rounds s).0

abbrev pub statement_alone : NormalStatement → ℕ
statement_alone s = (statement_rounds s).1

abbrev pub block_beside : List NormalStatement → ℕ
block_beside ss = rounds_each (map statement_rounds ss)

abbrev pub block_alone : List NormalStatement → ℕ
block_alone ss = rounds_first_last (map statement_rounds ss)

-- Of a statement, and of a block where one waits.
abbrev pub statement_left : NormalStatement → Option (List NormalStatement) → ℕ
statement_left = left_with statement_rounds

-- Of a conditional of these arms and this last block.
abbrev pub choice_alone : List Arm → Option (List NormalStatement) → ℕ
choice_alone arms last = (of_choice (map arm_rounds arms) (of_last (option_map (map statement_rounds) last))).1
