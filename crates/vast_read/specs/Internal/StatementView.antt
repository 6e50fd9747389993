-- Beside `specs/StatementView.antt`: what private contracts and proofs say, and no public one.
use Rattle.std.specs.Prelude.{List, map}
use Rattle.vast_literal.specs.NormalFile as normal
use Rattle.vast_literal.specs.NormalFile.{Labels}
use Rattle.vast_read.specs.StatementParts.{ChoicePart, LabelPart, labels_of}
use Rattle.vast_read.specs.declared.tree.statement.NormalStatement.{NormalStatement}
use Rattle.vast_read.specs.declared.tree.statement.Arm.{Arm, fold-Arm}
use Rattle.vast_read.specs.declared.tree.statement.CaseArm.{CaseArm, fold-CaseArm}
use Rattle.vast_read.specs.StatementView.{statement_level, arm_level, label_level}

abbrev pub arm_view : Arm → ChoicePart
arm_view = fold-Arm normal.NormalStatement ChoicePart LabelPart statement_level arm_level label_level

abbrev pub label_view : CaseArm → LabelPart
label_view = fold-CaseArm normal.NormalStatement ChoicePart LabelPart statement_level arm_level label_level

abbrev pub labels_view : List CaseArm → Labels
labels_view arms = labels_of (map label_view arms)
