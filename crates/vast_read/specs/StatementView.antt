-- The normal statements that statements of the reader stand for.
use Rattle.std.specs.Prelude.{List, option_map, map}
use Rattle.vast_literal.specs.NormalFile as normal
use Rattle.vast_literal.specs.NormalFile.{NormalStatements}
use Rattle.vast_read.specs.Texts.{key_of}
use Rattle.vast_read.specs.StatementParts.{ChoicePart, LabelPart, block_of, arms_of, labels_of}
use Rattle.vast_read.specs.View.{view}
use Rattle.vast_read.specs.declared.tree.statement.NormalStatement.{NormalStatement, fold-NormalStatement}
use Rattle.vast_read.specs.declared.tree.statement.NormalStatement.TheOpen.{NormalStatement-F, Arm-F, CaseArm-F}

-- One level, with each statement, arm and label inside already seen.
abbrev pub statement_level : NormalStatement-F normal.NormalStatement ChoicePart LabelPart → normal.NormalStatement
statement_level (NormalStatement-F.Blocking l r) = normal.BlockingStatement (view l.value) (view r.value)
statement_level (NormalStatement-F.Nonblocking l r) = normal.NonblockingStatement (view l.value) (view r.value)
statement_level (NormalStatement-F.Assign l r) = normal.AssignStatement (view l.value) (view r.value)
statement_level (NormalStatement-F.Task x) = normal.TaskStatement (view x.value)
statement_level (NormalStatement-F.Choice arms last) = normal.ChoiceStatement (arms_of arms (option_map block_of last))
statement_level (NormalStatement-F.Case unique word selector arms) = normal.CaseStatement unique (key_of word) (view selector.value) (labels_of arms)
statement_level (NormalStatement-F.For i x e b) = normal.ForStatement i (view x.value) (view e.value) (block_of b)

abbrev pub arm_level : Arm-F normal.NormalStatement ChoicePart LabelPart → ChoicePart
arm_level a = (view a.condition.value, block_of a.block)

abbrev pub label_level : CaseArm-F normal.NormalStatement ChoicePart LabelPart → LabelPart
label_level a = (option_map (λ x. view x.value) a.label, block_of a.block)

-- The normal statement that a statement of the reader stands for, case by case.
abbrev pub statement_view : NormalStatement → normal.NormalStatement
statement_view = fold-NormalStatement normal.NormalStatement ChoicePart LabelPart statement_level arm_level label_level

-- A block, arms and labels.
abbrev pub block_view : List NormalStatement → NormalStatements
block_view ss = block_of (map statement_view ss)
