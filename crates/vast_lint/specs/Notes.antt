-- What the end of a list tells: the answers that no later step has mended.
use Rattle.std.specs.Prelude.{ℕ, zero, ◌+◌, pos, List, [], ◌∷◌, ◌++◌, map, fold, slice_get, Option, Some, None, unwrap_or}
use Rattle.vast_literal.specs.declared.kind.VastFileType.{VastFileType}
use Rattle.vast_literal.specs.declared.kind.VastFileType.TheVariants.{Verilog}
use Rattle.vast_core.specs.Records.{changed_at}
use Rattle.vast_steps.specs.declared.step.Step.{Step}
use Rattle.vast_steps.specs.declared.step.Step.TheVariants.{Expressions, Statements}
use Rattle.vast_steps.specs.declared.step.ExpressionStep.TheVariants.{MakeUnsizedDecimalLiteral, MakeIndexableExpression, MakeConcat, MakeReplicatedConcat, MakeReplicatedConcatI64}
use Rattle.vast_steps.specs.declared.step.StatementStep.TheVariants.{AddFunction, FunctionAddInput, FunctionAddLogicInput, BlockAddCase, BlockAddCasez, BlockAddCasex, CaseAddItem, CaseAddDefault}
use Rattle.vast_lint.specs.declared.facts.Kept.{Kept}
use Rattle.vast_lint.specs.declared.notes.Note.{Note}
use Rattle.vast_lint.specs.declared.notes.Note.TheVariants.{NoArms, NoInputs, NoTimes, Zero, Nothing}
use Rattle.vast_lint.specs.declared.rule.Rule.{Rule}
use Rattle.vast_lint.specs.declared.rule.Rule.TheVariants.{CaseWithoutArms, ZeroReplication, VerilogNoInputs}
use Rattle.vast_lint.specs.declared.warning.Warning.{Warning}

-- The notes of the answers, in order.
abbrev pub notes : List Kept → List Note
notes answers = map (λ answer. answer.note) answers

-- The note of the answer of this number.
abbrev pub note_at : List Note → ℕ → Note
note_at notes number = unwrap_or (slice_get notes number) Nothing

-- A replication by an answer of this note.
abbrev pub replicated : Note → Note
replicated Zero = NoTimes
replicated _ = Nothing

-- The note of the step's answer, which is made of answers of these notes.
abbrev pub opened : List Note → Step → Note
opened notes (Expressions (MakeUnsizedDecimalLiteral (pos zero))) = Zero
opened notes (Expressions (MakeIndexableExpression subject)) = note_at notes subject
opened notes (Expressions (MakeReplicatedConcat times parts)) = replicated (note_at notes times)
opened notes (Expressions (MakeReplicatedConcatI64 (pos zero) parts)) = NoTimes
opened notes (Statements (AddFunction owner name result_type)) = NoInputs
opened notes (Statements (BlockAddCase block selector)) = NoArms
opened notes (Statements (BlockAddCasez block selector)) = NoArms
opened notes (Statements (BlockAddCasex block selector)) = NoArms
opened notes _ = Nothing

-- The answers that the step mends: the function that it gives an input, the case that it gives an arm, and the parts of
-- its concatenation, in which a replication of no times may stand.
abbrev pub mends : Step → List ℕ
mends (Expressions (MakeConcat parts)) = parts.items
mends (Statements (FunctionAddInput function name data_type)) = function ∷ []
mends (Statements (FunctionAddLogicInput function name data_type)) = function ∷ []
mends (Statements (CaseAddItem case pattern)) = case ∷ []
mends (Statements (CaseAddDefault case)) = case ∷ []
mends _ = []

-- The note of what is mended. The number 0 stays what it is.
abbrev pub mended : Note → Note
mended Zero = Zero
mended _ = Nothing

-- The notes after these answers were mended.
abbrev pub all_mended : List Note → List ℕ → List Note
all_mended notes numbers = fold (λ left number. changed_at number mended left) notes numbers

-- The notes after one answer more: that of a step (`Some`), or of what is no step.
abbrev pub noted : List Note → Option Step → List Note
noted notes (Some step) = all_mended (notes ++ opened notes step ∷ []) (mends step)
noted notes None = notes ++ Nothing ∷ []

-- The rule that the end tells of an answer of this note.
abbrev pub end_rule : VastFileType → Note → Option Rule
end_rule dialect NoArms = Some CaseWithoutArms
end_rule dialect NoTimes = Some ZeroReplication
end_rule Verilog NoInputs = Some VerilogNoInputs
end_rule _ _ = None

-- The number of the expression that shows the answer of this number, if one of this note is an expression.
abbrev pub shown_at : Note → ℕ → Option ℕ
shown_at NoTimes number = Some number
shown_at _ number = None

-- The warning of this rule of the answer of this number, where there is a rule.
abbrev pub told_by : Option Rule → ℕ → Option ℕ → List Warning
told_by None number shown = []
told_by (Some rule) number shown = record { rule = rule; number = number; shown = shown } ∷ []

-- What the end tells of answers of these notes, of which the first has this number.
abbrev pub told_at_end : VastFileType → ℕ → List Note → List Warning
told_at_end dialect number [] = []
told_at_end dialect number (note ∷ notes) =
    told_by (end_rule dialect note) number (shown_at note number) ++ told_at_end dialect (number + 1) notes
