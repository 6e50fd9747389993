-- Questions by their names and arguments.
use Rattle.std.specs.Prelude.{◌≡◌, ℕ, List, [], ◌++◌, Option, codes}
use Rattle.vast_calls.specs.declared.names.Named.{Named}
use Rattle.vast_calls.specs.declared.questions.Question.{Question}
use Rattle.vast_calls.specs.declared.questions.Question.TheVariants.{Module, Value as OfValue}
use Rattle.vast_calls.specs.declared.questions.ModuleQuestion.{ModuleQuestion}
use Rattle.vast_calls.specs.declared.questions.ModuleQuestion.TheVariants.{LogicRefName, ModuleInputPorts, ModuleMemberCount, ModuleName, ModuleOutputPorts, ModulePorts, NameIsFree}
use Rattle.vast_calls.specs.declared.questions.ValueQuestion.{ValueQuestion}
use Rattle.vast_calls.specs.declared.questions.ValueQuestion.TheVariants.{ConditionalHasElse, Emit, EmitExpression, FileIsPlain, IsSystemVerilogKeyword, TypeCanBeCast, TypeCanBePacked, TypeFlatBitCountAsInt64, TypeIsSigned, TypeWidthAsInt64, TypeWidthExpr, WidthIsUsable}
use Rattle.vast_calls.specs.CallArguments.{Piece, place, text}
use Rattle.vast_calls.specs.Lines.{line_arguments, line_word}
use Rattle.vast_calls.specs.Written.{AreWritten}

-- The name of a question, its sign included, and its arguments.

abbrev pub module_words : ModuleQuestion → List ℕ × List Piece
module_words (LogicRefName a) = (codes "?LogicRefName", place a)
module_words (ModuleInputPorts a) = (codes "?ModuleInputPorts", place a)
module_words (ModuleMemberCount a) = (codes "?ModuleMemberCount", place a)
module_words (ModuleName a) = (codes "?ModuleName", place a)
module_words (ModuleOutputPorts a) = (codes "?ModuleOutputPorts", place a)
module_words (ModulePorts a) = (codes "?ModulePorts", place a)
module_words (NameIsFree a b) = (codes "?NameIsFree", place a ++ text b)

abbrev pub value_words : ValueQuestion → List ℕ × List Piece
value_words (ConditionalHasElse a) = (codes "?ConditionalHasElse", place a)
value_words Emit = (codes "?Emit", [])
value_words (EmitExpression a) = (codes "?EmitExpression", place a)
value_words FileIsPlain = (codes "?FileIsPlain", [])
value_words (IsSystemVerilogKeyword a) = (codes "?IsSystemVerilogKeyword", text a)
value_words (TypeCanBeCast a) = (codes "?TypeCanBeCast", place a)
value_words (TypeCanBePacked a) = (codes "?TypeCanBePacked", place a)
value_words (TypeFlatBitCountAsInt64 a) = (codes "?TypeFlatBitCountAsInt64", place a)
value_words (TypeIsSigned a) = (codes "?TypeIsSigned", place a)
value_words (TypeWidthAsInt64 a) = (codes "?TypeWidthAsInt64", place a)
value_words (TypeWidthExpr a) = (codes "?TypeWidthExpr", place a)
value_words (WidthIsUsable a) = (codes "?WidthIsUsable", place a)

-- The name and the arguments of a question.
abbrev pub question_words : Question → List ℕ × List Piece
question_words (Module question) = module_words question
question_words (OfValue question) = value_words question

-- The line is this question, by what names stand for and the numbers that were passed over.
abbrev pub IsQuestionOf : (named : List ℕ → Option Named) → (skipped : List ℕ) → Question → (line : List ℕ) → Type 0
IsQuestionOf named skipped question line =
    ((question_words question).0 ≡ line_word line) × AreWritten named skipped (question_words question).1 (line_arguments line)
