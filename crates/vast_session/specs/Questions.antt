-- What a question is in a line, and what it returns: a fact that is read off the file, or why there is none.
use Rattle.std.specs.Prelude.{◌≡◌, ℕ, ℤ, Bool, List, length, map, Option, Some, None, Result, Ok, Err, ok_or, option_and_then, option_map, slice_get, string_bytes}
use Rattle.vast_literal.specs.Keyword.{is_keyword}
use Rattle.vast_literal.specs.Literal.{and_then}
use Rattle.vast_literal.specs.PlainFile.{is_plain_file}
use Rattle.vast_literal.specs.Tree.{MaybeExpr, NoExpr, SomeExpr}
use Rattle.vast_literal.specs.declared.kind.ModulePortDirection.{ModulePortDirection}
use Rattle.vast_literal.specs.declared.kind.ModulePortDirection.TheVariants.{Input, Output}
use Rattle.vast_core.specs.Bench.{Bench, tree_of, type_of}
use Rattle.vast_core.specs.Containers.{has_else}
use Rattle.vast_core.specs.FileTree.{tree}
use Rattle.vast_core.specs.Types.{is_castable, is_packable, is_signed, width_of}
use Rattle.vast_core.specs.declared.handle.ModulePort.{ModulePort}
use Rattle.vast_print.specs.Layout.{layout}
use Rattle.vast_print.specs.Page.{print}
use Rattle.vast_print.specs.Printed.{refusal_text}
use Rattle.vast_print.specs.Text.{expr_text}
use Rattle.vast_print.specs.declared.refusal.Refusal.{Refusal}
use Rattle.xlsynth_vast.specs.Conditions.{is_free, is_usable_width}
use Rattle.xlsynth_vast.specs.Equations.{name_of}
use Rattle.xlsynth_vast.specs.Inspections.{direction_at, logic_ref_at, members_in, name_at, name_of_ref, ports_in, ports_towards, type_at, width_at}
use Rattle.xlsynth_vast.specs.Widths.{declared_width, flat_bits}
use Rattle.vast_script.specs.Arguments.{IsCause, one}
use Rattle.vast_script.specs.Kinds.{Kind, a_conditional, a_logic_ref, a_module, a_type, an_expr}
use Rattle.vast_script.specs.Outcome.{Cause, InWords, OtherKind, cause_of}
use Rattle.vast_script.specs.declared.answer.Answer.{Answer}
use Rattle.vast_script.specs.declared.fault.StepFault.{StepFault}
use Rattle.vast_calls.specs.declared.questions.Question.{Question}
use Rattle.vast_calls.specs.declared.questions.Question.TheVariants.{Module, Value as OfValue}
use Rattle.vast_session.specs.declared.questions.answered.PortValue.{PortValue}
use Rattle.vast_session.specs.declared.questions.answered.Value.{Value}
use Rattle.vast_session.specs.declared.questions.answered.Value.TheVariants.{Text, Nothing, Truth, Number, Count, Ports}
use Rattle.vast_calls.specs.declared.questions.ModuleQuestion.{ModuleQuestion}
use Rattle.vast_calls.specs.declared.questions.ModuleQuestion.TheVariants.{LogicRefName, ModuleInputPorts, ModuleMemberCount, ModuleName, ModuleOutputPorts, ModulePorts, NameIsFree}
use Rattle.vast_calls.specs.declared.questions.ValueQuestion.{ValueQuestion}
use Rattle.vast_calls.specs.declared.questions.ValueQuestion.TheVariants.{ConditionalHasElse, Emit, EmitExpression, FileIsPlain, IsSystemVerilogKeyword, TypeCanBeCast, TypeCanBePacked, TypeFlatBitCountAsInt64, TypeIsSigned, TypeWidthAsInt64, TypeWidthExpr, WidthIsUsable}
use Rattle.vast_calls.specs.CallArguments.{text}

-- What the file has of a port.
pub record PortFact : Type 0 where
  pub name : Option (List ℕ)
  pub direction : Option ModulePortDirection
  pub width : Option ℤ
  pub signed : Option Bool
  pub reference : Option (List ℕ)

abbrev pub port_fact : Bench → ModulePort → PortFact
port_fact b port = record {
  name = name_at b port;
  direction = direction_at b port;
  width = width_at b port;
  signed = option_map (λ t. is_signed (type_of b t)) (type_at b port);
  reference = option_and_then (name_of_ref b) (logic_ref_at b port);
}

-- What a question answers: a text, that there is no width, a truth, a number of bits, one of members, or ports.
pub data Fact : Type 0 where
  Words : List ℕ → Fact
  NoWidth : Fact
  Whether : Bool → Fact
  Bits : ℤ → Fact
  Members : ℕ → Fact
  PortsAre : List PortFact → Fact

-- A text, unless it is refused; and a number, unless that is.

abbrev pub words_unless : Option Refusal → List ℕ → Result Fact Cause
words_unless None words = Ok (Words words)
words_unless (Some refusal) words = Err (InWords (refusal_text refusal))

abbrev pub bits_or : Result ℤ (List ℕ) → Result Fact Cause
bits_or (Ok bits) = Ok (Bits bits)
bits_or (Err words) = Err (InWords words)

-- The text of a width, where there is one.
abbrev pub width_words : MaybeExpr → Result Fact Cause
width_words NoExpr = Ok NoWidth
width_words (SomeExpr width) = words_unless (expr_text width).fault (expr_text width).text

-- What questions answer about a file, over the answers so far.
module _ (b : Bench) (answers : List Answer) where
  -- A fact about one answer.
  abbrev pub about : {A : Type 0} → Kind A → ℕ → (A → Fact) → Result Fact Cause
  about kind n fact = and_then (one kind b answers n) (λ x. Ok (fact x))

  abbrev pub module_fact : ModuleQuestion → Result Fact Cause
  module_fact (LogicRefName a) = and_then (one a_logic_ref b answers a) (λ r. ok_or (option_map Words (name_of_ref b r)) OtherKind)
  module_fact (ModuleInputPorts a) = about a_module a (λ m. PortsAre (map (port_fact b) (ports_towards Input b m)))
  module_fact (ModuleMemberCount a) = about a_module a (λ m. Members (length (members_in b m)))
  module_fact (ModuleName a) = about a_module a (λ m. Words (name_of b m))
  module_fact (ModuleOutputPorts a) = about a_module a (λ m. PortsAre (map (port_fact b) (ports_towards Output b m)))
  module_fact (ModulePorts a) = about a_module a (λ m. PortsAre (map (port_fact b) (ports_in b m)))
  module_fact (NameIsFree a name) = about a_module a (λ m. Whether (is_free b m (string_bytes name)))

  abbrev pub value_fact : ValueQuestion → Result Fact Cause
  value_fact (ConditionalHasElse a) = about a_conditional a (λ c. Whether (has_else (slice_get b.nests c.id.index)))
  value_fact Emit = words_unless (layout (tree b)).fault (print (layout (tree b)))
  value_fact (EmitExpression a) = and_then (one an_expr b answers a) (λ e. words_unless (expr_text (tree_of b e)).fault (expr_text (tree_of b e)).text)
  value_fact FileIsPlain = Ok (Whether (is_plain_file (tree b)))
  value_fact (IsSystemVerilogKeyword word) = Ok (Whether (is_keyword (string_bytes word)))
  value_fact (TypeCanBeCast a) = about a_type a (λ t. Whether (is_castable (type_of b t)))
  value_fact (TypeCanBePacked a) = about a_type a (λ t. Whether (is_packable (type_of b t)))
  value_fact (TypeFlatBitCountAsInt64 a) = and_then (one a_type b answers a) (λ t. bits_or (flat_bits (type_of b t)))
  value_fact (TypeIsSigned a) = about a_type a (λ t. Whether (is_signed (type_of b t)))
  value_fact (TypeWidthAsInt64 a) = and_then (one a_type b answers a) (λ t. bits_or (declared_width (type_of b t)))
  value_fact (TypeWidthExpr a) = and_then (one a_type b answers a) (λ t. width_words (width_of (type_of b t)))
  value_fact (WidthIsUsable a) = about an_expr a (λ e. Whether (is_usable_width (tree_of b e)))

  -- What the file has of a question, or the cause why there is nothing.
  abbrev pub fact_of : Question → Result Fact Cause
  fact_of (Module question) = module_fact question
  fact_of (OfValue question) = value_fact question

-- The fact that a value says.

abbrev pub port_told : PortValue → PortFact
port_told port = record {
  name = Some (string_bytes port.name);
  direction = Some port.direction;
  width = Some port.width;
  signed = Some port.signed;
  reference = Some (string_bytes port.reference);
}

-- What a value tells.
abbrev pub fact_told : Value → Fact
fact_told (Text words) = Words (string_bytes words)
fact_told Nothing = NoWidth
fact_told (Truth truth) = Whether truth
fact_told (Number bits) = Bits bits
fact_told (Count members) = Members members
fact_told (Ports ports) = PortsAre (map port_told ports.items)

-- The value says the fact, or the fault is why there is none, or memory was refused.
abbrev pub Tells : Result Value StepFault → Result Fact Cause → Type 0
Tells (Ok value) fact = fact ≡ Ok (fact_told value)
Tells (Err fault) fact = IsCause (cause_of fault) fact

-- This becomes of a question.
abbrev pub Asks : Bench → List Answer → Result Value StepFault → Question → Type 0
Asks b answers result question = Tells result (fact_of b answers question)
