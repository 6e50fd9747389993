-- What a helper does that is a line of a list.
use Rattle.std.specs.Prelude.{◌≡◌, ℕ, ℤ, Bool, true, false, List, [], ◌∷◌, map, Option, Some, None, Result, Ok, Err, IsOkAnd, ⊤}
use Rattle.vast_literal.specs.declared.operator.BinaryOperator.TheVariants.{LogicalAnd as LogicalAndOp, LogicalOr as LogicalOrOp}
use Rattle.vast_literal.specs.Tree.{ExprTree}
use Rattle.vast_core.specs.declared.handle.Expr.{Expr as ExprHandle}
use Rattle.vast_core.specs.declared.handle.IndexableExpr.{IndexableExpr as IndexableHandle}
use Rattle.vast_core.specs.Bench.{Bench, tree_of}
use Rattle.vast_core.specs.FileTree.{tree}
use Rattle.xlsynth_vast.specs.declared.helpers.registers.Reset.{Reset}
use Rattle.xlsynth_vast.specs.declared.helpers.registers.RegisterDefinition.{RegisterDefinition}
use Rattle.xlsynth_vast.specs.declared.helpers.registers.RegisterScope.{RegisterScope}
use Rattle.xlsynth_vast.specs.declared.helpers.registers.RegisterScope.TheVariants.{Module as ModuleScope, GenerateLoop as LoopScope}
use Rattle.xlsynth_vast.specs.AddedRegisters.{MayAddRegisters}
use Rattle.xlsynth_vast.specs.ArrayReduction.{array_reduction}
use Rattle.xlsynth_vast.specs.Expressions.{subject_of}
use Rattle.xlsynth_vast.specs.Registers.{HasUnused}
use Rattle.xlsynth_vast.specs.Reductions.{HasMoreNodes, IsTree, bitwise_reduction, logical_reduction}
use Rattle.vast_script.specs.declared.answer.Answer.{Answer}
use Rattle.vast_script.specs.declared.answer.Answer.TheVariants.{Expr, Nothing}
use Rattle.vast_script.specs.declared.fault.StepFault.{StepFault}
use Rattle.vast_script.specs.declared.fault.StepFault.TheVariants.{NoAnswer, WrongKind, Condition, Refused, Memory}
use Rattle.vast_script.specs.Outcome.{Cause}
use Rattle.vast_script.specs.Kinds.{a_loop, a_module, an_expr, an_indexable}
use Rattle.vast_script.specs.Arguments.{many, one}
use Rattle.vast_calls.specs.declared.helpers.RegisterNumbers.{RegisterNumbers}
use Rattle.vast_calls.specs.declared.helpers.ResetNumbers.{ResetNumbers}
use Rattle.vast_calls.specs.declared.helpers.Helper.{Helper}
use Rattle.vast_calls.specs.declared.helpers.Helper.TheVariants.{AddRegisters, BitwiseOrReduce, BitwiseOrReduceArrayElements, LogicalAndReduce, LogicalOrReduce}

-- The tree is the same, and the file may have nodes and containers more that no list names.
abbrev pub IsUnseen : (old new : Bench) → Type 0
IsUnseen old new = (tree new ≡ tree old) × HasUnused old new

-- After a fault the file is as it was; where memory was refused, its tree is, and it may have nodes that nothing uses.
abbrev pub IsKept : (old new : Bench) → StepFault → Type 0
IsKept old new NoAnswer = new ≡ old
IsKept old new WrongKind = new ≡ old
IsKept old new Condition = new ≡ old
IsKept old new (Refused e) = new ≡ old
IsKept old new Memory = IsUnseen old new

-- The answer is an expression of this tree, and but for nodes the file is as it was.
abbrev pub IsExpression : (old new : Bench) → Answer → Result ExprTree (List ℕ) → Type 0
IsExpression old new answer rule = (e : ExprHandle) × (answer ≡ Expr e) × IsOkAnd rule (IsTree new e) × HasMoreNodes old new

-- The arguments were found, and the answer is the expression that the rule makes of them.
abbrev pub IsMade : {A : Type 0} → (old new : Bench) → Answer → Result A Cause → (A → Result ExprTree (List ℕ)) → Type 0
IsMade old new answer (Err cause) rule = ⊥
IsMade old new answer (Ok x) rule = IsExpression old new answer (rule x)

-- An expression with the rule's tree was made, or what a fault keeps is kept.
abbrev pub Makes : {A : Type 0} → (old new : Bench) → Result Answer StepFault → Result A Cause → (A → Result ExprTree (List ℕ)) → Type 0
Makes old new (Ok answer) looked rule = IsMade old new answer looked rule
Makes old new (Err fault) looked rule = IsKept old new fault

-- Which expression a reduction makes of these.
abbrev pub joined : Bench → List ExprHandle → Result ExprTree (List ℕ)
joined b es = Ok (bitwise_reduction (map (tree_of b) es))

abbrev pub all_hold : (invert : Bool) → Bench → List ExprHandle → Result ExprTree (List ℕ)
all_hold invert b es = Ok (logical_reduction LogicalAndOp true invert (map (tree_of b) es))

abbrev pub any_holds : (invert : Bool) → Bench → List ExprHandle → Result ExprTree (List ℕ)
any_holds invert b es = Ok (logical_reduction LogicalOrOp false invert (map (tree_of b) es))

abbrev pub elements_joined : List ℤ → Bench → IndexableHandle → Result ExprTree (List ℕ)
elements_joined dimensions b e = array_reduction dimensions (subject_of b e)

-- The number, where there is one, stands for the expression, where there is one.
abbrev pub NamesIf : Bench → List Answer → Option ℕ → Option ExprHandle → Type 0
NamesIf b answers None None = ⊤
NamesIf b answers (Some n) (Some e) = one an_expr b answers n ≡ Ok e
NamesIf b answers None (Some e) = ⊥
NamesIf b answers (Some n) None = ⊥

-- The numbers stand for the register's expressions.
abbrev pub NamesRegister : Bench → List Answer → RegisterNumbers → RegisterDefinition → Type 0
NamesRegister b answers numbers r =
    (one an_expr b answers numbers.reg ≡ Ok r.reg) × (one an_expr b answers numbers.next ≡ Ok r.next) × NamesIf b answers numbers.reset_value r.reset_value × NamesIf b answers numbers.enable r.enable

abbrev pub NamesRegisters : Bench → List Answer → List RegisterNumbers → List RegisterDefinition → Type 0
NamesRegisters b answers [] [] = ⊤
NamesRegisters b answers (n ∷ ns) (r ∷ rs) = NamesRegister b answers n r × NamesRegisters b answers ns rs
NamesRegisters b answers [] (r ∷ rs) = ⊥
NamesRegisters b answers (n ∷ ns) [] = ⊥

-- The numbers stand for the reset, if there is one.
abbrev pub NamesReset : Bench → List Answer → Option ResetNumbers → Option Reset → Type 0
NamesReset b answers None None = ⊤
NamesReset b answers (Some numbers) (Some reset) = (one an_expr b answers numbers.signal ≡ Ok reset.signal) × (reset.active_low ≡ numbers.active_low)
NamesReset b answers None (Some reset) = ⊥
NamesReset b answers (Some numbers) None = ⊥

-- The number stands for the module or the loop.
abbrev pub NamesScope : Bench → List Answer → ℕ → RegisterScope → Type 0
NamesScope b answers n (ModuleScope owner) = one a_module b answers n ≡ Ok owner
NamesScope b answers n (LoopScope owner) = one a_loop b answers n ≡ Ok owner

-- Nothing is answered, and the registers are added that the numbers stand for.
abbrev pub AddsThem : (old new : Bench) → List Answer → Answer → ℕ → Option ResetNumbers → List RegisterNumbers → ℕ → Type 0
AddsThem old new answers answer clk reset registers scope =
    (answer ≡ Nothing) × (c : ExprHandle) × (one an_expr old answers clk ≡ Ok c) × (r : Option Reset) × NamesReset old answers reset r
    × (rs : List RegisterDefinition) × NamesRegisters old answers registers rs × (s : RegisterScope) × NamesScope old answers scope s × MayAddRegisters old new (Ok tt) c r rs s

abbrev pub AddsNamed : (old new : Bench) → List Answer → Result Answer StepFault → ℕ → Option ResetNumbers → List RegisterNumbers → ℕ → Type 0
AddsNamed old new answers (Ok answer) clk reset registers scope = AddsThem old new answers answer clk reset registers scope
AddsNamed old new answers (Err fault) clk reset registers scope = IsKept old new fault

-- What a helper does: the tree of a reduction, or the registers that its handles stand for.
abbrev pub Helps : (old new : Bench) → List Answer → Result Answer StepFault → Helper → Type 0
Helps old new answers result (AddRegisters clk reset registers scope) = AddsNamed old new answers result clk reset registers.items scope
Helps old new answers result (BitwiseOrReduce values) = Makes old new result (many an_expr old answers values.items) (joined old)
Helps old new answers result (BitwiseOrReduceArrayElements value dimensions) = Makes old new result (one an_indexable old answers value) (elements_joined dimensions.items old)
Helps old new answers result (LogicalAndReduce values invert) = Makes old new result (many an_expr old answers values.items) (all_hold invert old)
Helps old new answers result (LogicalOrReduce values invert) = Makes old new result (many an_expr old answers values.items) (any_holds invert old)
