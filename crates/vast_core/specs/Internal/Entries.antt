-- Statements that are the file's.
use Rattle.vast_core.specs.Nests.{Statement, AssignStatement, ContinuousStatement, TaskStatement, ConditionalStatement, CasesStatement, ForStatement}
use Rattle.vast_core.specs.Bench.{Bench, OwnsExpr, OwnsStatement, OwnsBlock, OwnsConditional, OwnsCase}

-- What a statement names is the file's.
abbrev pub OwnsEntry : Bench → Statement → Type 0
OwnsEntry b (AssignStatement s) = OwnsStatement b s
OwnsEntry b (ContinuousStatement s) = OwnsStatement b s
OwnsEntry b (TaskStatement call) = OwnsExpr b call
OwnsEntry b (ConditionalStatement c) = OwnsConditional b c
OwnsEntry b (CasesStatement c) = OwnsCase b c
OwnsEntry b (ForStatement l) = (OwnsExpr b l.start × OwnsExpr b l.end) × OwnsBlock b l.block
OwnsEntry b _ = Unit {0}
