-- Blocks that stand without begin and end, by the statements that they hold.
use Rattle.std.specs.Prelude.{List, [], ◌∷◌, Option, Some, None}
use Rattle.vast_literal.specs.declared.kind.CaseKind.{CaseKind as CaseWord}
use Rattle.vast_literal.specs.declared.kind.CaseKind.TheVariants.{Case as CaseExact, CaseZ, CaseX}
use Rattle.vast_core.specs.declared.handle.VastStatement.{VastStatement}
use Rattle.vast_core.specs.declared.node.Statement.{Statement}
use Rattle.vast_core.specs.declared.node.Statement.TheVariants.{Assignment as AssignStatement}

abbrev pub assignment_of : Statement → Option VastStatement
assignment_of (AssignStatement s) = Some s
assignment_of _ = None

-- the assignment that is all that a block holds
abbrev pub sole_assignment : List Statement → Option VastStatement
sole_assignment [] = None
sole_assignment (s ∷ []) = assignment_of s
sole_assignment (s ∷ t ∷ ss) = None

-- the assignment as which an arm's block stands without begin and end
abbrev pub bare_assignment : CaseWord → List Statement → Option VastStatement
bare_assignment CaseExact statements = None
bare_assignment CaseZ statements = sole_assignment statements
bare_assignment CaseX statements = None
