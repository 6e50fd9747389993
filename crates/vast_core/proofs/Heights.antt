-- How much of a file is still to walk: less for newer containers, so that a walk ends.
use Rattle.std.proofs.Common.{ℕ, ◌+◌, ◌-◌, ◌*◌, ◌^◌}
use Rattle.vast_core.specs.declared.node.Member.{Member}
use Rattle.vast_core.specs.declared.node.Member.TheVariants.{Loop as LoopEntry}
use Rattle.vast_core.specs.Nests.{Statement, ConditionalStatement, CasesStatement, ForStatement}

abbrev pub height : ℕ → ℕ
height i = 8 * (2 ^ 64 - i)

-- of a statement, by the container that it is, or that it holds
abbrev pub statement_height : Statement → ℕ
statement_height (ConditionalStatement c) = height c.id.index + 5
statement_height (CasesStatement c) = height c.id.index + 5
statement_height (ForStatement l) = height l.block.id.index + 5
statement_height _ = 0

-- of a member, by the loop that it is
abbrev pub member_height : Member → ℕ
member_height (LoopEntry l) = height l.id.index + 1
member_height _ = 0
