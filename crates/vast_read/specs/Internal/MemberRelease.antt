-- How many rounds of a loop it takes at most to let a member go.
use Rattle.std.specs.Prelude.{ℕ, List, Option, Some, None, map}
use Rattle.vast_read.specs.Internal.Release.{Rounds, rounds_each, rounds_first_last, of_nothing, of_list, left_with}
use Rattle.vast_read.specs.declared.tree.member.NormalMember.{NormalMember, fold-NormalMember}
use Rattle.vast_read.specs.declared.tree.member.NormalMember.TheOpen.{NormalMember-F}

-- One level, with the rounds of each member inside: a loop alone holds members.
abbrev pub member_step : NormalMember-F Rounds → Rounds
member_step (NormalMember-F.Declaration d) = of_nothing
member_step (NormalMember-F.Assign l r) = of_nothing
member_step (NormalMember-F.Parameter word d x) = of_nothing
member_step (NormalMember-F.Import package_name) = of_nothing
member_step (NormalMember-F.Enum e) = of_nothing
member_step (NormalMember-F.Struct s) = of_nothing
member_step (NormalMember-F.Macro m) = of_nothing
member_step (NormalMember-F.Instance i) = of_nothing
member_step (NormalMember-F.Always a) = of_nothing
member_step (NormalMember-F.Conditional s) = of_nothing
member_step (NormalMember-F.Function f) = of_nothing
member_step (NormalMember-F.Loop l ms) = of_list ms

abbrev pub member_rounds : NormalMember → Rounds
member_rounds = fold-NormalMember Rounds member_step

-- Of a list of members, while others wait and when nothing else is left.
abbrev pub members_beside : List NormalMember → ℕ
members_beside ms = rounds_each (map member_rounds ms)

abbrev pub members_alone : List NormalMember → ℕ
members_alone ms = rounds_first_last (map member_rounds ms)

-- Of a member, and of a list of members where one waits.
abbrev pub member_left : NormalMember → Option (List NormalMember) → ℕ
member_left = left_with member_rounds

abbrev pub member_alone : NormalMember → ℕ
member_alone m = (member_rounds m).1

-- Of members that wait, where there are any.
abbrev pub waiting_alone : Option (List NormalMember) → ℕ
waiting_alone None = 0
waiting_alone (Some ms) = members_alone ms
