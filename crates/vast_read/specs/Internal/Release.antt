-- How many rounds of a loop it takes at most to let an expression go.
use Rattle.std.specs.Prelude.{ℕ, ◌+◌, List, [], ◌∷◌, Option, Some, None, map}
use Rattle.vast_read.specs.declared.tree.expression.NormalExpr.{NormalExpr, fold-NormalExpr}
use Rattle.vast_read.specs.declared.tree.expression.NormalExpr.TheOpen.{NormalExpr-F}
use Rattle.vast_read.specs.declared.tree.parts.Parts.{Parts}
use Rattle.vast_read.specs.declared.tree.parts.Parts.TheVariants.{Nothing, One, Two, Three, Many, Counted}

-- Those of an expression while another waits until it is gone, and those of an expression when nothing else is left.
abbrev pub Rounds : Type 0
Rounds = ℕ × ℕ

-- Of parts while another waits: each is taken out of its list, and is let go.
abbrev pub rounds_each : List Rounds → ℕ
rounds_each [] = 0
rounds_each (x ∷ xs) = x.0 + 1 + rounds_each xs

-- Of parts when nothing else is left: the first goes last.
abbrev pub rounds_first_last : List Rounds → ℕ
rounds_first_last [] = 0
rounds_first_last (x ∷ xs) = x.1 + 1 + rounds_each xs

-- Of an expression of no parts, of one part, and so on. Beside what waits, a round puts that into the place of the first.
abbrev pub of_nothing : Rounds
of_nothing = (1, 1)

abbrev pub of_one : Rounds → Rounds
of_one x = (x.0 + 1, x.1 + 1)

abbrev pub of_two : Rounds → Rounds → Rounds
of_two x y = (x.0 + y.0 + 2, x.0 + y.1 + 1)

abbrev pub of_three : Rounds → Rounds → Rounds → Rounds
of_three x y z = (x.0 + y.0 + z.0 + 3, x.0 + y.0 + z.1 + 2)

abbrev pub of_list : List Rounds → Rounds
of_list xs = (rounds_each xs + 2, rounds_first_last xs + 1)

abbrev pub of_counted : Rounds → List Rounds → Rounds
of_counted x xs = (x.0 + rounds_each xs + 3, x.1 + rounds_each xs + 2)

-- Of an item, and of a list of items where one waits: its last item is taken first.
abbrev pub left_with : {A : Type 0} → (A → Rounds) → A → Option (List A) → ℕ
left_with f x None = (f x).1
left_with f x (Some xs) = (f x).0 + rounds_first_last (map f xs)

-- One level, with the rounds of each child.
abbrev pub rounds_level : NormalExpr-F Rounds → Rounds
rounds_level (NormalExpr-F.Name w) = of_nothing
rounds_level (NormalExpr-F.Literal w) = of_nothing
rounds_level (NormalExpr-F.Text w) = of_nothing
rounds_level (NormalExpr-F.Unary w x) = of_one x.value
rounds_level (NormalExpr-F.Binary w x y) = of_two x.value y.value
rounds_level (NormalExpr-F.Ternary x y z) = of_three x.value y.value z.value
rounds_level (NormalExpr-F.Index x y) = of_two x.value y.value
rounds_level (NormalExpr-F.Slice x y z) = of_three x.value y.value z.value
rounds_level (NormalExpr-F.PartSelect x y w) = of_two x.value y.value
rounds_level (NormalExpr-F.MemberOf x w) = of_one x.value
rounds_level (NormalExpr-F.Concat xs) = of_list xs
rounds_level (NormalExpr-F.Replicated x xs) = of_counted x.value xs
rounds_level (NormalExpr-F.Pattern xs) = of_list xs
rounds_level (NormalExpr-F.Call w xs) = of_list xs
rounds_level (NormalExpr-F.MacroAlone w) = of_nothing
rounds_level (NormalExpr-F.MacroCall w xs) = of_list xs
rounds_level (NormalExpr-F.Cast x y) = of_two x.value y.value
rounds_level (NormalExpr-F.PackageCast p w x) = of_one x.value
rounds_level (NormalExpr-F.WordCast w x) = of_one x.value

abbrev pub rounds : NormalExpr → Rounds
rounds = fold-NormalExpr Rounds rounds_level

abbrev pub rounds_beside : NormalExpr → ℕ
rounds_beside x = (rounds x).0

abbrev pub rounds_alone : NormalExpr → ℕ
rounds_alone x = (rounds x).1

-- Of an expression, and of another where one waits.
abbrev pub rounds_left : NormalExpr → Option NormalExpr → ℕ
rounds_left x None = rounds_alone x
rounds_left x (Some y) = rounds_beside x + rounds_alone y

-- Of a list of them.
abbrev pub list_beside : List NormalExpr → ℕ
list_beside xs = rounds_each (map rounds xs)

abbrev pub list_alone : List NormalExpr → ℕ
list_alone xs = rounds_first_last (map rounds xs)

-- Of the parts of one.
abbrev pub rounds_of : Parts → Rounds
rounds_of Nothing = of_nothing
rounds_of (One x) = of_one (rounds x.value)
rounds_of (Two x y) = of_two (rounds x.value) (rounds y.value)
rounds_of (Three x y z) = of_three (rounds x.value) (rounds y.value) (rounds z.value)
rounds_of (Many xs) = of_list (map rounds xs)
rounds_of (Counted x xs) = of_counted (rounds x.value) (map rounds xs)
