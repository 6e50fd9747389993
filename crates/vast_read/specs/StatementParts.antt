-- Normal statements by lists of their parts.
use Rattle.std.specs.Prelude.{List, [], ◌∷◌, Option, Some, None}
use Rattle.vast_literal.specs.NormalExpr.{NormalExpr, Name}
use Rattle.vast_literal.specs.NormalFile.{NormalStatement, ChoiceStatement, NormalStatements, Done, Then, Arms, Only, Otherwise, Or, Labels, NoLabels, Label}

-- What an arm stands for: its condition, or its label where it has one, and its block.
abbrev pub ChoicePart : Type 0
ChoicePart = NormalExpr × NormalStatements

abbrev pub LabelPart : Type 0
LabelPart = Option NormalExpr × NormalStatements

abbrev pub block_of : List NormalStatement → NormalStatements
block_of [] = Done
block_of (s ∷ ss) = Then s (block_of ss)

-- The last arm, with the block of the last `else`.
abbrev pub last_arm : ChoicePart → Option NormalStatements → Arms
last_arm p None = Only p.0 p.1
last_arm p (Some d) = Otherwise p.0 p.1 d

-- Arms and the block of the last `else`. No conditional is read without an arm.
abbrev pub arms_of : List ChoicePart → Option NormalStatements → Arms
arms_of [] last = Only (Name []) Done
arms_of (p ∷ []) last = last_arm p last
arms_of (p ∷ q ∷ ps) last = Or p.0 p.1 (arms_of (q ∷ ps) last)

-- The arms of a conditional; what a conditional construct holds is always one.
abbrev pub arms_in : NormalStatement → Arms
arms_in (ChoiceStatement a) = a
arms_in _ = Only (Name []) Done

abbrev pub labels_of : List LabelPart → Labels
labels_of [] = NoLabels
labels_of (p ∷ ps) = Label p.0 p.1 (labels_of ps)
