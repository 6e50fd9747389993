-- What is made of what is told: trees, lists of them and names, the last one first.
use Rattle.std.specs.Prelude.{◌≡◌, ℕ, List, ◌∷◌, Option, Some, None}
use Rattle.vast_literal.specs.NormalExpr.{NormalExpr, Name, Literal, Text, MacroAlone, Unary, Binary, Ternary, Index, Slice, PartSelect, MemberOf, Concat, Pattern, Replicated, Call, MacroCall, Cast, PackageCast, WordCast, NormalExprs, NoNormals, MoreNormals}
use Rattle.vast_expressions.specs.Events.{Told, UnaryT, BinaryT, TernaryT, IndexT, SliceT, NoneT, OneT, PushT, ConcatT, PatternT, ReplicatedT, CallT, MacroCallT, CastT, PackageCastT, WordCastT, Event, NameE, LiteralE, TextE, MacroE, WordE, PartSelectE, MemberOfE, Made}

-- One value.
pub data Value : Type 0 where
  Tree : NormalExpr → Value
  Trees : NormalExprs → Value
  Bytes : List ℕ → Value

-- The second list at the end of the first.
unfoldable pub joined : NormalExprs → NormalExprs → NormalExprs
joined NoNormals ys = ys
joined (MoreNormals x xs) ys = MoreNormals x (joined xs ys)

-- The last value, as what it is, and those before it.
abbrev pub take_tree : List Value → Option (NormalExpr × List Value)
take_tree (Tree x ∷ vs) = Some (x, vs)
take_tree _ = None

abbrev pub take_trees : List Value → Option (NormalExprs × List Value)
take_trees (Trees xs ∷ vs) = Some (xs, vs)
take_trees _ = None

abbrev pub take_bytes : List Value → Option (List ℕ × List Value)
take_bytes (Bytes w ∷ vs) = Some (w, vs)
take_bytes _ = None

-- What was to be made was made; where nothing was, this says nothing.
abbrev pub Grown : Option (List Value) → List Value → Type 0
Grown None new = Unit {0}
Grown (Some vs) new = new ≡ vs

abbrev pub and_then : {A B : Type 0} → Option A → (A → Option B) → Option B
and_then None f = None
and_then (Some x) f = f x

-- A tree of the last one; of the last two, and three.
unfoldable pub grown_one : (NormalExpr → NormalExpr) → List Value → Option (List Value)
grown_one f vs = and_then (take_tree vs) (λ a. Some (Tree (f a.0) ∷ a.1))

unfoldable pub grown_two : (NormalExpr → NormalExpr → NormalExpr) → List Value → Option (List Value)
grown_two f vs = and_then (take_tree vs) (λ b. and_then (take_tree b.1) (λ a. Some (Tree (f a.0 b.0) ∷ a.1)))

unfoldable pub grown_three : (NormalExpr → NormalExpr → NormalExpr → NormalExpr) → List Value → Option (List Value)
grown_three f vs = and_then (take_tree vs) (λ c. and_then (take_tree c.1) (λ b. and_then (take_tree b.1) (λ a. Some (Tree (f a.0 b.0 c.0) ∷ a.1))))

-- A part select of this width.
unfoldable pub grown_part : List ℕ → List Value → Option (List Value)
grown_part n vs = and_then (take_tree vs) (λ b. and_then (take_tree b.1) (λ a. Some (Tree (PartSelect a.0 b.0 n) ∷ a.1)))

-- A tree of the list before; of a name and a list; of a count and a list.
unfoldable pub grown_list : (NormalExprs → NormalExpr) → List Value → Option (List Value)
grown_list f vs = and_then (take_trees vs) (λ xs. Some (Tree (f xs.0) ∷ xs.1))

unfoldable pub grown_named : (List ℕ → NormalExprs → NormalExpr) → List Value → Option (List Value)
grown_named f vs = and_then (take_trees vs) (λ xs. and_then (take_bytes xs.1) (λ w. Some (Tree (f w.0 xs.0) ∷ w.1)))

unfoldable pub grown_replicated : List Value → Option (List Value)
grown_replicated vs = and_then (take_trees vs) (λ xs. and_then (take_tree xs.1) (λ n. Some (Tree (Replicated n.0 xs.0) ∷ n.1)))

-- A cast by a package's type, of two names and a tree.
unfoldable pub grown_package : List Value → Option (List Value)
grown_package vs = and_then (take_tree vs) (λ x. and_then (take_bytes x.1) (λ w. and_then (take_bytes w.1) (λ p. Some (Tree (PackageCast p.0 w.0 x.0) ∷ p.1))))

-- A list of the last tree; the list before the last tree with that at its end.
unfoldable pub grown_first : List Value → Option (List Value)
grown_first vs = and_then (take_tree vs) (λ x. Some (Trees (MoreNormals x.0 NoNormals) ∷ x.1))

unfoldable pub grown_push : List Value → Option (List Value)
grown_push vs = and_then (take_tree vs) (λ x. and_then (take_trees x.1) (λ xs. Some (Trees (joined xs.0 (MoreNormals x.0 NoNormals)) ∷ xs.1)))

-- What is made by what is told, if there is what it wants.
abbrev pub grown_made : Told → List Value → Option (List Value)
grown_made (UnaryT o) vs = grown_one (Unary o) vs
grown_made (BinaryT o) vs = grown_two (Binary o) vs
grown_made TernaryT vs = grown_three Ternary vs
grown_made IndexT vs = grown_two Index vs
grown_made SliceT vs = grown_three Slice vs
grown_made NoneT vs = Some (Trees NoNormals ∷ vs)
grown_made OneT vs = grown_first vs
grown_made PushT vs = grown_push vs
grown_made ConcatT vs = grown_list Concat vs
grown_made PatternT vs = grown_list Pattern vs
grown_made ReplicatedT vs = grown_replicated vs
grown_made CallT vs = grown_named Call vs
grown_made MacroCallT vs = grown_named MacroCall vs
grown_made CastT vs = grown_two Cast vs
grown_made PackageCastT vs = grown_package vs
grown_made (WordCastT k) vs = grown_one (WordCast k) vs

abbrev pub grown : Event → List Value → Option (List Value)
grown (NameE w) vs = Some (Tree (Name w) ∷ vs)
grown (LiteralE w) vs = Some (Tree (Literal w) ∷ vs)
grown (TextE w) vs = Some (Tree (Text w) ∷ vs)
grown (MacroE w) vs = Some (Tree (MacroAlone w) ∷ vs)
grown (WordE w) vs = Some (Bytes w ∷ vs)
grown (PartSelectE n) vs = grown_part n vs
grown (MemberOfE m) vs = grown_one (λ s. MemberOf s m) vs
grown (Made t) vs = grown_made t vs
