-- A normal expression told from the left: its events in postorder, and the tree back from its events.
use Rattle.std.specs.Prelude.{ℕ, List, ◌∷◌}
use Rattle.vast_literal.specs.NormalExpr.{NormalExpr, Name, Literal, Text, MacroAlone, Unary, Binary, Ternary, Index, Slice, PartSelect, MemberOf, Concat, Pattern, Replicated, Call, MacroCall, Cast, PackageCast, WordCast, NormalExprs, NoNormals, MoreNormals}
pub use Rattle.vast_expressions.specs.declared.event.Told.{Told}
pub use Rattle.vast_expressions.specs.declared.event.Told.TheVariants.{Unary as UnaryT, Binary as BinaryT, Ternary as TernaryT, Index as IndexT, Slice as SliceT, NoneYet as NoneT, One as OneT, Push as PushT, Concat as ConcatT, Pattern as PatternT, Replicated as ReplicatedT, Call as CallT, MacroCall as MacroCallT, Cast as CastT, PackageCast as PackageCastT, WordCast as WordCastT}

-- What is told: bytes of a token, or what is made of what was told before.
pub data Event : Type 0 where
  NameE LiteralE TextE MacroE WordE PartSelectE MemberOfE : (bytes : List ℕ) → Event
  Made : Told → Event

unfoldable mutual
  -- The events of the expression, and then `es`.
  pub trace : NormalExpr → List Event → List Event
  trace (Name w) es = NameE w ∷ es
  trace (Literal w) es = LiteralE w ∷ es
  trace (Text w) es = TextE w ∷ es
  trace (MacroAlone w) es = MacroE w ∷ es
  trace (Unary o a) es = trace a (Made (UnaryT o) ∷ es)
  trace (Binary o a b) es = trace a (trace b (Made (BinaryT o) ∷ es))
  trace (Ternary c a b) es = trace c (trace a (trace b (Made TernaryT ∷ es)))
  trace (Index s i) es = trace s (trace i (Made IndexT ∷ es))
  trace (Slice s h l) es = trace s (trace h (trace l (Made SliceT ∷ es)))
  trace (PartSelect s i n) es = trace s (trace i (PartSelectE n ∷ es))
  trace (MemberOf s m) es = trace s (MemberOfE m ∷ es)
  trace (Concat xs) es = traces xs (Made ConcatT ∷ es)
  trace (Pattern xs) es = traces xs (Made PatternT ∷ es)
  trace (Replicated n xs) es = trace n (traces xs (Made ReplicatedT ∷ es))
  trace (Call f xs) es = WordE f ∷ traces xs (Made CallT ∷ es)
  trace (MacroCall f xs) es = WordE f ∷ traces xs (Made MacroCallT ∷ es)
  trace (Cast h x) es = trace h (trace x (Made CastT ∷ es))
  trace (PackageCast p w x) es = WordE p ∷ (WordE w ∷ trace x (Made PackageCastT ∷ es))
  trace (WordCast k x) es = trace x (Made (WordCastT k) ∷ es)

  pub traces : NormalExprs → List Event → List Event
  traces NoNormals es = Made NoneT ∷ es
  traces (MoreNormals x xs) es = trace x (Made OneT ∷ mores xs es)

  pub mores : NormalExprs → List Event → List Event
  mores NoNormals es = es
  mores (MoreNormals x xs) es = trace x (Made PushT ∷ mores xs es)
