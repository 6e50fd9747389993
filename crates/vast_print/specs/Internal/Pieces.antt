-- Pieces of a text that are still to write.
use Rattle.std.specs.Prelude.{◌≡◌, ◌<◌, ℕ, ◌+◌, List, [], ◌∷◌, Result, Ok, Err}
use Rattle.std.specs.Fmt.{signed_decimal}
use Rattle.vast_literal.specs.Tree.{ExprTree, UnaryTree, BinaryTree, TernaryTree, IndexTree, SliceTree, PartSelectTree, MemberOfTree, ConcatTree, PatternTree, WidthCastTree, TypeCastTree, PosEdgeTree, NegEdgeTree, MacroTree, CallTree}
use Rattle.vast_literal.specs.Tree.{TypeTree, VectorTree}
use Rattle.vast_literal.specs.Tree.{MaybeExpr, NoExpr, SomeExpr, Exprs, NoExprs, MoreExprs, MaybeExprs, NoArguments, SomeArguments}
use Rattle.vast_core.specs.Bench.{Bench, OwnsExpr, tree_of}
use Rattle.vast_print.specs.declared.pieces.Piece.{Piece}
use Rattle.vast_print.specs.declared.pieces.Piece.TheVariants.{Plain, Number, Part}
use Rattle.vast_print.specs.declared.refusal.PrintFault.{PrintFault}
use Rattle.vast_print.specs.declared.refusal.PrintFault.TheVariants.{Refused, Memory}
use Rattle.vast_print.specs.Printed.{Printed, plain_text, ◌⊕◌, wrapped}
use Rattle.vast_print.specs.Text.{expr_text}
use Rattle.vast_print.specs.Page.{written}
use Rattle.vast_print.specs.Draft.{Writing}
use Rattle.vast_print.specs.Output.{Unstopped, Stopped, inline}

-- more than what the pieces of an expression, without parentheses of its own, can weigh
abbrev mutual
  pub expr_weight : ExprTree → ℕ
  expr_weight (UnaryTree o e) = expr_weight e + 2
  expr_weight (BinaryTree o l r) = expr_weight l + expr_weight r + 4
  expr_weight (TernaryTree c l r) = expr_weight c + expr_weight l + expr_weight r + 6
  expr_weight (IndexTree s i) = expr_weight s + expr_weight i + 5
  expr_weight (SliceTree s h l) = expr_weight s + expr_weight h + expr_weight l + 7
  expr_weight (PartSelectTree s i w) = expr_weight s + expr_weight i + 7
  expr_weight (MemberOfTree s n) = expr_weight s + 4
  expr_weight (ConcatTree n es) = count_weight n + exprs_weight es + 4
  expr_weight (PatternTree es) = exprs_weight es + 2
  expr_weight (WidthCastTree w e) = expr_weight w + expr_weight e + 5
  expr_weight (TypeCastTree t e) = type_weight t + expr_weight e + 5
  expr_weight (PosEdgeTree e) = expr_weight e + 2
  expr_weight (NegEdgeTree e) = expr_weight e + 2
  expr_weight (MacroTree name es) = arguments_weight es + 2
  expr_weight (CallTree name es) = exprs_weight es + 2
  expr_weight _ = 1

  pub count_weight : MaybeExpr → ℕ
  count_weight NoExpr = 0
  count_weight (SomeExpr e) = expr_weight e + 1

  pub arguments_weight : MaybeExprs → ℕ
  arguments_weight NoArguments = 0
  arguments_weight (SomeArguments es) = exprs_weight es

  pub exprs_weight : Exprs → ℕ
  exprs_weight NoExprs = 0
  exprs_weight (MoreExprs e es) = expr_weight e + 2 + exprs_weight es

  pub type_weight : TypeTree → ℕ
  type_weight (VectorTree w v signed) = expr_weight w
  type_weight _ = 0

abbrev pub piece_weight : Bench → Piece → ℕ
piece_weight b (Plain text) = 1
piece_weight b (Number number) = 1
piece_weight b (Part e wraps) = expr_weight (tree_of b e) + 1

abbrev pub piece_text : Bench → Piece → Printed
piece_text b (Plain text) = plain_text text.now
piece_text b (Number number) = plain_text (signed_decimal number)
piece_text b (Part e wraps) = wrapped wraps (expr_text (tree_of b e))

abbrev pub PieceOwned : Bench → Piece → Type 0
PieceOwned b (Plain text) = Unit {0}
PieceOwned b (Number number) = Unit {0}
PieceOwned b (Part e wraps) = OwnsExpr b e

-- what a list of pieces prints, the last piece first
unfoldable pub pieces_text : Bench → List Piece → Printed
pieces_text b [] = plain_text []
pieces_text b (p ∷ ps) = pieces_text b ps ⊕ piece_text b p

unfoldable pub pieces_weight : Bench → List Piece → ℕ
pieces_weight b [] = 0
pieces_weight b (p ∷ ps) = piece_weight b p + pieces_weight b ps

unfoldable pub PiecesOwned : Bench → List Piece → Type 0
PiecesOwned b [] = Unit {0}
PiecesOwned b (p ∷ ps) = PieceOwned b p × PiecesOwned b ps

-- a text is begun: its first words are written, and what is left of it is put on the list, lighter than the text's weight
abbrev pub Begins : Bench → (old new : Writing) → (before after : List Piece) → Result (Unit {0}) PrintFault → Printed → (weight : ℕ) → Type 0
Begins b old new before after (Ok _) p weight =
    (inline old.margin (inline old.margin (Unstopped old.draft) (written p)) (written (pieces_text b before)) ≡ inline old.margin (Unstopped new.draft) (written (pieces_text b after)))
    × (new.margin ≡ old.margin)
    × (pieces_weight b after < pieces_weight b before + weight)
    × PiecesOwned b after
Begins b old new before after (Err (Refused r)) p weight = inline old.margin (Unstopped old.draft) (written p) ≡ Stopped r
Begins b old new before after (Err (Memory error)) p weight = Unit {0}

-- an expression is begun
abbrev pub BeginsExpr : Bench → (old new : Writing) → (before after : List Piece) → Result (Unit {0}) PrintFault → ExprTree → Type 0
BeginsExpr b old new before after result e = Begins b old new before after result (expr_text e) (expr_weight e)
