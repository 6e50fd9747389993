-- The tokens that the printed text of an expression has: bracketed as the text is.
use Rattle.std.specs.Prelude.{ℕ, List, [], ◌∷◌, ◌++◌, Bool, true, false, cond, not, ◌&&◌, ◌||◌, eqb, Option, Some, None}
use Rattle.std.specs.Fmt.{signed_decimal}
use Rattle.vast_literal.specs.Tokens.{Key, LogicKey, IntegerKey, IntKey, PosedgeKey, NegedgeKey, OpenParen, CloseParen, OpenBracket, CloseBracket, OpenBrace, CloseBrace, Comma, Colon, Dot, Question, DoubleColon, PlusColon, Apostrophe, Token, Reserved, Word, SystemWord, MacroWord, Number, Quoted, Operator, Mark}
use Rattle.vast_literal.specs.Tree.{ExprTree, NameTree, LiteralTree, StringTree, UnaryTree, BinaryTree, TernaryTree, IndexTree, SliceTree, PartSelectTree, MemberOfTree, ConcatTree, PatternTree, WidthCastTree, TypeCastTree, PosEdgeTree, NegEdgeTree, MacroTree, CallTree, MissingExpr}
use Rattle.vast_literal.specs.Tree.{TypeTree, ScalarTree, VectorTree, IntegerTree, IntTree, ExternalTree, PackageTree}
use Rattle.vast_literal.specs.Tree.{NoExpr, SomeExpr, Exprs, NoExprs, MoreExprs, NoArguments, SomeArguments}
use Rattle.vast_literal.specs.NormalExpr.{unary_operator_token, binary_operator_token, signing_key, scalar_sign, integer_sign}
use Rattle.vast_literal.specs.Shape.{is_elided_index, is_elided_slice, unary_wraps, left_child_wraps, right_child_wraps, ternary_wraps, select_wraps}
use Rattle.vast_literal.specs.LiteralToken.{is_number}
use Rattle.vast_literal.proofs.LiteralToken.{literal_tokens}
use Rattle.vast_literal.specs.Plain.{is_identifier}

-- A width that stands bare before the apostrophe of a cast: a number or a word; an elided select counts as its name.
unfoldable pub is_bare_head : ExprTree → Bool
is_bare_head (NameTree name type) = is_number name || is_identifier name
is_bare_head (LiteralTree text value) = is_number text
is_bare_head (IndexTree subject index) = is_elided_index subject index && is_bare_head subject
is_bare_head (SliceTree subject high low) = is_elided_slice subject high low && is_bare_head subject
is_bare_head _ = false

-- Tokens in parentheses where `wrapped`.
abbrev pub wrapped_tokens : (wrapped : Bool) → List Token → List Token
wrapped_tokens true ts = Mark OpenParen ∷ (ts ++ (Mark CloseParen ∷ []))
wrapped_tokens false ts = ts

-- The operand of a cast, after its head.
abbrev pub cast_operand : List Token → List Token
cast_operand ts = Mark Apostrophe ∷ (Mark OpenParen ∷ (ts ++ (Mark CloseParen ∷ [])))

-- Parts with commas between them.
abbrev pub comma_tail_tokens : List (List Token) → List Token
comma_tail_tokens [] = []
comma_tail_tokens (part ∷ parts) = Mark Comma ∷ (part ++ comma_tail_tokens parts)

abbrev pub comma_tokens : List (List Token) → List Token
comma_tokens [] = []
comma_tokens (part ∷ parts) = part ++ comma_tail_tokens parts

-- Arguments in parentheses.
abbrev pub argument_tokens : List (List Token) → List Token
argument_tokens parts = Mark OpenParen ∷ (comma_tokens parts ++ (Mark CloseParen ∷ []))

-- The name of a function, which may begin with `$`.
abbrev pub called_token : List ℕ → Token
called_token [] = Word []
called_token (c ∷ cs) = cond (eqb c 36) (SystemWord (c ∷ cs)) (Word (c ∷ cs))

-- A cast by a keyword, and by another around it where one is written.
abbrev pub word_cast_tokens : (word : Option Key) (base : Key) → List Token → List Token
word_cast_tokens None base ts = Reserved base ∷ cast_operand ts
word_cast_tokens (Some word) base ts = Reserved word ∷ cast_operand (Reserved base ∷ cast_operand ts)

unfoldable mutual
  -- The tokens of an expression's text.
  pub expr_tokens : ExprTree → List Token
  expr_tokens (NameTree name type) = Word name ∷ []
  expr_tokens (LiteralTree text value) = literal_tokens text
  expr_tokens (StringTree text) = Quoted text ∷ []
  expr_tokens (UnaryTree op operand) = Operator (unary_operator_token op) ∷ wrapped_tokens (unary_wraps operand) (expr_tokens operand)
  expr_tokens (BinaryTree op left right) =
      wrapped_tokens (left_child_wraps op left) (expr_tokens left) ++ (Operator (binary_operator_token op) ∷ wrapped_tokens (right_child_wraps op right) (expr_tokens right))
  expr_tokens (TernaryTree condition consequent alternate) =
      wrapped_tokens (ternary_wraps condition) (expr_tokens condition) ++ (Mark Question ∷
      (wrapped_tokens (ternary_wraps consequent) (expr_tokens consequent) ++ (Mark Colon ∷ wrapped_tokens (ternary_wraps alternate) (expr_tokens alternate))))
  expr_tokens (IndexTree subject index) = cond (is_elided_index subject index) (expr_tokens subject)
      (wrapped_tokens (select_wraps subject) (expr_tokens subject) ++ (Mark OpenBracket ∷ (expr_tokens index ++ (Mark CloseBracket ∷ []))))
  expr_tokens (SliceTree subject high low) = cond (is_elided_slice subject high low) (expr_tokens subject)
      (wrapped_tokens (select_wraps subject) (expr_tokens subject) ++ (Mark OpenBracket ∷ (expr_tokens high ++ (Mark Colon ∷ (expr_tokens low ++ (Mark CloseBracket ∷ []))))))
  expr_tokens (PartSelectTree subject start width) =
      wrapped_tokens (select_wraps subject) (expr_tokens subject) ++ (Mark OpenBracket ∷ (expr_tokens start ++ (Mark PlusColon ∷ (Number (signed_decimal width) ∷ (Mark CloseBracket ∷ [])))))
  expr_tokens (MemberOfTree subject name) = wrapped_tokens (select_wraps subject) (expr_tokens subject) ++ (Mark Dot ∷ (Word name ∷ []))
  expr_tokens (ConcatTree NoExpr parts) = Mark OpenBrace ∷ (comma_tokens (each_tokens parts) ++ (Mark CloseBrace ∷ []))
  expr_tokens (ConcatTree (SomeExpr count) parts) =
      Mark OpenBrace ∷ (expr_tokens count ++ (Mark OpenBrace ∷ (comma_tokens (each_tokens parts) ++ (Mark CloseBrace ∷ (Mark CloseBrace ∷ [])))))
  expr_tokens (PatternTree parts) = Mark Apostrophe ∷ (Mark OpenBrace ∷ (comma_tokens (each_tokens parts) ++ (Mark CloseBrace ∷ [])))
  expr_tokens (WidthCastTree width operand) = wrapped_tokens (not (is_bare_head width)) (expr_tokens width) ++ cast_operand (expr_tokens operand)
  expr_tokens (TypeCastTree type operand) = cast_tokens type (expr_tokens operand)
  expr_tokens (PosEdgeTree operand) = Reserved PosedgeKey ∷ expr_tokens operand
  expr_tokens (NegEdgeTree operand) = Reserved NegedgeKey ∷ expr_tokens operand
  expr_tokens (MacroTree name NoArguments) = MacroWord name ∷ []
  expr_tokens (MacroTree name (SomeArguments arguments)) = MacroWord name ∷ argument_tokens (each_tokens arguments)
  expr_tokens (CallTree name arguments) = called_token name ∷ argument_tokens (each_tokens arguments)
  expr_tokens MissingExpr = []

  -- The tokens of a cast to a type, over those of its operand. No cast is to an array.
  pub cast_tokens : TypeTree → List Token → List Token
  cast_tokens (ScalarTree signed) ts = word_cast_tokens (scalar_sign signed) LogicKey ts
  cast_tokens (VectorTree width value signed) ts =
      Reserved (signing_key signed) ∷ cast_operand (wrapped_tokens (not (is_bare_head width)) (expr_tokens width) ++ cast_operand ts)
  cast_tokens (IntegerTree signed) ts = word_cast_tokens (integer_sign signed) IntegerKey ts
  cast_tokens (IntTree signed) ts = word_cast_tokens (integer_sign signed) IntKey ts
  cast_tokens (ExternalTree name) ts = Word name ∷ cast_operand ts
  cast_tokens (PackageTree package_name name) ts = Word package_name ∷ (Mark DoubleColon ∷ (Word name ∷ cast_operand ts))
  cast_tokens _ ts = ts

  pub each_tokens : Exprs → List (List Token)
  each_tokens NoExprs = []
  each_tokens (MoreExprs part parts) = expr_tokens part ∷ each_tokens parts
