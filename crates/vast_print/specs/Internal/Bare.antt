-- Beside `specs/Bare.antt`: what private contracts and proofs say, and no public one.
use Rattle.std.specs.Prelude.{Bool, false, ◌&&◌}
use Rattle.vast_literal.specs.Tree.{ExprTree, NameTree, LiteralTree, StringTree, IndexTree, SliceTree}
use Rattle.vast_literal.specs.Shape.{is_scalar_name}
use Rattle.vast_print.specs.Bare.{is_bare}

-- the expressions whose text is bare: an elided select is its name
unfoldable pub is_bare_head : ExprTree → Bool
is_bare_head (NameTree name type) = is_bare name
is_bare_head (LiteralTree text value) = is_bare text
is_bare_head (StringTree text) = is_bare text
is_bare_head (IndexTree s i) = is_scalar_name s && is_bare_head s
is_bare_head (SliceTree s h l) = is_scalar_name s && is_bare_head s
is_bare_head _ = false
