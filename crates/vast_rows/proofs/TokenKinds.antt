-- The numbers of the kinds of tokens: from 1 up to 127.
use Rattle.std.proofs.Common.{◌≡◌, Bool, true, false, cond, nat_eq, nat_lt, refl, codes, bytes_eq}
use Rattle.vast_literal.specs.Tokens as tokens
use Rattle.vast_rows.specs.declared.kind.Kind.TheVariants.{MacroWord, IncludeWord}
use Rattle.vast_rows.specs.Kinds.{number, token_kind}
use Rattle.vast_rows.specs.Numbers.{OpenParen, LogicOr, IfKey}

macro_positive : (b : Bool) → nat_eq (number (cond b IncludeWord MacroWord)) 0 ≡ false
macro_positive true = refl
macro_positive false = refl

pub positive : (t : tokens.Token) → nat_eq (token_kind t) 0 ≡ false
positive (tokens.MacroWord w) = macro_positive (bytes_eq w (codes "include"))
positive (tokens.Mark OpenParen) = refl
positive (tokens.Mark _) = refl
positive (tokens.Operator LogicOr) = refl
positive (tokens.Operator _) = refl
positive (tokens.Reserved IfKey) = refl
positive (tokens.Reserved _) = refl
positive _ = refl

small_macro : (b : Bool) → nat_lt (number (cond b IncludeWord MacroWord)) 128 ≡ true
small_macro true = refl
small_macro false = refl

pub small_kind : (t : tokens.Token) → nat_lt (token_kind t) 128 ≡ true
small_kind (tokens.MacroWord w) = small_macro (bytes_eq w (codes "include"))
small_kind (tokens.Mark OpenParen) = refl
small_kind (tokens.Mark _) = refl
small_kind (tokens.Operator LogicOr) = refl
small_kind (tokens.Operator _) = refl
small_kind (tokens.Reserved IfKey) = refl
small_kind (tokens.Reserved _) = refl
small_kind _ = refl
