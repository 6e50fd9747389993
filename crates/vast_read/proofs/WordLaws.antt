-- A sign and a keyword are read off their own texts.
use Rattle.std.proofs.Common.{◌≡◌, refl}
use Rattle.vast_literal.specs.Tokens.{op_text}
use Rattle.vast_literal.specs.Tokens.{key_text, reserved_keys}
use Rattle.vast_literal.specs.declared.token.Sign.{Sign as Op}
use Rattle.vast_literal.specs.declared.token.Sign.TheVariants.{LogicOr}
use Rattle.vast_literal.specs.declared.token.Key.{Key}
use Rattle.vast_literal.specs.declared.token.Key.TheVariants.{If as IfKey}
use Rattle.vast_read.specs.Texts.{prefix_of, infix_of, key_of}

pub prefix_again : (op : Op) → prefix_of (op_text op) ≡ op
unfolding prefix_of
prefix_again LogicOr = refl
prefix_again _ = refl

pub infix_again : (op : Op) → infix_of (op_text op) ≡ op
unfolding infix_of
infix_again LogicOr = refl
infix_again _ = refl

pub key_again : (key : Key) → key_of (key_text key) ≡ key
unfolding key_of key_text reserved_keys
key_again IfKey = refl
key_again _ = refl

pub ruleset again = (prefix_again, infix_again, key_again)
