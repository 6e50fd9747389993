-- A law of members that are looked at.
use Rattle.std.proofs.Common.{◌≡◌, refl}
use Rattle.vast_literal.specs.PlainFile.{is_plain_statement, is_plain_member}
use Rattle.vast_core.specs.FileTree.{Family, BlockFamily, conditional_statement, conditional_member}

-- a conditional of a module is one of a block
pub held-conditional-same : (f : Family) → is_plain_member (conditional_member f) ≡ is_plain_statement (conditional_statement f)
held-conditional-same (BlockFamily held) = refl
held-conditional-same _ = refl

pub ruleset members = (held-conditional-same)
