use Rattle.std.proofs.Common.{◌≡◌, length, rules, refl}
use Rattle.vast_core.specs.Records.{module_record}
use Rattle.vast_core.proofs.Hoisting.{members-counted}
use Rattle.vast_core.proofs.ast.Ast.member_count.Goals as goal

pub returns : goal.returns
returns c =
    let count : c.len.result ≡ length c.module.result.now.members.items = search rules in
    members-counted _ (module_record c.module.result.now) c.module.result.now.members.items _ c.module.ensures.there refl count
