use Rattle.std.proofs.Common.{rules, ◌≡◌, IfSome, subst}
use Rattle.vast_list.specs.PackedLists.{IsPackedText}
use Rattle.vast_list.proofs.pack.twin_of.Goals as goal

pub returns-in-Some : goal.returns-in-Some
returns-in-Some c =
    let read = c.deref.result.now in
    let built : IsPackedText read c.in-Some.built.items =
    subst (λ output. IfSome output (λ text. IsPackedText read text.items)) c.in-Some.is c.in_ok-packed.ensures.text in
    let same : c.in-Some.built.items ≡ c.args.text.now.items = search rules in
    let whole : read ≡ c.in_ok-bytes.bytes.items = search rules in
    subst (λ bytes. IsPackedText bytes c.args.text.now.items) whole (subst (IsPackedText read) same built)
