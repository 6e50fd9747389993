use Rattle.std.proofs.Common.{ℕ, List, ◌++◌, ap, ◌∙◌, string_bytes}
use Rattle.std.specs.Prelude.{codes}
use Rattle.vast_session.specs.Replies.{text_member}
use Rattle.vast_session.proofs.Replied.{joined}
use Rattle.vast_session.proofs.reply.push_port_front.Goals as goal

pub returns : goal.returns
returns c =
    let old = string_bytes c.args.text.now in
    let one = string_bytes c.push_member.new.text in
    joined old one _ _ _
    (c.in_ok-push_member.ensures ∙ ap (λ (name : List ℕ). old ++ text_member (codes "{\"name\":") name) c.deref.ensures)
    (c.in_ok-push_member-2.ensures ∙ ap (λ (word : List ℕ). one ++ text_member (codes ",\"direction\":") word) c.direction_word.ensures)
