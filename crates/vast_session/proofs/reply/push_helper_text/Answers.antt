use Rattle.std.proofs.Common.{ℕ, List, OnOk, string_bytes, subst}
use Rattle.vast_calls.specs.Json.{AddsJsonText}
use Rattle.vast_session.proofs.Replied.{helper_told}
use Rattle.vast_session.proofs.reply.push_helper_text.Goals as goal

pub returns-in-Ok : goal.returns-in-Ok
returns-in-Ok c =
    let old = string_bytes c.args.text.now in
    let new = string_bytes c.push_json_text.new.text in
    helper_told c.args.session.now c.args.number old new c.in-Ok.answer c.push_json_text.result c.in-Ok.ensures
    (subst (λ (content : List ℕ). OnOk c.push_json_text.result (AddsJsonText old new content)) c.deref.ensures c.push_json_text.ensures)
