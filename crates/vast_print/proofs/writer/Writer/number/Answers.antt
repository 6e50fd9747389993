use Rattle.std.proofs.Common.{◌++◌, ◌∙◌, ap, w64, string_bytes}
use Rattle.std.specs.Fmt.{signed_decimal}
use Rattle.std.proofs.lemmas.Int.{to_z-of_z}
use Rattle.vast_print.specs.Draft.{Writing}
use Rattle.vast_print.proofs.NumberLaws.{append_word-number}
use Rattle.vast_print.proofs.writer.Writer.number.Goals as goal

pub returns-clause-text : goal.returns-clause-text
returns-clause-text c =
    let z = to_z-of_z w64 c.args.number c.ranges.number in
    let e = ap (λ (w : Writing). w.draft) c.self.view_is ∙ c.in_ok-begin_word.ensures.text in
    let p = c.in_ok-push_number.ensures ∙ ap (λ x. string_bytes c.self.inside.text ++ signed_decimal x) z in
    append_word-number c.args.self.now.draft _ c.args.number (string_bytes c.push_number.new.text) e p
