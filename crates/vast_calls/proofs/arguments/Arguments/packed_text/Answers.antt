use Rattle.std.proofs.Common.{◌∙◌, refl}
use Rattle.vast_calls.specs.declared.arguments.Rest.TheVariants.{Packed}
use Rattle.vast_calls.proofs.PackedWords.{reads_content}
use Rattle.vast_calls.proofs.arguments.Arguments.packed_text.Goals as goal

pub returns : goal.returns
returns c =
    reads_content c.args.self.now c.number.new.self (record { known = c.number.new.self.known; rest = Packed c.in-Some.behind }) c.in_ok-length.length c.in-Packed.bytes c.in-Some.content c.in-Some.behind _
    c.in_ok-length.ensures c.in-Packed.is c.in-Some.ensures.cases refl refl (c.in_ok-text.ensures.ok ∙ c.in-Ok.ensures.cases.0)
