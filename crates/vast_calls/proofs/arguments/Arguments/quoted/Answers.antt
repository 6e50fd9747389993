use Rattle.std.proofs.Common.{ap, refl, rules}
use Rattle.vast_calls.specs.declared.arguments.Rest.TheVariants.{Words}
use Rattle.vast_calls.specs.Internal.Written.{is_packed}
use Rattle.vast_calls.proofs.Words.{goes_text}
use Rattle.vast_calls.proofs.arguments.Arguments.quoted.Goals as goal

pub returns : goal.returns
returns c =
    goes_text c.args.self.now (record { known = c.args.self.now.known; rest = Words c.in_ok-behind_text.field-0 }) c.in-Words-Some.rest.now _ _ _ refl (ap is_packed c.in-Words-Some.is) refl (search rules)
    c.in-Some.ensures.cases c.in_ok-text.ensures c.in_ok-behind_text.ensures
