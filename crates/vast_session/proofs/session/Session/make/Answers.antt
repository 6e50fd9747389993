use Rattle.std.proofs.Common.{ℕ, List, Option, refl, ap, ◌∙◌}
use Rattle.std.specs.Prelude.{option_copied}
use Rattle.vast_calls.specs.declared.names.Named.{Named}
use Rattle.vast_calls.specs.Names.{forgotten}
use Rattle.vast_calls.specs.Written.{meaning}
use Rattle.vast_calls.proofs.Entered.{forgotten-entered}
use Rattle.vast_session.proofs.session.Session.make.Goals as goal

pub returns-in-Err-clause-name : goal.returns-in-Err-clause-name
returns-in-Err-clause-name c = λ free.
    let name = option_copied c.args.name in
    let named = meaning c.args.self.now.names in (
      c.forget.ensures ∙ ap (λ (n : List ℕ → Option Named). forgotten n name) c.in_ok-enter.ensures.entered ∙ forgotten-entered named name _ free,
      refl {A = List ℕ},
    )
