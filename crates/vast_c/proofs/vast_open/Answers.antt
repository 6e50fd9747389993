use Rattle.std.proofs.Common.{◌≡◌, None, rules}
use Rattle.vast_c.proofs.vast_open.Goals as goal

-- memory was refused for a session of a dialect that there is
pub returns-in_default-new-clause-dialect : goal.returns-in_default-new-clause-dialect
returns-in_default-new-clause-dialect c = (λ e. cc, λ other. let none : c.dialect_of.result ≡ None = search rules in let some = c.in-Some.is in cc)
