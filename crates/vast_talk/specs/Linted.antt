-- A lint beside a session whose lines are answered one by one.
use Rattle.std.specs.Prelude.{◌≡◌, ℕ, length, Option, Some, None, Bool, true, false, ⊤}
use Rattle.vast_lint.specs.Lint.{counted}
use Rattle.vast_talk.specs.declared.linted.SessionLint.{SessionLint}
use Rattle.vast_session.specs.declared.session.Session.{Session}
use Rattle.vast_talk.specs.declared.repl.Repl.{Repl}

-- The lint has counted so many answers, and has a name of a call for each.
abbrev pub HasCounted : SessionLint → ℕ → Type 0
HasCounted lint number = (counted lint.lint ≡ number) × (length lint.calls.items ≡ number)

-- The lint has counted each answer of the session, so it tells each warning of the answer that shows it.
abbrev pub IsLevel : SessionLint → Session → Type 0
IsLevel lint session = HasCounted lint (length session.answers.items)

-- Beside a session there is a lint exactly where one is asked for, and it is level with the session.
abbrev pub AreBeside : Option Session → Option SessionLint → (has_lint : Bool) → Type 0
AreBeside None None has_lint = ⊤
AreBeside None (Some lint) has_lint = ⊥
AreBeside (Some session) None has_lint = has_lint ≡ false
AreBeside (Some session) (Some lint) has_lint = (has_lint ≡ true) × IsLevel lint session

-- Of lines that are answered one by one: beside a session there is a lint exactly where one is asked for.
abbrev pub HasItsLint : Repl → Type 0
HasItsLint repl = AreBeside repl.session repl.lint repl.has_lint
