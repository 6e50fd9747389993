-- The same tokens are told alike.
use Rattle.std.proofs.Common.{◌≡◌, ℕ, List, ◌++◌, true, nat_lt, refl, sym, ◌∙◌}
use Rattle.vast_literal.specs.Tokens as tokens
use Rattle.vast_rows.specs.declared.grammar.Item.{Item}
use Rattle.vast_rows.specs.Events.{Event}
use Rattle.vast_rows.specs.Facts.{Fact}
use Rattle.vast_rows.specs.Internal.Derives.{Derives, nothing, token, phrase, choice}
use Rattle.vast_rows.specs.Internal.Predictive.{begins, follows, is_predictive}
use Rattle.vast_rows.specs.Internal.Sets.{within, only}
use Rattle.vast_rows.specs.Laws.{TellsOnce}
use Rattle.vast_rows.specs.Internal.PhraseKinds.{stops}
use Rattle.vast_rows.specs.Rows.{Row}
use Rattle.vast_rows.proofs.Derivations.{whole_derived}
use Rattle.vast_rows.proofs.Once.{one_row, good, follows_row, follows_rule, start_follows, stopped}
use Rattle.vast_rows.proofs.PhraseLaws.{apart}
use Rattle.vast_rows.proofs.Sets.{both}

one_derived : {rows : List Row} {s : List Item} {ts us : List tokens.Token} {es ds : List Event} (facts : ℕ → Fact) → is_predictive facts rows ≡ true → follows facts (only 0) s ≡ true →
    Derives rows s ts es → Derives rows s us ds → ts ≡ us → es ≡ ds
one_derived facts p h nothing nothing a = refl
one_derived facts p h (token {k = k} {s = s} {ts = ts} t i q) (token {ts = us} t' i' q') a =
    let b = both (nat_lt 0 k) (follows facts (only 0) s) h in
    let same : t ≡ t' = cc a in let rest : ts ≡ us = cc a in rw (same, one_derived facts p b.1 q q' rest) refl
one_derived facts p h (phrase {p = part} {s = s} {ts = ts} ps m i e q) (phrase {ts = us} ps' n i' e' q') a =
    let b = both (within (begins facts (only 0) s) (stops part)) (follows facts (only 0) s) h in
    let z = apart part ps ps' ts us m n i i' (sym e ∙ (a ∙ e')) (stopped part s facts p h q) (stopped part s facts p h q') in
    rw (z.0, one_derived facts p b.1 q q' z.1) refl
one_derived {rows} {us = us} {ds = cs} facts p h (choice {r = r} {s = s} n row at ruled q) (choice {es = ds} m row' at' ruled' q') a =
    let same = one_row s facts n m r row row' p h a at ruled q at' ruled' q' in
    let q2 : Derives rows (row.items ++ s) us ds = rw (← same.1) at q' in
    let k = follows_row facts row s (good rows facts n row p at) (follows_rule facts row r s ruled h) in
    rw (same.1, one_derived facts p k q q2 a) refl

pub tells_once : (rows : List Row) (facts : ℕ → Fact) → is_predictive facts rows ≡ true → TellsOnce facts rows
tells_once rows facts p rule ts es ds h q r = one_derived facts p (start_follows facts rule h) (whole_derived rows rule ts es q) (whole_derived rows rule ts ds r) refl
