-- The next token tells the row of the page, so it tells one thing of tokens at most.
use Rattle.std.proofs.Common.{◌≡◌, ℕ, List, map, true, refl}
use Rattle.vast_literal.specs.Tokens.{Token}
use Rattle.vast_rows.specs.declared.rule.Rule.TheVariants.{File}
use Rattle.vast_rows.specs.Events.{Event}
use Rattle.vast_rows.specs.Facts.{Fact, fact_in}
use Rattle.vast_rows.specs.Internal.Predictive.{begins, is_predictive}
use Rattle.vast_rows.specs.Laws.{Tells}
use Rattle.vast_rows.specs.Numbers.{rule_number}
use Rattle.vast_rows.specs.Page.{page}
use Rattle.vast_rows.specs.Rows.{Row, bare}
use Rattle.vast_rows.proofs.Bare.{by_page}
use Rattle.vast_rows.proofs.Known.{known}
use Rattle.vast_rows.proofs.OneTelling.{tells_once}

abbrev pub facts : ℕ → Fact
facts = fact_in known

-- A row with the kinds at which it is taken.
abbrev looked : Row → Row
looked row = record { rule = row.rule; items = row.items; action = row.action; looks = begins facts (facts row.rule).follow row.items }

abbrev pub rows : List Row
rows = map looked page

pub checked : is_predictive facts rows ≡ true
checked = refl

pub is_page : bare rows ≡ page
is_page = refl

pub page_once : (ts : List Token) (es fs : List Event) → Tells page (rule_number File) ts es → Tells page (rule_number File) ts fs → es ≡ fs
page_once ts es fs p q = tells_once rows facts checked (rule_number File) ts es fs refl ((by_page rows page (rule_number File) ts es is_page).1 p) ((by_page rows page (rule_number File) ts fs is_page).1 q)
