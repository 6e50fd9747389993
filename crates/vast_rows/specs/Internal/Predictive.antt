-- The check of rows: the next token tells the row.
use Rattle.std.specs.Prelude.{ℕ, suc, ◌+◌, List, [], ◌∷◌, Bool, true, false, ◌&&◌, nat_eq, nat_lt, drop, Option, Some, None, if◌then◌else◌}
use Rattle.vast_rows.specs.declared.grammar.Item.{Item}
use Rattle.vast_rows.specs.declared.grammar.Item.TheVariants.{Token, Rule, Phrase}
use Rattle.vast_rows.specs.Facts.{Fact}
use Rattle.vast_rows.specs.Rows.{Row}
use Rattle.vast_rows.specs.Internal.Sets.{within, none_shared, only}
use Rattle.vast_rows.specs.Kinds.{has}
use Rattle.vast_rows.specs.Internal.PhraseKinds.{firsts, stops}

-- The number of the row of the rule that is taken at the kind, among rows that stand side by side, counted from a number on.
abbrev pub row_from : List Row → (rule kind from : ℕ) → Option ℕ
row_from [] rule kind from = None
row_from (row ∷ rows) rule kind from = if nat_eq row.rule rule then (if has row.looks kind then Some from else row_from rows rule kind (suc from)) else None

abbrev pub row_at : (ℕ → Fact) → List Row → (rule kind : ℕ) → Option ℕ
row_at facts rows rule kind = row_from (drop (facts rule).first_row rows) rule kind (facts rule).first_row

-- The kinds with which the item begins, or if it is empty what follows it.
abbrev pub starts : (ℕ → Fact) → Item → ℕ
starts facts (Token k) = only k
starts facts (Rule r) = (facts r).begins
starts facts (Phrase p) = firsts p

-- The kinds with which the items and what follows them begin.
abbrev pub begins : (ℕ → Fact) → (ends : ℕ) → List Item → ℕ
begins facts ends [] = ends
begins facts ends (i ∷ s) = starts facts i

-- After each rule and phrase among the items is what may follow it, and none of the tokens is the end.
abbrev pub follows : (ℕ → Fact) → (ends : ℕ) → List Item → Bool
follows facts ends [] = true
follows facts ends (Token k ∷ s) = nat_lt 0 k && follows facts ends s
follows facts ends (Rule r ∷ s) = within (begins facts ends s) (facts r).follow && follows facts ends s
follows facts ends (Phrase p ∷ s) = within (begins facts ends s) (stops p) && follows facts ends s

-- Whether all the items may be empty.
abbrev pub may_be_empty : (ℕ → Fact) → List Item → Bool
may_be_empty facts [] = true
may_be_empty facts (Token k ∷ s) = false
may_be_empty facts (Phrase p ∷ s) = false
may_be_empty facts (Rule r ∷ s) = (facts r).empty && may_be_empty facts s

-- The most rules that are opened before a token is due.
abbrev pub lead : (ℕ → Fact) → List Item → ℕ
lead facts [] = 0
lead facts (Token k ∷ s) = 0
lead facts (Phrase p ∷ s) = 0
lead facts (Rule r ∷ s) = suc (facts r).rank + (if (facts r).empty then lead facts s else 0)

-- One row.
abbrev pub is_row_good : (ℕ → Fact) → Row → Bool
is_row_good facts row =
    within row.looks (facts row.rule).begins
    && (within (begins facts (facts row.rule).follow row.items) row.looks
    && (follows facts (facts row.rule).follow row.items
    && (nat_lt (lead facts row.items) (suc (facts row.rule).rank)
    && (if may_be_empty facts row.items then (facts row.rule).empty else true))))

abbrev pub are_good : (ℕ → Fact) → List Row → Bool
are_good facts [] = true
are_good facts (row ∷ rest) = is_row_good facts row && are_good facts rest

-- No other row of its rule is taken at a kind at which the row is.
abbrev pub apart_from : Row → List Row → Bool
apart_from row [] = true
apart_from row (x ∷ rest) = (if nat_eq row.rule x.rule then none_shared row.looks x.looks else true) && apart_from row rest

abbrev pub are_apart : List Row → Bool
are_apart [] = true
are_apart (row ∷ rest) = apart_from row rest && are_apart rest

-- Each row is the first of its rule, or stands after another one of it. The rule before the rows is given, and their place.
abbrev pub stand_together : (ℕ → Fact) → (before from : ℕ) → List Row → Bool
stand_together facts before from [] = true
stand_together facts before from (row ∷ rest) = (if nat_eq row.rule before then true else nat_eq (facts row.rule).first_row from) && stand_together facts row.rule (suc from) rest

abbrev pub are_together : (ℕ → Fact) → List Row → Bool
are_together facts [] = true
are_together facts (row ∷ rest) = nat_eq (facts row.rule).first_row 0 && stand_together facts row.rule 1 rest

-- The next token tells the row, whatever follows.
abbrev pub is_predictive : (ℕ → Fact) → List Row → Bool
is_predictive facts rows = are_good facts rows && (are_apart rows && are_together facts rows)
