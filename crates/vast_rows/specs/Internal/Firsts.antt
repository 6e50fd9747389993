-- The kinds with which items begin, and the check of rows that they begin with all of these and that they end.
use Rattle.std.specs.Prelude.{ℕ, suc, zero, List, [], ◌∷◌, ◌++◌, length, map, Bool, true, false, ◌&&◌, nat_eq, nat_lt, codes, if◌then◌else◌}
use Rattle.std.specs.Int.Bits.{bit_or}
use Rattle.vast_literal.specs.Tokens as tokens
use Rattle.vast_rows.specs.declared.grammar.Item.{Item}
use Rattle.vast_rows.specs.declared.grammar.Item.TheVariants.{Token, Rule, Phrase}
use Rattle.vast_rows.specs.Facts.{Fact, fact_in}
use Rattle.vast_rows.specs.Kinds.{has, token_kind}
use Rattle.vast_rows.specs.Rows.{Row}
use Rattle.vast_rows.specs.Internal.Orders.{marks, signs, keys}
use Rattle.vast_rows.specs.Internal.PhraseKinds.{firsts}
use Rattle.vast_rows.specs.Internal.Predictive.{may_be_empty}
use Rattle.vast_rows.specs.Internal.Sets.{within, only}

-- The kinds with which a rule begins where it is not empty, by its number.
abbrev pub firsts_in : List ℕ → ℕ → ℕ
firsts_in [] rule = 0
firsts_in (k ∷ ks) zero = k
firsts_in (k ∷ ks) (suc rule) = firsts_in ks rule

-- The kind of a token that is due, as a set; no token has one of 128 or more.
abbrev pub kinds_of_token : ℕ → ℕ
kinds_of_token k = if nat_lt k 128 then only k else 0

-- The kinds with which an item begins where it is not empty, and whether it may be.
abbrev pub own_kinds : (ℕ → ℕ) → Item → ℕ
own_kinds begin (Token k) = kinds_of_token k
own_kinds begin (Phrase p) = firsts p
own_kinds begin (Rule r) = begin r

abbrev pub is_empty : (ℕ → Fact) → Item → Bool
is_empty facts (Token k) = false
is_empty facts (Phrase p) = false
is_empty facts (Rule r) = (facts r).empty

-- The kinds with which items begin where they are not empty.
abbrev pub first_kinds : (ℕ → ℕ) → (ℕ → Fact) → List Item → ℕ
first_kinds begin facts [] = 0
first_kinds begin facts (Token k ∷ s) = kinds_of_token k
first_kinds begin facts (Phrase p ∷ s) = firsts p
first_kinds begin facts (Rule r ∷ s) = bit_or (begin r) (if (facts r).empty then first_kinds begin facts s else 0)

-- A row begins with kinds of its rule alone.
abbrev pub are_closed : (ℕ → ℕ) → (ℕ → Fact) → List Row → Bool
are_closed begin facts [] = true
are_closed begin facts (row ∷ rest) = within (first_kinds begin facts row.items) (begin row.rule) && are_closed begin facts rest

-- The kinds with which the rows of a rule begin, and whether one of them may be empty.
abbrev pub firsts_by_rows : (ℕ → ℕ) → (ℕ → Fact) → List Row → (rule : ℕ) → ℕ
firsts_by_rows begin facts [] rule = 0
firsts_by_rows begin facts (row ∷ rest) rule = if nat_eq row.rule rule then bit_or (first_kinds begin facts row.items) (firsts_by_rows begin facts rest rule) else firsts_by_rows begin facts rest rule

abbrev pub empty_by_rows : (ℕ → Fact) → List Row → (rule : ℕ) → Bool
empty_by_rows facts [] rule = false
empty_by_rows facts (row ∷ rest) rule = if nat_eq row.rule rule && may_be_empty facts row.items then true else empty_by_rows facts rest rule

-- Each rule below a number begins with what its rows begin with, and one of them is empty where it is.
abbrev pub are_tight : (ℕ → ℕ) → (ℕ → Fact) → List Row → (count : ℕ) → Bool
are_tight begin facts rows zero = true
are_tight begin facts rows (suc rule) = within (begin rule) (firsts_by_rows begin facts rows rule) && ((if (facts rule).empty then empty_by_rows facts rows rule else true) && are_tight begin facts rows rule)

-- Tokens of all kinds that rows name.
abbrev pub samples : List tokens.Token
samples = tokens.Word [] ∷ tokens.SystemWord [] ∷ tokens.Number [] ∷ tokens.Based [] ∷ tokens.Quoted [] ∷ tokens.MacroWord [] ∷ tokens.MacroWord (codes "include") ∷ (map tokens.Mark marks ++ (map tokens.Operator signs ++ map tokens.Reserved keys))

abbrev pub is_kind_of_one : List tokens.Token → (kind : ℕ) → Bool
is_kind_of_one [] kind = false
is_kind_of_one (t ∷ ts) kind = if nat_eq (token_kind t) kind then true else is_kind_of_one ts kind

abbrev pub have_tokens : List Item → Bool
have_tokens [] = true
have_tokens (Token k ∷ s) = is_kind_of_one samples k && have_tokens s
have_tokens (Phrase p ∷ s) = have_tokens s
have_tokens (Rule r ∷ s) = have_tokens s

-- Whether items end where the rules of a set do.
abbrev pub end_by : (set : ℕ) → List Item → Bool
end_by set [] = true
end_by set (Token k ∷ s) = end_by set s
end_by set (Phrase p ∷ s) = end_by set s
end_by set (Rule r ∷ s) = has set r && end_by set s

-- The set, and the rules of which a row ends by it and by the rows before; and this again for a number of rounds.
abbrev pub more_ends : List Row → (set : ℕ) → ℕ
more_ends [] set = set
more_ends (row ∷ rest) set = more_ends rest (if end_by set row.items then bit_or set (only row.rule) else set)

abbrev pub ends_after : (rounds : ℕ) → List Row → (set : ℕ) → ℕ
ends_after zero rows set = set
ends_after (suc n) rows set = ends_after n rows (more_ends rows set)

abbrev pub all_end : (set : ℕ) → List Row → Bool
all_end set [] = true
all_end set (row ∷ rest) = end_by set row.items && all_end set rest

abbrev pub all_have_tokens : List Row → Bool
all_have_tokens [] = true
all_have_tokens (row ∷ rest) = have_tokens row.items && all_have_tokens rest

-- Rules begin with the kinds of the list and with no other, and all rows end; those of the pages do by five rounds.
abbrev pub is_exact : List ℕ → List Fact → List Row → Bool
is_exact begin facts rows =
    nat_eq (length begin) (length facts)
    && (are_closed (firsts_in begin) (fact_in facts) rows
    && (are_tight (firsts_in begin) (fact_in facts) rows (length facts)
    && (all_have_tokens rows && all_end (ends_after 5 rows 0) rows)))
