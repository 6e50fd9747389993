-- What stands on a page of rows: tokens, rules and phrases by their names.
use Rattle.std.specs.Prelude.{List, Some, None}
use Rattle.vast_rows.specs.Numbers.{Op, Punct, Key}
use Rattle.vast_rows.specs.Kinds.{number}
use Rattle.vast_rows.specs.Numbers.{rule_number}
use Rattle.vast_rows.specs.Rows.{Row}
use Rattle.vast_rows.specs.declared.action.Action.{Action}
use Rattle.vast_rows.specs.declared.grammar.Item.{Item}
use Rattle.vast_rows.specs.declared.grammar.Item.TheVariants.{Token, Rule}
use Rattle.vast_rows.specs.declared.kind.Kind.TheVariants.{Word, MacroWord, IncludeWord, Mark, Operator, Reserved}
use Rattle.vast_rows.specs.declared.rule.Rule.{Rule as RuleName}

abbrev pub key : Key → Item
key k = Token (number (Reserved k))

abbrev pub mark : Punct → Item
mark m = Token (number (Mark m))

abbrev pub op : Op → Item
op sign = Token (number (Operator sign))

abbrev pub word : Item
word = Token (number Word)

-- Any macro but the one that includes a file, and that one.
abbrev pub macro_word : Item
macro_word = Token (number MacroWord)

abbrev pub include_word : Item
include_word = Token (number IncludeWord)

abbrev pub rule : RuleName → Item
rule name = Rule (rule_number name)

-- A row, which passes on what its items make, and one that makes something of it.
infix 4 ◌⟶◌
abbrev pub ◌⟶◌ : RuleName → List Item → Row
name ⟶ items = record { rule = rule_number name; items = items; action = None; looks = 0 }

infix 3 ◌⟹◌
abbrev pub ◌⟹◌ : Row → Action → Row
row ⟹ action = record { rule = row.rule; items = row.items; action = Some action; looks = 0 }
