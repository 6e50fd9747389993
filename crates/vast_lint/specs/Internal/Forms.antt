-- Where an expression may stand, and what a name is.
use Rattle.std.specs.Prelude.{ℕ, List, [], ◌∷◌, Bool, true, false, ◌&&◌}
use Rattle.std.specs.List.{list_all}
use Rattle.vast_literal.specs.Scan.{is_letter, is_word_byte}
use Rattle.vast_lint.specs.declared.forms.Form.{Form}
use Rattle.vast_lint.specs.declared.forms.Form.TheVariants.{Signal, Bit, Part, Constant, Call, Concat, Pattern, Other}

-- What each tool takes a select of: a net, a variable, an array's element, a parameter, and whatever a macro stands for.
abbrev pub is_selectable : Form → Bool
is_selectable (Signal dimensions) = true
is_selectable Constant = true
is_selectable Other = true
is_selectable _ = false

-- What may be assigned to (IEEE 1800-2017, 10.3.2 and 10.4): a net or a variable, a select of one, a concatenation or an
-- assignment pattern of such, and whatever a macro stands for.
abbrev pub is_left_side : Form → Bool
is_left_side (Signal dimensions) = true
is_left_side Bit = true
is_left_side Part = true
is_left_side (Concat parts) = parts
is_left_side Pattern = true
is_left_side Other = true
is_left_side _ = false

-- What may stand as a statement by itself (IEEE 1800-2017, 13.3 and 13.4): a call, and whatever a macro stands for.
abbrev pub is_task : Form → Bool
is_task (Call bare simulated) = true
is_task Other = true
is_task _ = false

-- A simple identifier (IEEE 1800-2017, 5.6): a letter of ASCII or `_`, then letters, digits, `_` and `$`.
abbrev pub is_simple : List ℕ → Bool
is_simple [] = false
is_simple (c ∷ cs) = is_letter c && list_all is_word_byte cs
