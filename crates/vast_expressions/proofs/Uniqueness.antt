-- Each token list spells at most one expression: it has one run, and a tree is told by its events.
use Rattle.std.proofs.Common.{[]}
use Rattle.vast_literal.specs.Grammar.{OneExpression}
use Rattle.vast_expressions.specs.Rows.{Expression}
use Rattle.vast_expressions.specs.Phrases.{whole}
use Rattle.vast_expressions.proofs.Phrases.{one_phrase}
use Rattle.std.proofs.Common.{refl}

pub one_expression : OneExpression
one_expression = record { same = λ ts a b x y. (one_phrase Expression 0 ts ts [] [] a b whole x y refl tt tt).0 }
