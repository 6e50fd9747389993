use Rattle.vast_literal.specs.Quoted.{octal_escape}
use Rattle.vast_literal.proofs.EscapeLaws.{one_more}
use Rattle.vast_literal.proofs.QuotedLaws.{whole, quoted_token, quoted_content}
use Rattle.vast_literal.proofs.quoted.quoted_text.Goals as goal

pub loop-character-preserved : goal.loop-character-preserved
loop-character-preserved c = one_more octal_escape _ _ _ _ _ _ c.loop-character.invariant c.in-Some.ensures.steps.0 (c.in_ok-push_escaped.ensures)

pub returns-clause-text : goal.returns-clause-text
returns-clause-text c = whole _ _ _ _ c.loop-character.invariant c.in-None.ensures.steps.0.0 c.in_ok-push.ensures.bytes

pub returns-clause-undone : goal.returns-clause-undone
returns-clause-undone c = rw (returns-clause-text c) (quoted_content _)

pub returns-clause-token : goal.returns-clause-token
returns-clause-token c = rw (returns-clause-text c) (quoted_token _)
