use Rattle.std.proofs.Common.{ap, sym, ◌∙◌, inl, inr}
use Rattle.vast_rows.specs.Internal.Sources.{SpellsPhrase}
use Rattle.vast_rows.specs.Internal.Reaches.{Reaches, PartRead, WholeRead}
use Rattle.vast_rows.specs.Kinds.{number}
use Rattle.vast_rows.specs.declared.reach.Reach.TheVariants.{Nowhere}
use Rattle.vast_rows.proofs.Ending.{exact}
use Rattle.vast_rows.proofs.FrontTurns.{stands_first, turned, never_wrong, never_nothing, never_phrase, eats_next, eats_fewer, phrase_is_due}
use Rattle.vast_rows.proofs.PhraseDue.{nowhere, reads_part, reads_whole}
use Rattle.vast_rows.proofs.Standing.{stands, stands_before}
use Rattle.vast_rows.proofs.Residues.{quiet_before}
use Rattle.vast_rows.proofs.front.front.Goals as goal

pub tokens-init : goal.tokens-init
tokens-init g c = rw (c.in_ok-push.ensures.ok, c.new-stack.ensures) (stands_first _ _ c.args.start (g.S.Source.left c.args.source.now) c.requires.stands_last c.requires.spells)

pub returns-then-not-is_in : goal.returns-then-not-is_in
returns-then-not-is_in g c = let other = sym c.is_in.ensures ∙ c.if-not-is_in.true in let kind = c.number-kind.ensures.number ∙ ap number c.kind.ensures in record {
  told = stands_before _ _ _ c.args.start (exact _ _ _ c.args.table.now.exact) c.args.table.now.checked c.next_of-own.result.kinds c.next_of-own.result.ends c.number-kind.result c.tokens.invariant c.next_of-own.ensures.kinds c.next_of-own.ensures.ends kind other;
  plain = λ h. quiet_before (g.S.Source.left c.tokens.source) c.number-kind.result _ kind other;
}

pub returns-in-Wrong : goal.returns-in-Wrong
returns-in-Wrong g c =
    let t = turned c.args.table.now.exact c.args.table.now.checked c.tokens.invariant c.next_of-own.ensures.kinds (c.number-kind.ensures.number ∙ ap number c.kind.ensures) (sym c.is_in.ensures ∙ c.if-not-is_in.false) c.in_ok-open.ensures in
    absurd (elim c.in-Wrong.is [ inl e ↦ never_wrong (λ s es t. tt) t e | inr e ↦ never_nothing (λ s es t. tt) t e ])

pub tokens-preserved-in-Token : goal.tokens-preserved-in-Token
tokens-preserved-in-Token g c =
    let t = turned c.args.table.now.exact c.args.table.now.checked c.tokens.invariant c.next_of-own.ensures.kinds (c.number-kind.ensures.number ∙ ap number c.kind.ensures) (sym c.is_in.ensures ∙ c.if-not-is_in.false) c.in_ok-open.ensures in
    eats_next (λ s es t. tt) t _ c.in-Token.is _ c.take.ensures.left

pub tokens-smaller-in-Token : goal.tokens-smaller-in-Token
tokens-smaller-in-Token g c =
    let t = turned c.args.table.now.exact c.args.table.now.checked c.tokens.invariant c.next_of-own.ensures.kinds (c.number-kind.ensures.number ∙ ap number c.kind.ensures) (sym c.is_in.ensures ∙ c.if-not-is_in.false) c.in_ok-open.ensures in
    eats_fewer (λ s es t. tt) t _ c.take.ensures.left

pub returns-in-Ok-Nowhere : goal.returns-in-Ok-Nowhere
returns-in-Ok-Nowhere g c =
    let t = turned c.args.table.now.exact c.args.table.now.checked c.tokens.invariant c.next_of-own.ensures.kinds (c.number-kind.ensures.number ∙ ap number c.kind.ensures) (sym c.is_in.ensures ∙ c.if-not-is_in.false) c.in_ok-open.ensures in
    let r : Reaches (SpellsPhrase c.in-Phrase.phrase) (g.S.Source.left c.tokens.source) (g.S.Source.left c.reach.new.source) Nowhere = rw c.in-Ok-Nowhere.field-0-is at (rw c.in-Ok-Nowhere.is at c.in_ok-reach-in-Phrase.ensures) in record {
      told = rw r.0 (stands _ _ _ c.args.start (exact _ _ _ c.args.table.now.exact) c.args.table.now.checked c.next_of-own.result.kinds c.next_of-own.result.ends c.tokens.invariant c.next_of-own.ensures.kinds c.next_of-own.ensures.ends (nowhere c.args.table.now.checked (phrase_is_due (λ s es t. tt) t c.in-Phrase.phrase c.in-Phrase.is) r.1));
      plain = λ h. absurd (never_phrase (λ s es t. tt) t h c.in-Phrase.phrase c.in-Phrase.is);
    }

pub returns-in-Ok-Part : goal.returns-in-Ok-Part
returns-in-Ok-Part g c =
    let t = turned c.args.table.now.exact c.args.table.now.checked c.tokens.invariant c.next_of-own.ensures.kinds (c.number-kind.ensures.number ∙ ap number c.kind.ensures) (sym c.is_in.ensures ∙ c.if-not-is_in.false) c.in_ok-open.ensures in
    let r : PartRead (SpellsPhrase c.in-Phrase.phrase) (g.S.Source.left c.tokens.source) (g.S.Source.left c.reach.new.source) c.in-Ok-Part.kinds = rw c.in-Ok-Part.field-0-is at (rw c.in-Ok-Part.is at c.in_ok-reach-in-Phrase.ensures) in record {
      told = reads_part c.args.table.now.checked (phrase_is_due (λ s es t. tt) t c.in-Phrase.phrase c.in-Phrase.is) c.in-Ok-Part.kinds r;
      plain = λ h. absurd (never_phrase (λ s es t. tt) t h c.in-Phrase.phrase c.in-Phrase.is);
    }

pub tokens-preserved : goal.tokens-preserved
tokens-preserved g c =
    let t = turned c.args.table.now.exact c.args.table.now.checked c.tokens.invariant c.next_of-own.ensures.kinds (c.number-kind.ensures.number ∙ ap number c.kind.ensures) (sym c.is_in.ensures ∙ c.if-not-is_in.false) c.in_ok-open.ensures in
    let r : WholeRead (SpellsPhrase c.in-Phrase.phrase) (g.S.Source.left c.tokens.source) (g.S.Source.left c.reach.new.source) c.in-Ok-Whole.kinds = rw c.in-Ok-Whole.field-0-is at (rw c.in-Ok-Whole.is at c.in_ok-reach-in-Phrase.ensures) in
    reads_whole c.args.table.now.checked (phrase_is_due (λ s es t. tt) t c.in-Phrase.phrase c.in-Phrase.is) c.in-Ok-Whole.kinds r

pub returns-in-Err-clause-plain : goal.returns-in-Err-clause-plain
returns-in-Err-clause-plain g c =
    let t = turned c.args.table.now.exact c.args.table.now.checked c.tokens.invariant c.next_of-own.ensures.kinds (c.number-kind.ensures.number ∙ ap number c.kind.ensures) (sym c.is_in.ensures ∙ c.if-not-is_in.false) c.in_ok-open.ensures in
    λ h. absurd (never_phrase (λ s es t. tt) t h c.in-Phrase.phrase c.in-Phrase.is)
