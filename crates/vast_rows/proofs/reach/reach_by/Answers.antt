use Rattle.std.proofs.Common.{refl, ap, sym, ◌∙◌}
use Rattle.vast_rows.specs.Facts.{facts_view}
use Rattle.vast_rows.specs.Fronts.{LongestFront}
use Rattle.vast_rows.specs.Internal.Reaches.{SpellsRule, IsQuiet}
use Rattle.vast_rows.specs.Kinds.{number}
use Rattle.vast_rows.specs.Rows.{rows_view}
use Rattle.vast_rows.proofs.Ending.{exact}
use Rattle.vast_rows.proofs.Reached.{none_begins, whole, part_of}
use Rattle.vast_rows.proofs.reach.reach_by.Goals as goal

pub returns-then-not-is_in : goal.returns-then-not-is_in
returns-then-not-is_in g c = (
  refl,
  none_begins c.args.table.now.firsts.now (facts_view c.args.table.now.facts.now) (rows_view c.args.table.now.items.now c.args.table.now.rows.now) c.args.start (exact c.args.table.now.firsts.now (facts_view c.args.table.now.facts.now) (rows_view c.args.table.now.items.now c.args.table.now.rows.now) c.args.table.now.exact) c.args.table.now.checked
      (g.S.Source.left c.args.source.now) c.number.result (c.number.ensures.number ∙ ap number c.kind.ensures) (rw c.kinds_of.ensures at (sym c.is_in.ensures ∙ c.if-not-is_in.true)),
)

pub returns-then-next : goal.returns-then-next
returns-then-next g c =
    let told : LongestFront (SpellsRule (rows_view c.args.table.now.items.now c.args.table.now.rows.now) c.args.start) (g.S.Source.left c.args.source.now) (g.S.Source.left c.front.new.source) c.in-Ok.next.kinds c.in-Ok.next.ends = rw c.in-Ok.is at c.in_ok-front.ensures.told in
    let quiet : IsQuiet (g.S.Source.left c.front.new.source) c.in-Ok.next.kinds = (rw c.in-Ok.is at c.in_ok-front.ensures.plain) c.requires.plain in
    whole c.args.table.now.firsts.now (facts_view c.args.table.now.facts.now) (rows_view c.args.table.now.items.now c.args.table.now.rows.now) c.args.start (exact c.args.table.now.firsts.now (facts_view c.args.table.now.facts.now) (rows_view c.args.table.now.items.now c.args.table.now.rows.now) c.args.table.now.exact) c.args.table.now.checked
    (g.S.Source.left c.args.source.now) c.number.result (c.number.ensures.number ∙ ap number c.kind.ensures) c.requires.spells (rw c.kinds_of.ensures at (sym c.is_in.ensures ∙ c.if-not-is_in.false))
    (g.S.Source.left c.front.new.source) c.in-Ok.next.kinds c.in-Ok.next.ends told quiet c.if-next.true

pub returns-else-next : goal.returns-else-next
returns-else-next g c =
    let told : LongestFront (SpellsRule (rows_view c.args.table.now.items.now c.args.table.now.rows.now) c.args.start) (g.S.Source.left c.args.source.now) (g.S.Source.left c.front.new.source) c.in-Ok.next.kinds c.in-Ok.next.ends = rw c.in-Ok.is at c.in_ok-front.ensures.told in
    let quiet : IsQuiet (g.S.Source.left c.front.new.source) c.in-Ok.next.kinds = (rw c.in-Ok.is at c.in_ok-front.ensures.plain) c.requires.plain in
    part_of c.args.table.now.firsts.now (facts_view c.args.table.now.facts.now) (rows_view c.args.table.now.items.now c.args.table.now.rows.now) c.args.start (exact c.args.table.now.firsts.now (facts_view c.args.table.now.facts.now) (rows_view c.args.table.now.items.now c.args.table.now.rows.now) c.args.table.now.exact) c.args.table.now.checked
    (g.S.Source.left c.args.source.now) c.number.result (c.number.ensures.number ∙ ap number c.kind.ensures) c.requires.spells (rw c.kinds_of.ensures at (sym c.is_in.ensures ∙ c.if-not-is_in.false))
    (g.S.Source.left c.front.new.source) c.in-Ok.next.kinds c.in-Ok.next.ends told quiet c.if-next.false
