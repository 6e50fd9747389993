use Rattle.vast_rows.specs.Fronts.{LongestFront}
use Rattle.vast_rows.specs.Internal.Reaches.{SpellsRule}
use Rattle.vast_rows.specs.Rows.{rows_view}
use Rattle.vast_rows.proofs.FilesBegun.{one_spelled, of_file}
use Rattle.vast_rows.proofs.front.file_front.Goals as goal

pub front-requires-clause-spells : goal.front-requires-clause-spells
front-requires-clause-spells g c = rw c.number.ensures (one_spelled (rows_view c.files.result.items.now c.files.result.rows.now) c.files.ensures.page)

pub front-requires-clause-stands_last : goal.front-requires-clause-stands_last
front-requires-clause-stands_last g c = rw c.number.ensures c.files.ensures.file_stands_last

pub returns : goal.returns
returns g c =
    let told : LongestFront (SpellsRule (rows_view c.files.result.items.now c.files.result.rows.now) c.number.result) (g.S.Source.left c.args.source.now) (g.S.Source.left c.front.new.source) c.in-Ok.next.kinds c.in-Ok.next.ends = rw c.in-Ok.is at c.in_ok-next.ensures.told in
    of_file (rows_view c.files.result.items.now c.files.result.rows.now) c.files.ensures.page _ _ _ _ (rw c.number.ensures at told)
