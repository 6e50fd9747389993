use Rattle.std.specs.BTreeMap.{get_by_text}
use Rattle.std.proofs.Common.{rules}
use Rattle.vast_names.specs.Internal.Texts.{texts_of}
use Rattle.vast_names.proofs.Filing.{find-answer}
use Rattle.vast_names.proofs.table.NameTable.find.Goals as goal

pub returns-in-None : goal.returns-in-None
returns-in-None c =
    let t = c.self.inside in
    rw (← c.self.view_is)
    (find-answer (texts_of t.texts) t.index.heads.items t.index.links.items (get_by_text t.index.crowded) c.args.name.now c.find_in_tree.result c.self.invariant.files (search rules) (search rules))
