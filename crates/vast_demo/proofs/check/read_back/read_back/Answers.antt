use Rattle.std.proofs.Common.{ℕ, List, subst, sym}
use Rattle.vast_core.specs.FileTree.{tree}
use Rattle.vast_print.specs.Derived.{FileDerivesIfPlain}
use Rattle.vast_demo.proofs.ReadingBack.{plain_read}
use Rattle.vast_demo.proofs.check.read_back.read_back.Goals as goal

pub returns : goal.returns
returns c =
    let d = subst (λ (text : List ℕ). FileDerivesIfPlain text (tree c.args.file.now)) (sym c.deref.ensures) c.in_ok-text.ensures.derived in
    plain_read (tree c.args.file.now) c.deref.result.now c.in_ok-read_normal.field-0 d c.in_ok-read_normal.ensures.read_back
