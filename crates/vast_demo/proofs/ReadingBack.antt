-- A plain file is read back from what it prints.
use Rattle.std.proofs.Common.{◌≡◌, ℕ, List, true, Option, Some, option_map}
use Rattle.vast_literal.specs.Tree.{FileTree}
use Rattle.vast_literal.specs.NormalFile as normal
use Rattle.vast_literal.specs.PlainFile.{is_plain_file}
use Rattle.vast_literal.specs.NormalTree.{normal_file}
use Rattle.vast_literal.specs.FileGrammar.{DerivesFile}
use Rattle.vast_print.specs.Derived.{FileDerivesIfPlain}
use Rattle.vast_read.specs.FileView.{file_view}
use Rattle.vast_read.specs.declared.tree.file.NormalFile.{NormalFile}

pub plain_read :
    (f : FileTree) (text : List ℕ) (o : Option NormalFile) → FileDerivesIfPlain text f → ((t : normal.NormalFile) → DerivesFile text t → option_map file_view o ≡ Some t) →
    is_plain_file f ≡ true → option_map file_view o ≡ Some (normal_file f)
plain_read f text o d back p = back (normal_file f) (d p).derived
