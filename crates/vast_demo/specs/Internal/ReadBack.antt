-- What is read from what a file prints.
use Rattle.std.specs.Prelude.{◌≡◌, true, Option, Some, option_map, Result, Ok, Err, string_bytes}
use Rattle.vast_literal.specs.Tree.{FileTree}
use Rattle.vast_literal.specs.PlainFile.{is_plain_file}
use Rattle.vast_literal.specs.NormalTree.{normal_file}
use Rattle.vast_literal.specs.declared.error.VastFault.{VastFault}
use Rattle.vast_literal.specs.declared.error.VastFault.TheVariants.{Refused, Memory}
use Rattle.vast_print.specs.Emits.{words_of}
use Rattle.vast_print.specs.Layout.{layout}
use Rattle.vast_read.specs.FileView.{file_view}
use Rattle.vast_read.specs.declared.tree.file.NormalFile.{NormalFile}

-- The normal form of the tree, where the file is plain; a refusal with its words, where its layout is refused; or memory was refused.
abbrev pub ReadsBack : FileTree → Result (Option NormalFile) VastFault → Type 0
ReadsBack f (Ok o) = is_plain_file f ≡ true → option_map file_view o ≡ Some (normal_file f)
ReadsBack f (Err (Refused e)) = words_of (layout f).fault ≡ Some (string_bytes e.0)
ReadsBack f (Err (Memory e)) = Unit {0}
