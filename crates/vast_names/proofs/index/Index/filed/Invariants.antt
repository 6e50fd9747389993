use Rattle.std.proofs.Common.{◌≡◌, length, take}
use Rattle.vast_names.specs.Internal.Texts.{texts_of}
use Rattle.vast_names.specs.Internal.Index.{Files}
use Rattle.vast_names.proofs.index.Index.filed.Given as goal

abbrev pub invariant-loop-i : goal.invariant-loop-i
invariant-loop-i l = record { files : Files l.index (take l.i (texts_of l.texts)); slots : length l.index.heads.items ≡ l.slots }
