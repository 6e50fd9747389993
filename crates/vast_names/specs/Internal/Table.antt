-- A table of names as the list of its names.
use Rattle.std.specs.Prelude.{ℕ, List, All}
use Rattle.std.specs.Str.{IsUtf8}
use Rattle.vast_names.specs.declared.table.NameTable.TheInside.{Inside}
use Rattle.vast_names.specs.Internal.Texts.{texts_of, IsCut}
use Rattle.vast_names.specs.Internal.Index.{Files}

-- A table's names, in the order in which they were entered.
abbrev pub names_of : Inside → List (List ℕ)
names_of t = texts_of t.texts

pub record IsTable (t : Inside) : Type 0 where
  pub cut : IsCut t.texts
  pub text : All IsUtf8 (texts_of t.texts)
  pub files : Files t.index (texts_of t.texts)
