-- What is left to write of what a loop writes, and of the list that it goes over.
use Rattle.std.proofs.Common.{◌≡◌}
use Rattle.std.proofs.lemmas.List.{drop_more, drop_all}
use Rattle.vast_print.specs.Draft.{Writing}
use Rattle.vast_print.specs.Output.{Unstopped, indented, inline}
use Rattle.vast_print.specs.Page.{Page, written}
use Rattle.vast_print.specs.Printed.{Printed}

-- A page on lines of its own, of which `rest` is left.
abbrev pub LinesLeft : (old new : Writing) (all rest : Page) → Type 0
LinesLeft old new all rest = record {
  same : indented old.margin (Unstopped old.draft) all ≡ indented old.margin (Unstopped new.draft) rest;
  margin : new.margin ≡ old.margin;
}

-- The same of a text after the last line.
abbrev pub TextLeft : (old new : Writing) (all rest : Printed) → Type 0
TextLeft old new all rest = record {
  same : inline old.margin (Unstopped old.draft) (written all) ≡ inline old.margin (Unstopped new.draft) (written rest);
  margin : new.margin ≡ old.margin;
}

pub ruleset left = (drop_more, drop_all)
