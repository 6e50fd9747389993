use Rattle.std.proofs.Common.{◌≡◌, length}
use denote.Text.{Utf8}
use denote.Shadow.{shadow}
use Rattle.vast_print.specs.Printed.{plain_text}
use Rattle.vast_print.specs.Page.{written}
use Rattle.vast_print.specs.Output.{Unstopped, inline}
use Rattle.vast_print.proofs.writer.Writer.lines.Given as goal

abbrev pub invariant-loop-line : goal.invariant-loop-line
invariant-loop-line l = shadow (Utf8 l.rest) × (inline l.fn.self.margin (Unstopped l.fn.self.draft) (written (plain_text l.fn.text)) ≡ inline l.fn.self.margin (Unstopped l.self.draft) (written (plain_text l.rest))) × (l.self.margin ≡ l.fn.self.margin)

abbrev pub decreases-loop-line : goal.decreases-loop-line
decreases-loop-line l = length l.rest
