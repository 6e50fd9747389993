use Rattle.std.proofs.Common.{◌≡◌}
use Rattle.vast_literal.specs.Shape.{packed_dimensions}
use Rattle.vast_core.specs.Handles.{type_rank}
use Rattle.vast_core.specs.Bench.{OwnsType, type_of}
use Rattle.vast_print.specs.Declaration.{packed_text}
use Rattle.vast_print.specs.Output.{Unstopped, inline}
use Rattle.vast_print.specs.Page.{written}
use Rattle.vast_core.specs.View.{bench}
use Rattle.vast_print.proofs.types.print_packed.Given as goal

abbrev pub invariant-loop-element : goal.invariant-loop-element
invariant-loop-element l =
    record {
      owned : OwnsType (bench l.ast) l.inner;
      same : inline l.fn.out.margin (Unstopped l.fn.out.draft) (written (packed_text (packed_dimensions (type_of (bench l.ast) l.fn.t)))) ≡ inline l.fn.out.margin (Unstopped l.out.draft) (written (packed_text (packed_dimensions (type_of (bench l.ast) l.inner))));
      margin : l.out.margin ≡ l.fn.out.margin;
    }

abbrev pub decreases-loop-element : goal.decreases-loop-element
decreases-loop-element l = type_rank l.inner
