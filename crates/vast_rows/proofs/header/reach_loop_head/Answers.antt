use Rattle.vast_rows.proofs.HeaderTurns.{no_header, header_due, header_fewer, header_read, header_stands, header_part, fewer_still}
use Rattle.vast_rows.proofs.header.reach_loop_head.Goals as goal

pub returns-then-not-eat_variable : goal.returns-then-not-eat_variable
returns-then-not-eat_variable g c = let none = rw c.if-not-eat_variable.true at c.eat_variable.ensures.read in (none.0, no_header _ none.1)

pub parts-init : goal.parts-init
parts-init g c =
    let first = rw c.if-not-eat_variable.false at c.eat_variable.ensures.read in
    let named = rw c.if-not-eat_variable.false at c.eat_variable.ensures.named in record {
      header = rw (c.in_ok-push_all.ensures, c.header.ensures, c.new-stack.ensures) (header_due _ _ _ first named);
      fewer = header_fewer _ _ first;
    }

pub returns-in_default : goal.returns-in_default
returns-in_default g c = header_read _ _ _ _ _ c.in_default.ensures.0 c.parts.invariant.fewer c.parts.invariant.header

pub returns-in-Nowhere : goal.returns-in-Nowhere
returns-in-Nowhere g c = header_stands _ _ _ _ _ _ _ _ c.kinds_of.ensures c.parts.invariant.fewer (rw c.in-Some.ensures at c.parts.invariant.header) (rw c.in-Nowhere.is at c.in_ok-reach_part.ensures)

pub returns-in-Part : goal.returns-in-Part
returns-in-Part g c = header_part _ _ _ _ _ _ _ c.parts.invariant.fewer (rw c.in-Some.ensures at c.parts.invariant.header) (rw c.in-Part.is at c.in_ok-reach_part.ensures)

pub parts-preserved : goal.parts-preserved
parts-preserved g c =
    let read = rw c.in-Whole.is at c.in_ok-reach_part.ensures in
    record { header = read.1 _ _ (rw c.in-Some.ensures at c.parts.invariant.header); fewer = fewer_still _ _ _ c.parts.invariant.fewer read.0 }
