use Rattle.vast_session.proofs.Dialects.{begins}
use Rattle.vast_session.proofs.line.dialect_line.Goals as goal

pub returns-in_ok-dialect-in-Some : goal.returns-in_ok-dialect-in-Some
returns-in_ok-dialect-in-Some c =
    begins c.args.list.now.lines.items c.deref-2.result.now c.deref.result.now c.empty_lines.result c.in-Some.field-0-0.now c.in-Some.behind.now c.in_ok-dialect-in-Some.dialect
    c.deref-2.ensures.value c.deref.ensures.value c.empty_lines.ensures.passed c.in-Some.ensures.cases.0 c.in_ok-dialect-in-Some.ensures.dialect
