use Rattle.std.proofs.Common.{rules, ◌∙◌, subst}
use Rattle.vast_shell.specs.Output.{AppendsFront}
use Rattle.vast_demo.proofs.Checking.{ends_answered, ends_unwritten, ends_unread, ends_refused}
use Rattle.vast_demo.proofs.program.print_answer.Goals as goal

pub returns-in-Ok-write_whole-clause-ends : goal.returns-in-Ok-write_whole-clause-ends
returns-in-Ok-write_whole-clause-ends g c = ends_answered _ _ _ _ _ c.in-Ok.is_derived _ _ c.in-Ok.ensures.answer (c.as_bytes.ensures.value ∙ c.answer_line.ensures) c.in-Ok-write_whole.ensures.whole (search (rules, c.from.ensures))

pub returns-in-Err-write_whole-clause-ends : goal.returns-in-Err-write_whole-clause-ends
returns-in-Err-write_whole-clause-ends g c = ends_unwritten _ _ _ _ _ _ c.in-Ok.is_derived _ _ c.in-Ok.ensures.answer (c.as_bytes.ensures.value ∙ c.answer_line.ensures) c.in-Err-write_whole.ensures.part (subst (AppendsFront _ _) c.line.ensures c.tell.ensures.told) c.tell.ensures.outcome

pub returns-in-Err-Memory-clause-ends : goal.returns-in-Err-Memory-clause-ends
returns-in-Err-Memory-clause-ends g c = ends_refused _ _ _ _ _ _ c.in-Err-Memory.ensures.some (subst (AppendsFront _ _) c.line-in-Err-Memory.ensures c.tell-in-Err-Memory.ensures.told) c.tell-in-Err-Memory.ensures.outcome

pub returns-in-Err-clause-ends : goal.returns-in-Err-clause-ends
returns-in-Err-clause-ends g c = ends_unread _ _ _ _ _ _ c.in-Err.ensures.some (subst (AppendsFront _ _) c.line-in-Err.ensures c.tell-in-Err.ensures.told) c.tell-in-Err.ensures.outcome
