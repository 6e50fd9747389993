use Rattle.std.proofs.Common.{◌≡◌, ℕ, List, Result, Ok, Err, false, subst, sym}
use Rattle.std.specs.Prelude.{IsTrue, OnOk}
use Rattle.std.specs.declared.alloc.AllocError.{AllocError}
use Rattle.vast_list.specs.declared.answering.ListReport.{ListReport}
use Rattle.vast_list.specs.declared.json_line.Answers.{Answers}
use Rattle.vast_session.specs.declared.session.Session.{Session}
use Rattle.vast_list.specs.Internal.Built.{TakesLine}
use Rattle.vast_list.specs.Internal.JsonLine.{AnswersOn}
use Rattle.vast_list.specs.Output.{is_made}
use Rattle.vast_list.proofs.Built.{takes_once}
use Rattle.vast_list.proofs.json_line.Answers.take.Goals as goal

answers-on :
    (old new : Answers) (session : Session) (line : List ℕ) (r : Result (Unit {0}) AllocError) → TakesLine false old.session session line → new.session ≡ session → new.told ≡ old.told →
    OnOk r (AnswersOn old new line)
answers-on old new session line (Err fault) takes same told = tt
answers-on old new session line (Ok done) takes same told = record {
  verdict = λ made. subst (λ (t : ListReport). IsTrue (is_made t.verdict)) told made;
  taken = λ made. subst (λ (s : Session). TakesLine false old.session s line) (sym same) takes;
}

pub returns-in-Ok : goal.returns-in-Ok
returns-in-Ok c =
    let takes : TakesLine false c.args.self.now.session c.line.new.self c.args.line.now =
    takes_once false c.args.self.now.session c.line.new.self c.args.line.now (Ok c.in-Ok.given) c.in-Ok.ensures.takes c.in-Ok.ensures.given in
    answers-on c.args.self.now c.keep.new.self c.line.new.self c.args.line.now c.keep.result takes c.keep.ensures.session c.keep.ensures.told
