-- One line more of a list, and what it builds.
use Rattle.std.proofs.Common.{◌≡◌, ℕ, Bool, true, false, List, [], ◌∷◌, ◌++◌, map, None, Result, Ok, Err, refl, sym, ap, ◌∙◌, subst, append_assoc, append-nil}
use Rattle.std.proofs.lemmas.List.{map-append}
use Rattle.std.proofs.lemmas.List.Sums.{fold-append}
use Rattle.vast_core.specs.Bench.{Bench, start}
use Rattle.vast_literal.specs.declared.kind.VastFileType.{VastFileType}
use Rattle.xlsynth_vast.specs.Registers.{HasUnused, with_unused}
use Rattle.xlsynth_vast.proofs.RegisterParts.{unused-none}
use Rattle.vast_script.specs.declared.answer.Answer.{Answer}
use Rattle.vast_steps.specs.declared.step.Step.{Step}
use Rattle.vast_script.specs.Outcome.{Made}
use Rattle.vast_script.specs.Script.{Going, Run, call_of, gone_on, one_more, run}
use Rattle.std.specs.Prelude.{IfOk, OnOk}
use Rattle.vast_session.specs.declared.fault.Fault.{Fault}
use Rattle.vast_calls.specs.declared.line.Call.{Call}
use Rattle.vast_calls.specs.declared.line.Call.TheVariants.{Step as StepCall}
use Rattle.vast_session.specs.declared.questions.answered.Value.{Value}
use Rattle.vast_session.specs.declared.session.LineResult.{LineResult}
use Rattle.vast_session.specs.declared.session.LineResult.TheVariants.{Nothing, Step as StepGiven, Helper as HelperGiven, Answer as Answered}
use Rattle.vast_session.specs.declared.session.Session.{Session}
use Rattle.vast_calls.specs.CallArguments.{call_pieces}
use Rattle.vast_calls.specs.CallNames.{call_name}
use Rattle.vast_calls.specs.Lines.{LineKind, Passed, Asked, Helped, Stepped, call_words, is_call, is_call_line, line_arguments, line_kind, line_word}
use Rattle.vast_calls.specs.Questions.{question_words}
use Rattle.vast_session.specs.Session.{Calls, Gives, GivesAnswer, GivesCall, IsGivenBy, Takes}
use Rattle.vast_calls.specs.Written.{AreWritten, meaning}
use Rattle.vast_list.specs.Built.{Between, HasBuilt, IsBetween, Reading, ReadsCall, ReadsLine, ReadsLines, ReadsQuestion, nothing_read}
use Rattle.vast_list.specs.Internal.Built.{TakesLine}

-- What no list names since a file and since a later one.
pub unused-more : (b c d : Bench) → HasUnused b c → HasUnused c d → HasUnused b d
unused-more b c d h k = record {
  roots = h.roots ++ k.roots;
  assignments = h.assignments ++ k.assignments;
  containers = h.containers ++ k.containers;
  detached = k.detached;
  after = k.after ∙ (ap (λ (x : Bench). with_unused k.roots k.assignments k.containers k.detached x) h.after
      ∙ rw (append_assoc b.nodes.roots h.roots k.roots, append_assoc b.assignments h.assignments k.assignments, append_assoc b.nests h.containers k.containers) refl);
}

between-same : (again : Bool) (b : Bench) → Between again b b
between-same false b = refl
between-same true b = unused-none b

between-more : (again : Bool) (b c d : Bench) → Between again b c → Between again c d → Between again b d
between-more false b c d h k = k ∙ h
between-more true b c d h k = unused-more b c d h k

-- Between two lines, and on to a third.

between-none : (again : Bool) (r : Reading) → IsBetween again r r
between-none again r = (between-same again r.file, refl)

between-on : (again : Bool) (a b c : Reading) → IsBetween again a b → IsBetween again b c → IsBetween again a c
between-on again a b c h k = (between-more again a.file b.file c.file h.0 k.0, k.1 ∙ ap (λ (r : Reading). record r { file = c.file }) h.1)

-- One line more is read.
reads-more :
    (again : Bool) (a b here c : Reading) (lines : List (List ℕ)) (line : List ℕ) → ReadsLines again a b lines → IsBetween again b here → ReadsLine (line_kind line) here c line →
    ReadsLines again a c (lines ++ line ∷ [])
reads-more again a b here c [] line h k reads = (here, c, between-on again a b here h k, reads, between-none again c)
reads-more again a b here c (first ∷ lines) line h k reads = (h.0, h.1, h.2, h.3, reads-more again h.1 b here c lines line h.4 k reads)

-- What is read of a session, with the calls that led to it.
abbrev reading : List Call → Session → Reading
reading calls session = record { calls = calls; file = session.file; answers = session.answers.items; named = meaning session.names }

-- What a line gives that is a call, over what was read before it.
call_read :
    (calls : List Call) (old new : Session) (name line : List ℕ) → old.skipped.items ≡ [] → name ≡ line_word line → (gives : GivesCall old new name line) →
    ReadsCall (reading calls old) (reading (calls ++ gives.0.0 ∷ []) new) line
call_read calls old new name line none word gives =
    let made = gives.0 in
    let call = made.0 in (
      call,
      made.2.0,
      made.1 ∙ word,
      subst (λ (skipped : List ℕ). AreWritten (meaning old.names) skipped (call_pieces call) (line_arguments line)) none made.3,
      made.2.1,
      gives.1.0,
      refl,
      made.2.2,
    )

question_read : (calls : List Call) (old new : Session) (line : List ℕ) (value : Value) → old.skipped.items ≡ [] → GivesAnswer old new line value → ReadsQuestion (reading calls old) (reading calls new) line
question_read calls old new line value none gives =
    let asked = gives.0 in
    let question = asked.0 in (
      question,
      value,
      (asked.1.1.0, subst (λ (skipped : List ℕ). AreWritten (meaning old.names) skipped (question_words question).1 (line_arguments line)) none asked.1.1.1),
      asked.2,
      gives.2.0,
      λ i. record { calls = calls; file = gives.1.0 i; answers = gives.1.1 i; named = meaning new.names },
    )

-- What a line gives is read, and none was passed over.
record IsReadOn (calls : List Call) (old new : Session) (line : List ℕ) : Type 0 where
  pub more : List Call
  pub reads : ReadsLine (line_kind line) (reading calls old) (reading more new) line
  pub none_skipped : new.skipped.items ≡ []

as_kind : (kind : LineKind) (a b : Reading) (line : List ℕ) → line_kind line ≡ kind → ReadsLine kind a b line → ReadsLine (line_kind line) a b line
as_kind kind a b line e h = subst (λ (k : LineKind). ReadsLine k a b line) (sym e) h

gives_read : (calls : List Call) (old new : Session) (line : List ℕ) (given : LineResult) → old.skipped.items ≡ [] → Gives old new line given → IsGivenBy line given → IsReadOn calls old new line
gives_read calls old new line Nothing none gives is = record {
  more = calls;
  reads = as_kind Passed _ _ line is (λ i. record { calls = calls; file = gives.0.0 i; answers = gives.0.1 i; named = gives.1.0 i });
  none_skipped = gives.1.1 ∙ none;
}
gives_read calls old new line (Answered name value) none gives is = record {
  more = calls;
  reads = as_kind Asked _ _ line is.0 (question_read calls old new line value none gives);
  none_skipped = gives.2.1 ∙ none;
}
gives_read calls old new line (StepGiven number name) none gives is = record {
  more = calls ++ gives.0.0 ∷ [];
  reads = as_kind Stepped _ _ line is.0 (call_read calls old new name.now line none is.1 gives);
  none_skipped = gives.1.1 ∙ none;
}
gives_read calls old new line (HelperGiven number name) none gives is = record {
  more = calls ++ gives.0.0 ∷ [];
  reads = as_kind Helped _ _ line is.0 (call_read calls old new name.now line none is.1 gives);
  none_skipped = gives.1.1 ∙ none;
}

-- One line more is taken.
pub lines-more :
    (again : Bool) (dialect : VastFileType) (lines : List (List ℕ)) (line : List ℕ) (old new : Session) → HasBuilt again dialect lines old → TakesLine again old new line → HasBuilt again dialect (lines ++ line ∷ []) new
lines-more again dialect lines line old new h takes =
    let calls = h.0.0 in
    let here = takes.between in
    let on = gives_read calls here new line takes.given (takes.known.1 ∙ h.1) takes.gives takes.is in
    let kept : reading calls here ≡ record (reading calls old) { file = here.file } =
    λ i. record { calls = calls; file = here.file; answers = takes.answers i; named = takes.known.0 i } in
    ((on.more, reads-more again (nothing_read dialect) (reading calls old) (reading calls here) (reading on.more new) lines line h.0.1 (takes.file, kept) on.reads), on.none_skipped)

-- No line builds nothing.
pub no-lines :
    (again : Bool) (dialect : VastFileType) (session : Session) → session.file ≡ start dialect 1 → session.answers.items ≡ [] → meaning session.names ≡ (λ (name : List ℕ). None) → session.skipped.items ≡ [] →
    HasBuilt again dialect [] session
no-lines again dialect session e a n s =
    (([], (subst (λ (b : Bench). Between again (start dialect 1) b) (sym e) (between-same again (start dialect 1)), λ i. record { calls = []; file = session.file; answers = a i; named = n i })), s)

-- The calls have the names in the lines.

name-call : (a b : Reading) (line : List ℕ) (lines : List (List ℕ)) → ReadsCall a b line → map call_name b.calls ++ call_words lines ≡ map call_name a.calls ++ line_word line ∷ call_words lines
name-call a b line lines h =
    ap (λ (calls : List Call). map call_name calls ++ call_words lines) h.6
    ∙ ap (λ (words : List (List ℕ)). words ++ call_words lines) (map-append call_name a.calls (h.0 ∷ []))
    ∙ append_assoc (map call_name a.calls) (call_name h.0 ∷ []) (call_words lines)
    ∙ ap (λ (word : List ℕ). map call_name a.calls ++ word ∷ call_words lines) h.2

name-line :
    (kind : LineKind) (a b : Reading) (line : List ℕ) (lines : List (List ℕ)) → line_kind line ≡ kind → ReadsLine kind a b line →
    map call_name b.calls ++ call_words lines ≡ map call_name a.calls ++ call_words (line ∷ lines)
name-line Passed a b line lines e h =
    let none : is_call_line line ≡ false = ap is_call e in
    rw none (ap (λ (r : Reading). map call_name r.calls ++ call_words lines) h)
name-line Asked a b line lines e h =
    let none : is_call_line line ≡ false = ap is_call e in
    rw none (ap (λ (r : Reading). map call_name r.calls ++ call_words lines) h.5)
name-line Helped a b line lines e h =
    let one : is_call_line line ≡ true = ap is_call e in
    rw one (name-call a b line lines h)
name-line Stepped a b line lines e h =
    let one : is_call_line line ≡ true = ap is_call e in
    rw one (name-call a b line lines h)

name-lines : (again : Bool) (a b : Reading) (lines : List (List ℕ)) → ReadsLines again a b lines → map call_name b.calls ≡ map call_name a.calls ++ call_words lines
name-lines again a b [] h = ap (λ (r : Reading). map call_name r.calls) h.1 ∙ sym (append-nil (map call_name a.calls))
name-lines again a b (line ∷ lines) h =
    name-lines again h.1 b lines h.4
    ∙ name-line (line_kind line) h.0 h.1 line lines refl h.3
    ∙ ap (λ (r : Reading). map call_name r.calls ++ call_words (line ∷ lines)) h.2.1

pub calls-named : (again : Bool) (dialect : VastFileType) (lines : List (List ℕ)) (read : Reading) → ReadsLines again (nothing_read dialect) read lines → map call_name read.calls ≡ call_words lines
calls-named again dialect lines read h = name-lines again (nothing_read dialect) read lines h

pub takes_once : (again : Bool) (old new : Session) (line : List ℕ) (r : Result LineResult Fault) → Takes old new line r → IfOk r (IsGivenBy line) → OnOk r (TakesLine again old new line)
takes_once again old new line (Ok given) takes kind = record { between = old; file = between-same again old.file; answers = refl; known = (refl, refl); given = given; gives = takes; is = kind }
takes_once again old new line (Err fault) takes kind = tt

pub takes_again :
    (old between new : Session) (line : List ℕ) (r : Result LineResult Fault) → HasUnused old.file between.file → between.answers.items ≡ old.answers.items → meaning between.names ≡ meaning old.names →
    between.skipped.items ≡ old.skipped.items → Takes between new line r → IfOk r (IsGivenBy line) → OnOk r (TakesLine true old new line)
takes_again old between new line (Ok given) unused answers names skipped takes kind =
    record { between = between; file = unused; answers = answers; known = (names, skipped); given = given; gives = takes; is = kind }
takes_again old between new line (Err fault) unused answers names skipped takes kind = tt

pub ruleset taking = (takes_once, takes_again)

-- Calls that are all steps are a run of these steps.

-- Steps whose calls end with this one end with its step.
record EndsWithStep (steps : List Step) (calls : List Call) (call : Call) : Type 0 where
  pub before : List Step
  pub step : Step
  pub steps_are : steps ≡ before ++ step ∷ []
  pub calls_are : calls ≡ map StepCall before
  pub call_is : call ≡ StepCall step

ends_with_step : (steps : List Step) (calls : List Call) (call : Call) → calls ++ call ∷ [] ≡ map StepCall steps → EndsWithStep steps calls call
ends_with_step [] [] call e = absurd (cc e)
ends_with_step [] (first ∷ calls) call e = absurd (cc e)
ends_with_step (step ∷ []) [] call e = record { before = []; step = step; steps_are = refl; calls_are = refl; call_is = cc e }
ends_with_step (step ∷ next ∷ steps) [] call e = absurd (cc e)
ends_with_step (step ∷ steps) (first ∷ calls) call e =
    let rest : calls ++ call ∷ [] ≡ map StepCall steps = cc e in
    let first_is : first ≡ StepCall step = cc e in
    let on = ends_with_step steps calls call rest in
    record { before = step ∷ on.before; step = on.step; steps_are = ap (λ (xs : List Step). step ∷ xs) on.steps_are; calls_are = λ i. first_is i ∷ on.calls_are i; call_is = on.call_is }

-- Whatever steps the calls so far are, the file and the answers are those of a run of them.
abbrev IsRun : Bench → Reading → Type 0
IsRun b read = (steps : List Step) → read.calls ≡ map StepCall steps → run b steps ≡ Going read.answers read.file

one-run : (b c : Bench) (xs : List Answer) (step : Step) (answer : Answer) → call_of step b xs ≡ Made answer c → one_more (Going xs b) step ≡ Going (xs ++ answer ∷ []) c
unfolding one_more
one-run b c xs step answer made = ap (gone_on xs b) made

run-more : (b : Bench) (before : List Step) (step : Step) → run b (before ++ step ∷ []) ≡ one_more (run b before) step
run-more b before step = fold-append one_more (Going [] b) before (step ∷ [])

call-run : (b : Bench) (old new : Reading) (line : List ℕ) → IsRun b old → ReadsCall old new line → IsRun b new
call-run b old new line h reads steps e =
    let ends = ends_with_step steps old.calls reads.0 (sym reads.6 ∙ e) in
    let made = subst (λ (call : Call). Calls old.file new.file old.answers (Ok reads.1) call) ends.call_is reads.4 in
    ap (run b) ends.steps_are
    ∙ run-more b ends.before ends.step
    ∙ ap (λ (r : Run). one_more r ends.step) (h ends.before ends.calls_are)
    ∙ one-run old.file new.file old.answers ends.step reads.1 made
    ∙ ap (λ (xs : List Answer). Going xs new.file) (sym reads.7)

line-run : (kind : LineKind) (b : Bench) (old new : Reading) (line : List ℕ) → IsRun b old → ReadsLine kind old new line → IsRun b new
line-run Passed b old new line h reads = subst (λ (r : Reading). IsRun b r) (sym reads) h
line-run Asked b old new line h reads = subst (λ (r : Reading). IsRun b r) (sym reads.5) h
line-run Helped b old new line h reads = call-run b old new line h reads
line-run Stepped b old new line h reads = call-run b old new line h reads

same-run : (b : Bench) (old new : Reading) → IsRun b old → IsBetween false old new → IsRun b new
same-run b old new h same = λ steps e. h steps (sym (ap (λ (r : Reading). r.calls) same.1) ∙ e) ∙ (λ i. Going (sym (ap (λ (r : Reading). r.answers) same.1) i) (sym same.0 i))

lines-run : (b : Bench) (old new : Reading) (lines : List (List ℕ)) → IsRun b old → ReadsLines false old new lines → IsRun b new
lines-run b old new [] h same = same-run b old new h same
lines-run b old new (line ∷ lines) h reads = lines-run b reads.1 new lines (line-run (line_kind line) b reads.0 reads.1 line (same-run b old reads.0 h reads.2) reads.3) reads.4

none-run : (b : Bench) (steps : List Step) → [] ≡ map StepCall steps → run b steps ≡ Going [] b
none-run b [] e = refl
none-run b (step ∷ steps) e = absurd (cc e)

pub steps-run :
    (dialect : VastFileType) (lines : List (List ℕ)) (read : Reading) (steps : List Step) → ReadsLines false (nothing_read dialect) read lines → read.calls ≡ map StepCall steps →
    run (start dialect 1) steps ≡ Going read.answers read.file
steps-run dialect lines read steps h e = lines-run (start dialect 1) (nothing_read dialect) read lines (none-run (start dialect 1)) h steps e
