-- A list without a title whose lines are taken as they come.
use Rattle.std.proofs.Common.{◌≡◌, ℕ, Bool, List, [], ◌∷◌, ◌++◌, None, Result, Ok, Err, false, refl, sym, ap, subst, ◌∙◌}
use Rattle.std.proofs.lemmas.List.{append_assoc}
use Rattle.std.proofs.lemmas.List.Elements.{All-push}
use Rattle.std.proofs.lemmas.Option.{IfSome_then}
use Rattle.std.specs.Prelude.{IfOk, IfSome, OnOk, is_some}
use Rattle.std.specs.declared.alloc.AllocError.{AllocError}
use Rattle.vast_literal.specs.declared.kind.VastFileType.{VastFileType}
use Rattle.vast_list.specs.declared.answering.ListRun.{ListRun}
use Rattle.vast_session.specs.declared.fault.LineFault.{LineFault}
use Rattle.vast_list.specs.declared.output.ListOutput.{ListOutput}
use Rattle.vast_list.specs.declared.untitled.Stage.{Stage}
use Rattle.vast_list.specs.declared.untitled.Stage.TheVariants.{Before, Behind, Astray}
use Rattle.vast_list.specs.declared.untitled.UntitledList.{UntitledList}
use Rattle.vast_list.specs.Built.{HasBuilt, IsListText}
use Rattle.vast_list.specs.Internal.Built.{TakesLine}
use Rattle.vast_calls.specs.Lines.{BeginsWithDialect, HasKind, NamesDialect, Passed, dialect_word, line_kind, without_return}
use Rattle.vast_list.specs.Internal.Output.{IsDesign, IsFinished, TakesOn}
use Rattle.vast_list.specs.Untitled.{GoesOnTo, HasAnswered, HaveLedTo, IsPrintedOf, NameNoDialect}
use Rattle.vast_list.specs.Internal.Untitled.{LeadsTo}
use Rattle.vast_calls.specs.Written.{meaning}
use Rattle.vast_list.proofs.Built.{lines-more}

-- One line more stands after the dialect's.
begins-more : (lines behind : List (List ℕ)) (line : List ℕ) (dialect : VastFileType) → BeginsWithDialect lines dialect behind → BeginsWithDialect (lines ++ line ∷ []) dialect (behind ++ line ∷ [])
begins-more lines behind line dialect h =
    (h.0, h.1, h.2, h.3, ap (λ (ls : List (List ℕ)). ls ++ line ∷ []) h.4 ∙ append_assoc h.0 (h.1 ∷ behind) (line ∷ []))

-- The line names the dialect.
pub answered_first :
    (line : List ℕ) (dialect : VastFileType) (answering : ListRun) → without_return line ≡ dialect_word dialect → is_some answering.trial ≡ false → answering.is_stopped ≡ false →
    HasBuilt false dialect [] answering.session → LeadsTo line (Behind answering)
answered_first line dialect answering word trial going built =
    λ lines blank. record { trial = trial; stopped = λ stops. absurd (cc (sym going ∙ stops)); built = λ made. (dialect, [], (lines, line, blank, word, refl), built) }

-- It names none.
pub led_astray : (line : List ℕ) (fault : LineFault) → (HasKind line Passed → ⊥) → (NamesDialect line → ⊥) → LeadsTo line (Astray fault)
led_astray line fault full none = λ lines blank. (lines, line, [], blank, full, none, refl)

-- One line more is answered.
pub answered-more : (lines : List (List ℕ)) (line : List ℕ) (old new : ListRun) → HasAnswered lines old → TakesOn old new line → HasAnswered (lines ++ line ∷ []) new
answered-more lines line old new before on = record {
  trial = on.trial ∙ before.trial;
  stopped = on.stopped before.stopped;
  built = λ made.
      let was = before.built (on.verdict made) in
      let takes = subst (λ (again : Bool). TakesLine again old.session new.session line) before.trial (on.taken before.stopped made) in
      (was.0, was.1 ++ line ∷ [], begins-more lines was.1 line was.0 was.2, lines-more false was.0 was.1 line old.session new.session was.3 takes);
}

-- What a line does at each stage.

pub taken_behind :
    (old new : UntitledList) (line : List ℕ) (before after : ListRun) (r : Result (Unit {0}) AllocError) → old.stage ≡ Behind before → new.stage ≡ Behind after → OnOk r (TakesOn before after line) →
    OnOk r (GoesOnTo old new line)
taken_behind old new line before after (Ok done) was is on =
    λ lines h. subst (λ (s : Stage). HaveLedTo (lines ++ line ∷ []) s) (sym is) (answered-more lines line before after (subst (λ (s : Stage). HaveLedTo lines s) was h) on)
taken_behind old new line before after (Err e) was is on = tt

pub taken_before : (old new : UntitledList) (line : List ℕ) → old.stage ≡ Before → new.stage ≡ Before → line_kind line ≡ Passed → GoesOnTo old new line
taken_before old new line was is kind =
    λ lines h. subst (λ (s : Stage). HaveLedTo (lines ++ line ∷ []) s) (sym is) (All-push (λ (l : List ℕ). line_kind l ≡ Passed) lines line (subst (λ (s : Stage). HaveLedTo lines s) was h) kind)

pub taken_first :
    (old new : UntitledList) (line : List ℕ) → old.stage ≡ Before → (HasKind line Passed → ⊥) → ((HasKind line Passed → ⊥) → LeadsTo line new.stage) → GoesOnTo old new line
taken_first old new line was full leads = λ lines h. leads full lines (subst (λ (s : Stage). HaveLedTo lines s) was h)

pub taken_astray : (old new : UntitledList) (line : List ℕ) (fault : LineFault) → old.stage ≡ Astray fault → new.stage ≡ Astray fault → GoesOnTo old new line
taken_astray old new line fault was is =
    λ lines h.
    let led : NameNoDialect lines = subst (λ (s : Stage). HaveLedTo lines s) was h in
    subst (λ (s : Stage). HaveLedTo (lines ++ line ∷ []) s) (sym is)
    (led.0, led.1, led.2 ++ line ∷ [], led.3, led.4, led.5, ap (λ (ls : List (List ℕ)). ls ++ line ∷ []) led.6 ∙ append_assoc led.0 (led.1 ∷ led.2) (line ∷ []))

-- The text of the file that the lines built.
text-of-lines : (lines : List (List ℕ)) (answering : ListRun) (output : List ℕ) → HasAnswered lines answering → IsDesign answering output → IsListText false lines output
text-of-lines lines answering output before design =
    let was = before.built design.0 in
    (was.0, was.1, was.2, answering.session.file, answering.session.answers.items, meaning answering.session.names, was.3.0, design.1)

pub printed_behind :
    (list : UntitledList) (answering : ListRun) (r : Result ListOutput AllocError) → list.stage ≡ Behind answering →
    IfOk r (λ (made : ListOutput). IfSome made.output (λ output. IsFinished None answering made.verdict output.items)) → IfOk r (IsPrintedOf list)
printed_behind list answering (Ok made) is finished =
    λ lines h. IfSome_then made.output finished (λ output design. text-of-lines lines answering output.items (subst (λ (s : Stage). HaveLedTo lines s) is h) design)
printed_behind list answering (Err e) is finished = tt

pub printed_none : (list : UntitledList) (r : Result ListOutput AllocError) → IfOk r (λ (made : ListOutput). made.output ≡ None) → IfOk r (IsPrintedOf list)
printed_none list (Ok made) none = λ lines h. rw none tt
printed_none list (Err e) none = tt

pub ruleset untitled = (answered_first, led_astray, taken_behind, taken_before, taken_first, taken_astray, printed_behind, printed_none)
