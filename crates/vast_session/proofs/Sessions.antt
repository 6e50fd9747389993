-- What the lines of a session leave.
use Rattle.std.proofs.Common.{◌≡◌, ℕ, ◌+◌, ◌-◌, ◌^◌, length, min, Bool, false, if◌then◌else◌, List, [], Result, Ok, Err, Some, None, String, inl, inr, refl, ap, subst, sym, ◌∙◌, append-nil, string_bytes, true, ◌∷◌, ◌&&◌, nat_lt, ltb-true}
use Rattle.std.specs.declared.alloc.Global.{Global}
use Rattle.vast_literal.specs.Tree.{FileTree}
use Rattle.vast_literal.specs.declared.error.VastFault.{VastFault}
use Rattle.vast_core.specs.Bench.{Bench}
use Rattle.vast_core.specs.FileTree.{tree}
use Rattle.xlsynth_vast.specs.Reductions.{HasMoreNodes}
use Rattle.xlsynth_vast.specs.Registers.{HasUnused}
use Rattle.xlsynth_vast.proofs.RegisterParts.{unused-none}
use Rattle.vast_print.specs.Derived.{FileDerivesIfPlain}
use Rattle.vast_print.specs.Emits.{Emits}
use Rattle.vast_print.specs.Layout.{layout}
use Rattle.vast_script.specs.declared.answer.Answer.{Answer}
use Rattle.vast_script.specs.declared.fault.StepFault.{StepFault}
use Rattle.vast_script.specs.declared.fault.StepFault.TheVariants.{NoAnswer, WrongKind, Condition, Refused, Memory as OutOfMemory}
use Rattle.vast_session.specs.declared.fault.Fault.{Fault}
use Rattle.vast_session.specs.declared.fault.Fault.TheVariants.{Line, Memory}
use Rattle.vast_calls.specs.declared.helpers.Helper.{Helper}
use Rattle.vast_calls.specs.declared.helpers.Helper.TheVariants.{AddRegisters, BitwiseOrReduce, BitwiseOrReduceArrayElements, LogicalAndReduce, LogicalOrReduce}
use Rattle.vast_steps.specs.declared.step.Step.{Step}
use Rattle.vast_calls.specs.declared.line.Action.{Action}
use Rattle.vast_calls.specs.declared.line.Action.TheVariants.{Ask, Call as CallAction}
use Rattle.vast_calls.specs.declared.line.Call.{Call}
use Rattle.vast_calls.specs.declared.line.Call.TheVariants.{Step as StepCall, Helper as HelperCall}
use Rattle.vast_session.specs.declared.session.Session.{Session}
use Rattle.vast_calls.specs.declared.arguments.Known.{Known}
use Rattle.vast_calls.specs.declared.line.Line.{Line as ReadLine}
use Rattle.vast_calls.specs.declared.names.Named.{Named}
use Rattle.vast_calls.specs.declared.names.Names.{Names}
use Rattle.vast_calls.specs.declared.questions.Question.{Question}
use Rattle.vast_session.specs.declared.questions.answered.Value.{Value}
use Rattle.std.specs.Prelude.{IfOk, IfSome, Option, is_some, option_copied, codes, slice_index, ◌==◌}
use Rattle.vast_calls.specs.Lines.{Asked, HasKind, Helped, Passed, Stepped, behind_call, call_word, is_call, is_passed, line_arguments, line_kind, line_name, line_word, text_name, without_return, word_kind, NamesDialect}
use Rattle.vast_calls.specs.Names.{IsFree}
use Rattle.vast_session.specs.Names.{value_named}
use Rattle.vast_session.specs.Helpers.{Helps, IsKept}
use Rattle.vast_calls.specs.CallNames.{call_name}
use Rattle.vast_session.specs.Questions.{Asks}
use Rattle.vast_session.specs.Session.{Calls, Enters, GivesAnswer, HasMade, IsCallOf, IsCause, IsCausedBy, IsBegun, IsInForm, IsNumbered, IsOfLine, IsQuestionIn, IsStepIn, NamesCall, next_number, told_number, IsFileLeft, IsLeft, IsMade, IsTextOf, IsWrittenIn}
use Rattle.vast_calls.specs.Actions.{call_kind, IsActionOf, IsRead, NamesWord}
use Rattle.vast_session.specs.Internal.Session.{IsAskFault, IsCallFault, IsMisread, IsQuestionFault, IsToldAs, IsToldOf}
use Rattle.vast_calls.specs.Written.{meaning}
use Rattle.std.specs.Str.{IsUtf8, IsAscii}
use Rattle.std.proofs.lemmas.Bool.{and_parts}
use Rattle.std.proofs.lemmas.Str.{IsUtf8-from_ascii}
use Rattle.std.proofs.lemmas.Str.Ascii.{IsAscii-nil, IsAscii-cons}
use Rattle.vast_literal.specs.declared.kind.VastFileType.TheVariants.{Verilog, SystemVerilog}

pub nodes-unused : (old new : Bench) → HasMoreNodes old new → HasUnused old new
nodes-unused old new h =
    record { roots = h.more; assignments = []; containers = []; detached = old.detached; after = h.after ∙ rw (append-nil old.assignments, append-nil old.nests) refl }

pub same-unused : (old new : Bench) → new ≡ old → HasUnused old new
same-unused old new e = subst (λ (b : Bench). HasUnused old b) (sym e) (unused-none old)

pub kept_same : (old new : Bench) (fault : StepFault) → new ≡ old → IsKept old new fault
kept_same old new NoAnswer e = e
kept_same old new WrongKind e = e
kept_same old new Condition e = e
kept_same old new (Refused r) e = e
kept_same old new OutOfMemory e = (ap tree e, same-unused old new e)

pub ruleset helping = (nodes-unused, kept_same)

kept_helper : (old new : Bench) (answers : List Answer) (fault : StepFault) (helper : Helper) → Helps old new answers (Err fault) helper → IsKept old new fault
kept_helper old new answers fault (AddRegisters clk reset registers scope) h = h
kept_helper old new answers fault (BitwiseOrReduce values) h = h
kept_helper old new answers fault (BitwiseOrReduceArrayElements value dimensions) h = h
kept_helper old new answers fault (LogicalAndReduce values invert) h = h
kept_helper old new answers fault (LogicalOrReduce values invert) h = h

-- A call at fault keeps the file.
kept_call : (old new : Bench) (answers : List Answer) (fault : StepFault) (call : Call) → Calls old new answers (Err fault) call → IsKept old new fault
kept_call old new answers fault (StepCall step) h = kept_same old new fault h.1
kept_call old new answers fault (HelperCall helper) h = kept_helper old new answers fault helper h

left_kept : (old new : Session) (fault : StepFault) (told : Fault) → IsKept old.file new.file fault → new.answers.items ≡ old.answers.items → IsToldAs fault told → IsFileLeft old new told
left_kept old new NoAnswer (Line f) k a t = (k, a)
left_kept old new NoAnswer Memory k a t = (ap tree k, a)
left_kept old new WrongKind (Line f) k a t = (k, a)
left_kept old new WrongKind Memory k a t = (ap tree k, a)
left_kept old new Condition (Line f) k a t = (k, a)
left_kept old new Condition Memory k a t = (ap tree k, a)
left_kept old new (Refused r) (Line f) k a t = (k, a)
left_kept old new (Refused r) Memory k a t = (ap tree k, a)
left_kept old new OutOfMemory told k a t = subst (λ (f : Fault). IsFileLeft old new f) (sym t) (k.0, a)

unused_kept : (old new : Bench) (fault : StepFault) → IsKept old new fault → HasUnused old new
unused_kept old new NoAnswer k = same-unused old new k
unused_kept old new WrongKind k = same-unused old new k
unused_kept old new Condition k = same-unused old new k
unused_kept old new (Refused r) k = same-unused old new k
unused_kept old new OutOfMemory k = k.1

pub unused_call : (old new : Bench) (answers : List Answer) (call : Call) (fault : StepFault) → Calls old new answers (Err fault) call → HasUnused old new
unused_call old new answers call fault h = unused_kept old new fault (kept_call old new answers fault call h)

pub left_call : (old new : Session) (call : Call) (fault : StepFault) (told : Fault) → Calls old.file new.file old.answers.items (Err fault) call → new.answers.items ≡ old.answers.items → IsToldAs fault told → IsFileLeft old new told
left_call old new call fault told h a t = left_kept old new fault told (kept_call old.file new.file old.answers.items fault call h) a t

pub next-same : (old new : Session) → new.answers.items ≡ old.answers.items → new.skipped.items ≡ old.skipped.items → next_number new ≡ next_number old
next-same old new a s = λ i. min (length (a i) + length (s i)) (2 ^ 64 - 1)

pub call_fault :
    (old new : Session) (name : List ℕ) (call : Call) (number : ℕ) (cause : StepFault) (told : Fault) → Calls old.file new.file old.answers.items (Err cause) call →
    new.answers.items ≡ old.answers.items → new.skipped.items ≡ old.skipped.items → IsToldOf number name (Some (next_number new)) (Some cause) told → IsCallFault old new name call told
call_fault old new name call number cause (Line f) h a s e = (e.1, e.2 ∙ ap (λ (n : ℕ). Some n) (next-same old new a s), cause, e.3, h)
call_fault old new name call number cause Memory h a s e = tt

pub ask_fault : (number : ℕ) (name : List ℕ) (cause : StepFault) (told : Fault) → IsToldOf number name None (Some cause) told → IsAskFault number name told
ask_fault number name cause (Line f) e = (e.0, e.1, e.2, ap is_some e.3)
ask_fault number name cause Memory e = tt

pub of_line : (number : ℕ) (name : List ℕ) (step : Option ℕ) (cause : Option StepFault) (told : Fault) → IsToldOf number name step cause told → IsOfLine number told
of_line number name step cause (Line f) e = e.0
of_line number name step cause Memory e = tt

pub of_ask : (number : ℕ) (name : List ℕ) (told : Fault) → IsAskFault number name told → IsOfLine number told
of_ask number name (Line f) e = e.0
of_ask number name Memory e = tt

abbrev are_ascii : List ℕ → Bool
are_ascii [] = true
are_ascii (b ∷ bs) = nat_lt b 128 && are_ascii bs

ascii : (bs : List ℕ) → are_ascii bs ≡ true → IsAscii bs
ascii [] e = IsAscii-nil
ascii (b ∷ bs) e = let parts = and_parts _ _ e in IsAscii-cons b bs (ltb-true b 128 parts.0) (ascii bs parts.1)

-- The word of a dialect is UTF-8, so a line that isn't names none.
pub named_dialect : (line : List ℕ) → (IsUtf8 (without_return line) → ⊥) → NamesDialect line → ⊥
named_dialect line other (Verilog, is) = other (subst IsUtf8 (sym is) (IsUtf8-from_ascii (codes "verilog") (ascii (codes "verilog") refl)))
named_dialect line other (SystemVerilog, is) = other (subst IsUtf8 (sym is) (IsUtf8-from_ascii (codes "systemverilog") (ascii (codes "systemverilog") refl)))

-- Where memory was refused.

pub memory_call : (old new : Session) (name : List ℕ) (call : Call) (told : Fault) → told ≡ Memory → IsCallFault old new name call told
memory_call old new name call told e = subst (λ (f : Fault). IsCallFault old new name call f) (sym e) tt

pub memory_line : (number : ℕ) (told : Fault) → told ≡ Memory → IsOfLine number told
memory_line number told e = subst (λ (f : Fault). IsOfLine number f) (sym e) tt

pub memory_cause : (old new : Session) (line : List ℕ) (told : Fault) → told ≡ Memory → IsCausedBy old new line told
memory_cause old new line told e = subst (λ (f : Fault). IsCausedBy old new line f) (sym e) tt

pub file_same : (old new : Session) (fault : Fault) → new.file ≡ old.file → new.answers.items ≡ old.answers.items → IsFileLeft old new fault
file_same old new (Line f) e a = (e, a)
file_same old new Memory e a = (ap tree e, a)

pub memory_number : (session : Session) (line : List ℕ) (told : Fault) → told ≡ Memory → IsNumbered session line (Err told)
memory_number session line told e = subst (λ (f : Fault). IsNumbered session line (Err f)) (sym e) tt

pub memory_name : (session : Session) (line : List ℕ) (told : Fault) → told ≡ Memory → NamesCall session line told
memory_name session line told e = subst (λ (f : Fault). NamesCall session line f) (sym e) tt

pub ruleset dialects = (of_line)

pub ruleset faults = (left_call, file_same, unused_call, same-unused, call_fault, of_line, memory_call, memory_line)

pub has_made :
    (old new : Session) (call : Call) (name text line : List ℕ) → IsMade old new call → call_name call ≡ name → IsWrittenIn old call (behind_call text) → text ≡ without_return line →
    HasMade old new name (line_arguments line)
has_made old new call name text line h n w e = (call, n, h, subst (λ (t : List ℕ). IsWrittenIn old call (behind_call t)) e w)

-- A line is read over what the session knows.
pub read_known :
    (known : Known) (session : Session) (text : List ℕ) (line : ReadLine) → known.names.now ≡ session.names → known.skipped.now ≡ session.skipped.items →
    IsRead (meaning known.names.now) known.skipped.now text line → IsRead (meaning session.names) session.skipped.items text line
read_known known session text line n s h =
    subst (λ (skipped : List ℕ). IsRead (meaning session.names) skipped text line) s
    (subst (λ (names : Names). IsRead (meaning names) known.skipped.now text line) n h)

pub left_same :
    (old new : Session) (fault : Fault) → new.file ≡ old.file → new.answers.items ≡ old.answers.items → meaning new.names ≡ meaning old.names → new.skipped.items ≡ old.skipped.items → IsLeft old new fault
left_same old new fault e a n s = (file_same old new fault e a, (n, s))

-- The name that was read is the line's, and stands for nothing so far.
name_read : (named : List ℕ → Option Named) (skipped text line : List ℕ) (read : ReadLine) → IsRead named skipped text read → text ≡ without_return line → option_copied read.name ≡ line_name line
name_read named skipped text line read r e = r.2 ∙ ap text_name e

pub free_read : (named : List ℕ → Option Named) (skipped text : List ℕ) (read : ReadLine) → IsRead named skipped text read → IsFree named (option_copied read.name)
free_read named skipped text read r = subst (λ (name : Option (List ℕ)). IsFree named name) (sym r.2) r.3

-- The line's name was entered.
pub enters_read :
    (old new : Session) (text line : List ℕ) (read : ReadLine) (meant : Named) → IsRead (meaning old.names) old.skipped.items text read → text ≡ without_return line →
    Enters old new (option_copied read.name) meant → Enters old new (line_name line) meant
enters_read old new text line read meant r e h = subst (λ (name : Option (List ℕ)). Enters old new name meant) (name_read (meaning old.names) old.skipped.items text line read r e) h

-- What the line is that was read.

line_read : (line word : List ℕ) → is_passed (without_return line) ≡ false → word ≡ line_word line → line_kind line ≡ word_kind word
line_read line word p w = ap (λ (b : Bool). if b then Passed else word_kind (line_word line)) p ∙ ap word_kind (sym w)

action_read :
    (session : Session) (line name : List ℕ) (action : Action) → IsActionOf (meaning session.names) session.skipped.items name (line_arguments line) action → line_kind line ≡ word_kind name →
    name ≡ line_word line → IsFree (meaning session.names) (line_name line) → IsInForm session line
action_read session line name (Ask question) a k w f = inr (f, inl (question, (k ∙ a.0, (a.1 ∙ w, a.2))))
action_read session line name (CallAction call) a k w f = inr (f, inr (call, k ∙ a.0, (a.1 ∙ w, a.2)))

read_of :
    (session : Session) (text line : List ℕ) (read : ReadLine) → IsRead (meaning session.names) session.skipped.items text read → text ≡ without_return line →
    IsRead (meaning session.names) session.skipped.items (without_return line) read
read_of session text line read r e = subst (λ (t : List ℕ). IsRead (meaning session.names) session.skipped.items t read) e r

not_passed : (text line : List ℕ) → is_passed text ≡ false → text ≡ without_return line → is_passed (without_return line) ≡ false
not_passed text line p e = subst (λ (t : List ℕ). is_passed t ≡ false) e p

pub in_form :
    (session : Session) (text line : List ℕ) (read : ReadLine) → IsRead (meaning session.names) session.skipped.items text read → is_passed text ≡ false → text ≡ without_return line → IsInForm session line
in_form session text line read r p e =
    let found = read_of session text line read r e in
    action_read session line read.call.now read.action found.1 (line_read line read.call.now (not_passed text line p e) found.0) found.0 found.3

pub step_in :
    (session : Session) (text line : List ℕ) (read : ReadLine) (step : Step) → IsRead (meaning session.names) session.skipped.items text read → read.action ≡ CallAction (StepCall step) →
    is_passed text ≡ false → text ≡ without_return line → IsStepIn session step line
step_in session text line read step r a p e =
    let found = read_of session text line read r e in
    let acts = subst (λ (action : Action). IsActionOf (meaning session.names) session.skipped.items read.call.now (line_arguments line) action) a found.1 in
    (line_read line read.call.now (not_passed text line p e) found.0 ∙ acts.0, (acts.1 ∙ found.0, acts.2))

-- A call's name is that of no blank line.

never_passed : (asks helps : Bool) → (if asks then Asked else (if helps then Helped else Stepped)) ≡ Passed → ⊥
never_passed true helps e = absurd (cc e)
never_passed false true e = absurd (cc e)
never_passed false false e = absurd (cc e)

pub full : (text line : List ℕ) → is_passed text ≡ false → text ≡ without_return line → HasKind line Passed → ⊥
full text line p e h = never_passed (slice_index (line_word line) 0 == 63) (slice_index (line_word line) 0 == 33) (sym (line_read line (line_word line) (not_passed text line p e) refl) ∙ h.1)

-- Nor is a line that is no UTF-8 blank.
pub other : (line : List ℕ) → (IsUtf8 (without_return line) → ⊥) → HasKind line Passed → ⊥
other line u h = u h.0

pub ruleset reading = (in_form, step_in, full, other)

-- The fault of a line that is not in the form has no cause, and no number.

pub uncaused : (old new : Session) (line : List ℕ) (number : ℕ) (name : List ℕ) (step : Option ℕ) (fault : Fault) → IsToldOf number name step None fault → IsCausedBy old new line fault
uncaused old new line number name step (Line f) e = subst (λ (found : Option StepFault). IfSome found (IsCause old new line)) (sym e.3) tt
uncaused old new line number name step Memory e = tt

pub unnumbered : (session : Session) (line : List ℕ) (number : ℕ) (name : List ℕ) (fault : Fault) → IsToldOf number name None None fault → IsNumbered session line (Err fault)
unnumbered session line number name (Line f) e = e.2 ∙ sym (ap (told_number session line) e.3)
unnumbered session line number name Memory e = tt

asked_cause :
    (old new : Session) (line : List ℕ) (question : Question) (found : Option StepFault) → IsQuestionIn old question line →
    IfSome found (λ (cause : StepFault). Asks old.file old.answers.items (Err cause) question) → IfSome found (IsCause old new line)
asked_cause old new line question None k h = tt
asked_cause old new line question (Some cause) k h = inl (question, k, h)

asked_fault : (old new : Session) (line : List ℕ) (question : Question) (fault : Fault) → IsQuestionIn old question line → IsQuestionFault old question fault → IsCausedBy old new line fault
asked_fault old new line question (Line f) k h = asked_cause old new line question f.cause k h
asked_fault old new line question Memory k h = tt

pub question_fault :
    (session : Session) (question : Question) (number : ℕ) (name : List ℕ) (cause : StepFault) (told : Fault) → Asks session.file session.answers.items (Err cause) question →
    IsToldOf number name None (Some cause) told → IsQuestionFault session question told
question_fault session question number name cause (Line f) h e =
    subst (λ (found : Option StepFault). IfSome found (λ (c : StepFault). Asks session.file session.answers.items (Err c) question)) (sym e.3) h
question_fault session question number name cause Memory h e = tt

-- The question that a line was read as.
question_in :
    (session : Session) (text line : List ℕ) (read : ReadLine) (question : Question) → IsRead (meaning session.names) session.skipped.items text read → read.action ≡ Ask question → is_passed text ≡ false →
    text ≡ without_return line → IsQuestionIn session question line
question_in session text line read question r a p e =
    let found = read_of session text line read r e in
    let acts = subst (λ (action : Action). IsActionOf (meaning session.names) session.skipped.items read.call.now (line_arguments line) action) a found.1 in
    (line_read line read.call.now (not_passed text line p e) found.0 ∙ acts.0, (acts.1 ∙ found.0, acts.2))

-- What became of the question that the line is.
pub asked :
    (old new : Session) (text line : List ℕ) (read : ReadLine) (question : Question) (fault : Fault) → IsRead (meaning old.names) old.skipped.items text read → read.action ≡ Ask question →
    is_passed text ≡ false → text ≡ without_return line → IsQuestionFault old question fault → IsCausedBy old new line fault
asked old new text line read question fault r a p e h = asked_fault old new line question fault (question_in old text line read question r a p e) h

pub answered :
    (old new : Session) (text line : List ℕ) (read : ReadLine) (question : Question) (value : Value) (meant : Named) → IsRead (meaning old.names) old.skipped.items text read → read.action ≡ Ask question →
    is_passed text ≡ false → text ≡ without_return line → Asks old.file old.answers.items (Ok value) question → new.file ≡ old.file → new.answers.items ≡ old.answers.items →
    Enters old new (option_copied read.name) meant → meant ≡ value_named value → GivesAnswer old new line value
answered old new text line read question value meant r a p e h f s n is =
    let entered = enters_read old new text line read meant r e n in
    ((question, question_in old text line read question r a p e, h), (f, s), subst (λ (m : Named). Enters old new (line_name line) m) is entered)

none-asked : (session : Session) (line : List ℕ) (cause : Option StepFault) → line_kind line ≡ Asked → told_number session line cause ≡ None
none-asked session line None k = refl
none-asked session line (Some cause) k = ap (λ (b : Bool). if b then Some (next_number session) else None) (ap is_call k)

pub asked_number : (session : Session) (line : List ℕ) (number : ℕ) (name : List ℕ) (fault : Fault) → line_kind line ≡ Asked → IsAskFault number name fault → IsNumbered session line (Err fault)
asked_number session line number name (Line f) k h = h.2 ∙ sym (none-asked session line f.cause k)
asked_number session line number name Memory k h = tt

-- What became of the call that the line is.
pub caused :
    (old new : Session) (line name : List ℕ) (call : Call) (fault : Fault) → line_kind line ≡ call_kind call → IsCallOf old call line → IsCallFault old new name call fault → IsCausedBy old new line fault
caused old new line name call (Line f) k w h = subst (λ (found : Option StepFault). IfSome found (IsCause old new line)) (sym h.3) (inr (call, k, w, h.4))
caused old new line name call Memory k w h = tt

is-counted : (call : Call) → is_call (call_kind call) ≡ true
is-counted (StepCall step) = refl
is-counted (HelperCall helper) = refl

pub numbered :
    (old new : Session) (line name : List ℕ) (call : Call) (fault : Fault) → line_kind line ≡ call_kind call → IsCallFault old new name call fault → IsNumbered old line (Err fault)
numbered old new line name call (Line f) k h =
    h.1 ∙ sym (ap (told_number old line) h.3 ∙ ap (λ (b : Bool). if b then Some (next_number old) else None) (ap is_call k ∙ is-counted call))
numbered old new line name call Memory k h = tt

-- Which call a fault names.

pub called_bytes : (session : Session) (line : List ℕ) (number : ℕ) (fault : Fault) → IsToldOf number [] None None fault → (IsUtf8 (without_return line) → ⊥) → NamesCall session line fault
called_bytes session line number (Line f) e u = inr ((λ begun. u begun.0), e.3, e.1)
called_bytes session line number Memory e u = tt

called-word :
    (session : Session) (line : List ℕ) (number : ℕ) (name : List ℕ) (fault : Fault) → NamesWord (meaning session.names) (without_return line) name → IsToldOf number name None None fault →
    IsUtf8 (without_return line) → NamesCall session line fault
called-word session line number name (Line f) (inl (front, is)) e u = inl ((u, front), e.1 ∙ is)
called-word session line number name (Line f) (inr (unbegun, none)) e u = inr ((λ begun. unbegun begun.1), e.3, e.1 ∙ none)
called-word session line number name Memory h e u = tt

-- The fault of a line that could not be read.

pub misread_cause : (old new : Session) (text line : List ℕ) (number : ℕ) (fault : Fault) → IsMisread (meaning old.names) number text fault → IsCausedBy old new line fault
misread_cause old new text line number fault (name, word, told) = uncaused old new line number name None fault told

pub misread_number : (session : Session) (text line : List ℕ) (number : ℕ) (fault : Fault) → IsMisread (meaning session.names) number text fault → IsNumbered session line (Err fault)
misread_number session text line number fault (name, word, told) = unnumbered session line number name fault told

pub of_misread : (named : List ℕ → Option Named) (text : List ℕ) (number : ℕ) (fault : Fault) → IsMisread named number text fault → IsOfLine number fault
of_misread named text number fault (name, word, told) = of_line number name None None fault told

pub misread_call :
    (session : Session) (text line : List ℕ) (number : ℕ) (fault : Fault) → IsMisread (meaning session.names) number text fault → text ≡ without_return line → IsUtf8 (without_return line) →
    NamesCall session line fault
misread_call session text line number fault (name, word, told) e u =
    called-word session line number name fault (subst (λ (t : List ℕ). NamesWord (meaning session.names) t name) e word) told u

begun-read : (session : Session) (text line : List ℕ) (read : ReadLine) → IsRead (meaning session.names) session.skipped.items text read → text ≡ without_return line → IsUtf8 (without_return line) → IsBegun session line
begun-read session text line read r e u = let found = read_of session text line read r e in (u, (found.4, found.3))

pub called_ask :
    (session : Session) (text line : List ℕ) (read : ReadLine) (number : ℕ) (fault : Fault) → IsRead (meaning session.names) session.skipped.items text read → text ≡ without_return line →
    IsUtf8 (without_return line) → IsAskFault number read.call.now fault → NamesCall session line fault
called_ask session text line read number (Line f) r e u h = inl (begun-read session text line read r e u, h.1 ∙ r.0 ∙ ap call_word e)
called_ask session text line read number Memory r e u h = tt

pub called :
    (old new : Session) (text line : List ℕ) (read : ReadLine) (call : Call) (fault : Fault) → IsRead (meaning old.names) old.skipped.items text read → text ≡ without_return line →
    IsUtf8 (without_return line) → IsCallFault old new read.call.now call fault → NamesCall old line fault
called old new text line read call (Line f) r e u h = inl (begun-read old text line read r e u, h.0 ∙ r.0 ∙ ap call_word e)
called old new text line read call Memory r e u h = tt

pub ruleset asking = (ask_fault, question_fault)

pub ruleset lines = (
  full,
  other,
  left_same,
  has_made,
  same-unused,
  uncaused,
  unnumbered,
  asked,
  answered,
  asked_number,
  caused,
  numbered,
  called_bytes,
  called_ask,
  called,
  misread_cause,
  misread_number,
  misread_call,
  of_misread,
  of_line,
  of_ask,
  memory_line,
  memory_cause,
  memory_number,
  memory_name,
)

pub text_of :
    (file : FileTree) (text : String Global) (answer : Result (String Global) VastFault) → Emits (layout file) answer → IfOk answer (λ made. FileDerivesIfPlain (string_bytes made) file) → answer ≡ Ok text →
    IsTextOf file (string_bytes text)
text_of file text answer h d e =
    let m = subst (λ (r : Result (String Global) VastFault). Emits (layout file) r) e h in
    (m.0, m.1, subst (λ (r : Result (String Global) VastFault). IfOk r (λ made. FileDerivesIfPlain (string_bytes made) file)) e d)

pub ruleset emitted = (text_of)
