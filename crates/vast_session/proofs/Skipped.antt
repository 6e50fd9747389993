-- A line that is passed over.
use Rattle.std.proofs.Common.{◌≡◌, ℕ, ◌+◌, Bool, true, false, if◌then◌else◌, List, [], ◌∷◌, ◌++◌, not, suc, take, Option, Some, None, refl, sym, ap, subst, ◌∙◌, append-nil, eqb-true, arith}
use Rattle.std.proofs.lemmas.Bool.{false≢true}
use Rattle.std.specs.List.{prefix_len}
use Rattle.std.specs.Prelude.{◌==◌}
use Rattle.std.specs.Str.{IsUtf8}
use Rattle.vast_calls.specs.declared.names.Named.{Named}
use Rattle.vast_calls.specs.declared.names.Named.TheVariants.{Skipped}
use Rattle.vast_session.specs.declared.session.Session.{Session}
use Rattle.vast_calls.specs.Lines.{Passed, call_word, first_word, is_call, is_call_line, is_named, is_passed, line_name, line_word, text_name, without_return, word_kind}
use Rattle.vast_calls.specs.Names.{IsFree, entered, is_name}
use Rattle.vast_session.specs.Session.{Skips, next_number, passed_numbers}
use Rattle.vast_calls.specs.Written.{meaning}

-- What begins with `#` or a tab is no name.

no-name-remark : (byte : ℕ) (bytes : List ℕ) → byte ≡ 35 → is_name (byte ∷ bytes) ≡ true → ⊥
no-name-remark byte bytes is named = false≢true (subst (λ (b : ℕ). is_name (b ∷ bytes) ≡ true) is named)

no-name-tab : (byte : ℕ) (bytes : List ℕ) → byte ≡ 9 → is_name (byte ∷ bytes) ≡ true → ⊥
no-name-tab byte bytes is named = false≢true (subst (λ (b : ℕ). is_name (b ∷ bytes) ≡ true) is named)

one-more : (n : ℕ) → 1 + n ≡ suc n
one-more n = omega arith

first-rest : List ℕ → List ℕ
first-rest bytes = take (prefix_len (λ x. not (x == 32)) bytes) bytes

first-cons : (byte : ℕ) (bytes : List ℕ) → (byte == 32) ≡ false → first_word (byte ∷ bytes) ≡ byte ∷ first-rest bytes
unfolding first-rest
first-cons byte bytes s = rw s (ap (λ (m : ℕ). take m (byte ∷ bytes)) (one-more (prefix_len (λ x. not (x == 32)) bytes)))

-- Nor is the first word of a comment or of what begins with a space.
no-name : (text : List ℕ) → is_passed text ≡ true → is_name (first_word text) ≡ true → ⊥
no-name [] passed named = false≢true named
no-name (byte ∷ bytes) passed named = go (byte == 32) (byte == 9) refl refl
  where
    go : (space tab : Bool) → (byte == 32) ≡ space → (byte == 9) ≡ tab → ⊥
    go true tab s t = false≢true (rw s at named)
    go false true s t = no-name-tab byte (first-rest bytes) (eqb-true byte 9 t) (rw (first-cons byte bytes s) at named)
    go false false s t = no-name-remark byte (first-rest bytes) (eqb-true byte 35 (rw (s, t) at passed)) (rw (first-cons byte bytes s) at named)

free-none : (named : List ℕ → Option Named) (text : List ℕ) (is : Bool) → is_passed text ≡ true → is_named text ≡ is → IsFree named (text_name text) → text_name text ≡ None
free-none named text true passed is free = absurd (no-name text passed (subst (λ (o : Option (List ℕ)). IsFree named o) (ap (λ (b : Bool). if b then Some (first_word text) else None) is) free).0)
free-none named text false passed is free = ap (λ (b : Bool). if b then Some (first_word text) else None) is

entered-none : (named : List ℕ → Option Named) (name : Option (List ℕ)) (meant : Named) → name ≡ None → named ≡ entered named name meant
entered-none named name meant e = sym (ap (λ (o : Option (List ℕ)). entered named o meant) e)

-- A line that is no UTF-8 changes nothing.
pub skipped_bytes : (session : Session) (line : List ℕ) → (IsUtf8 (without_return line) → ⊥) → Skips session session line
skipped_bytes session line other = record { file = (refl, refl); known = λ utf8. absurd (other utf8); other = λ _. (refl, refl) }

no-numbers : (session : Session) (line : List ℕ) → is_call_line line ≡ false → passed_numbers session line ≡ []
no-numbers session line e = ap (λ (b : Bool). if b then next_number session ∷ [] else []) e

passed-kind : (line : List ℕ) → is_passed (without_return line) ≡ true → is_call_line line ≡ false
passed-kind line p = ap (λ (b : Bool). is_call (if b then Passed else word_kind (line_word line))) p

-- Nor does a blank line or a comment.
pub skipped_empty : (session : Session) (text line : List ℕ) → text ≡ without_return line → is_passed text ≡ true → IsUtf8 (without_return line) → Skips session session line
skipped_empty session text line e p u =
    let passed : is_passed (without_return line) ≡ true = subst (λ (t : List ℕ). is_passed t ≡ true) e p in
    let none = no-numbers session line (passed-kind line passed) in
    record {
      file = (refl, refl);
      known = λ _. record {
        numbers = sym (ap (λ (ns : List ℕ). session.skipped.items ++ ns) none ∙ append-nil session.skipped.items);
        free = λ free. (free, entered-none (meaning session.names) (line_name line) Skipped (free-none (meaning session.names) (without_return line) (is_named (without_return line)) passed refl free));
        taken = λ _. refl;
      };
      other = λ other. absurd (other u);
    }

full-kind : (line : List ℕ) (call : Bool) → is_passed (without_return line) ≡ false → is_call (word_kind (line_word line)) ≡ call → is_call_line line ≡ call
full-kind line call p w = ap (λ (b : Bool). is_call (if b then Passed else word_kind (line_word line))) p ∙ w

skipped-line :
    (old new : Session) (text line : List ℕ) (name : Option (List ℕ)) (numbers : List ℕ) → text ≡ without_return line → IsUtf8 (without_return line) → name ≡ text_name text → new.file ≡ old.file →
    new.answers.items ≡ old.answers.items → passed_numbers old line ≡ numbers → new.skipped.items ≡ old.skipped.items ++ numbers →
    (IsFree (meaning old.names) name → meaning new.names ≡ entered (meaning old.names) name Skipped) → ((IsFree (meaning old.names) name → ⊥) → meaning new.names ≡ meaning old.names) → Skips old new line
skipped-line old new text line name numbers e u n f a are grown free taken =
    let is : name ≡ line_name line = n ∙ ap text_name e in
    let free-line = subst (λ (o : Option (List ℕ)). IsFree (meaning old.names) o → meaning new.names ≡ entered (meaning old.names) o Skipped) is free in
    record {
      file = (f, a);
      known = λ _. record {
        numbers = grown ∙ ap (λ (ns : List ℕ). old.skipped.items ++ ns) (sym are);
        free = λ is_free. (is_free, free-line is_free);
        taken = subst (λ (o : Option (List ℕ)). (IsFree (meaning old.names) o → ⊥) → meaning new.names ≡ meaning old.names) is taken;
      };
      other = λ other. absurd (other u);
    }

-- A question has no number; a step or a helper has the next one.

pub skipped_question :
    (old new : Session) (text line call : List ℕ) (name : Option (List ℕ)) → text ≡ without_return line → IsUtf8 (without_return line) → is_passed text ≡ false → name ≡ text_name text →
    call ≡ call_word text → is_call (word_kind call) ≡ false → new.file ≡ old.file → new.answers.items ≡ old.answers.items → new.skipped.items ≡ old.skipped.items →
    (IsFree (meaning old.names) name → meaning new.names ≡ entered (meaning old.names) name Skipped) → ((IsFree (meaning old.names) name → ⊥) → meaning new.names ≡ meaning old.names) → Skips old new line
skipped_question old new text line call name e u p n w k f a s free taken =
    let kind = subst (λ (c : List ℕ). is_call (word_kind c) ≡ false) (w ∙ ap call_word e) k in
    let passed = subst (λ (t : List ℕ). is_passed t ≡ false) e p in
    skipped-line old new text line name [] e u n f a (no-numbers old line (full-kind line false passed kind)) (s ∙ sym (append-nil old.skipped.items)) free taken

pub skipped_call :
    (old new : Session) (text line call : List ℕ) (name : Option (List ℕ)) (number : ℕ) → text ≡ without_return line → IsUtf8 (without_return line) → is_passed text ≡ false → name ≡ text_name text →
    call ≡ call_word text → is_call (word_kind call) ≡ true → new.file ≡ old.file → new.answers.items ≡ old.answers.items → number ≡ next_number old → new.skipped.items ≡ old.skipped.items ++ number ∷ [] →
    (IsFree (meaning old.names) name → meaning new.names ≡ entered (meaning old.names) name Skipped) → ((IsFree (meaning old.names) name → ⊥) → meaning new.names ≡ meaning old.names) → Skips old new line
skipped_call old new text line call name number e u p n w k f a is s free taken =
    let kind = subst (λ (c : List ℕ). is_call (word_kind c) ≡ true) (w ∙ ap call_word e) k in
    let passed = subst (λ (t : List ℕ). is_passed t ≡ false) e p in
    let numbers : passed_numbers old line ≡ next_number old ∷ [] = ap (λ (b : Bool). if b then next_number old ∷ [] else []) (full-kind line true passed kind) in
    skipped-line old new text line name (number ∷ []) e u n f a (numbers ∙ ap (λ (m : ℕ). m ∷ []) (sym is)) s free taken

pub ruleset skips = (skipped_bytes, skipped_empty, skipped_question, skipped_call)
