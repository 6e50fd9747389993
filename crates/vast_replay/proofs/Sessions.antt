-- A reply to each line of an input.
use Rattle.std.proofs.Common.{Vec, Global, IfSome, ◌≡◌, ◌==◌, ℕ, ◌<◌, Bool, true, false, cond, List, [], ◌∷◌, ◌++◌, length, Option, Some, None, refl, sym, ap, subst, ◌∙◌, arith, inl, inr, append_assoc, append-nil, if◌then◌else◌}
use Rattle.std.proofs.lemmas.Bool.{eqb-true, false≢true}
use Rattle.std.specs.Io.BufRead.{take_through, drop_through}
use Rattle.std.proofs.KnownBytes.{Appends-trans}
use Rattle.std.specs.Io.KnownBytes.{Appends}
use Rattle.vast_calls.specs.Lines.{lines_of, longer}
use Rattle.vast_replay.specs.Sessions.{RepliesOnce, RepliesToEach}
use Rattle.vast_replay.specs.Internal.Sessions.{IsWithoutFeed, ReadsLine}
use Rattle.vast_talk.specs.declared.repl.Repl.{Repl}

-- The first lines of the bytes were replied to, and these are left.
abbrev pub HasReplied : (bytes : List ℕ) → (old new : Repl) → (before behind : Option (List ℕ)) → (left : Option (List ℕ)) → Type 0
HasReplied bytes old new before behind left =
    (rest : List ℕ) × (lines : List (List ℕ)) × (text : List ℕ) × (left ≡ Some rest) × (lines_of bytes ≡ lines ++ lines_of rest) × RepliesToEach old new lines text × Appends before behind text

-- The first line of what is left.

eqb-refl-at : (x : ℕ) → x ≡ 10 → (x == 10) ≡ true
eqb-refl-at x e = ap (λ (n : ℕ). n == 10) e

abbrev IsFirstLine : List ℕ → Type 0
IsFirstLine xs = (line : List ℕ) → 0 < length xs → IsWithoutFeed (take_through 10 xs) line → lines_of xs ≡ line ∷ lines_of (drop_through 10 xs)

longer_line :
    (x : ℕ) (xs line : List ℕ) → (x == 10) ≡ false → IsFirstLine xs → IsWithoutFeed (x ∷ take_through 10 xs) line → longer x (lines_of xs) ≡ line ∷ lines_of (drop_through 10 xs)
longer_line x xs [] other more (inl e) = absurd (false≢true (sym other ∙ eqb-refl-at x (cc e)))
longer_line x [] (y ∷ []) other more (inl e) = absurd (cc e)
longer_line x [] (y ∷ z ∷ line) other more (inl e) = absurd (cc e)
longer_line x (z ∷ zs) (y ∷ line) other more (inl e) = ap (longer x) (more line (omega arith) (inl (cc e))) ∙ ap (λ (b : ℕ). (b ∷ line) ∷ lines_of (drop_through 10 (z ∷ zs))) (cc e)
longer_line x [] line other more (inr (e, none)) = ap (λ (l : List ℕ). l ∷ []) (sym e)
longer_line x (z ∷ zs) line other more (inr (e, none)) =
    ap (longer x) (more (take_through 10 (z ∷ zs)) (omega arith) (inr (refl, (λ front f. none (x ∷ front) (ap (λ (l : List ℕ). x ∷ l) f)))))
    ∙ ap (λ (l : List ℕ). l ∷ lines_of (drop_through 10 (z ∷ zs))) (sym e)

first_line :
    (feed : Bool) (x : ℕ) (xs line : List ℕ) → (x == 10) ≡ feed → IsFirstLine xs → IsWithoutFeed (if feed then x ∷ [] else x ∷ take_through 10 xs) line →
    cond feed ([] ∷ lines_of xs) (longer x (lines_of xs)) ≡ line ∷ lines_of (if feed then xs else drop_through 10 xs)
first_line true x xs [] is more (inl e) = refl
first_line true x xs (y ∷ []) is more (inl e) = absurd (cc e)
first_line true x xs (y ∷ z ∷ ys) is more (inl e) = absurd (cc e)
first_line true x xs line is more (inr (e, none)) = absurd (none [] (ap (λ (b : ℕ). b ∷ []) (eqb-true x 10 is)))
first_line false x xs line is more h = longer_line x xs line is more h

next_line : (xs : List ℕ) → IsFirstLine xs
next_line [] line some h = absurd (omega (arith, some))
next_line (x ∷ xs) line some h = first_line (x == 10) x xs line refl (λ l s f. next_line xs l s f) h

some_line : (xs : List ℕ) → 0 < length (take_through 10 xs) → 0 < length xs
some_line [] some = some
some_line (x ∷ xs) some = omega arith

-- What was read up to a line feed, without that, is the first line.
pub line_read :
    (before behind : Option (List ℕ)) (old piece : List ℕ) (line : Vec ℕ Global) → old ≡ [] → 0 < length piece → IfSome before (λ xs. piece ≡ old ++ take_through 10 xs) →
    IfSome before (λ xs. behind ≡ Some (drop_through 10 xs)) → IsWithoutFeed piece line.items → IfSome before (λ bytes. ReadsLine bytes behind (Some line))
line_read None behind old piece line none some is rest without = tt
line_read (Some xs) behind old piece line none some grown rest without =
    let is : piece ≡ take_through 10 xs = grown ∙ ap (λ (o : List ℕ). o ++ take_through 10 xs) none in
    (drop_through 10 xs, rest, next_line xs line.items (some_line xs (subst (λ (p : List ℕ). 0 < length p) is some)) (subst (λ (p : List ℕ). IsWithoutFeed p line.items) is without))

-- One line more was replied to.

one_behind :
    (old between new : Repl) (lines : List (List ℕ)) (line text reply : List ℕ) → RepliesToEach old between lines text → RepliesOnce between new line reply → RepliesToEach old new (lines ++ line ∷ []) (text ++ reply)
one_behind old between new [] line text reply (same, none) once = (new, reply, [], subst (λ (t : Repl). RepliesOnce t new line reply) same once, (refl, refl), ap (λ (t : List ℕ). t ++ reply) none ∙ sym (append-nil reply))
one_behind old between new (l ∷ lines) line text reply (after, first, more, is, are, same) once =
    (after, first, more ++ reply, is, one_behind after between new lines line more reply are once, ap (λ (t : List ℕ). t ++ reply) same ∙ append_assoc first more reply)

pub more_replied :
    (start : Option (List ℕ)) (first old new : Repl) (before between behind left next : Option (List ℕ)) (line : Vec ℕ Global) (reply : List ℕ) →
    IfSome start (λ bytes. HasReplied bytes first old before between left) → IfSome left (λ bytes. ReadsLine bytes next (Some line)) → RepliesOnce old new line.items reply → Appends between behind reply →
    IfSome start (λ bytes. HasReplied bytes first new before behind next)
more_replied None first old new before between behind left next line reply has reads once wrote = tt
more_replied (Some bytes) first old new before between behind left next line reply (rest, lines, text, is, all, are, written) reads once wrote =
    let read = subst (λ (l : Option (List ℕ)). IfSome l (λ bs. ReadsLine bs next (Some line))) is reads in (
      read.0,
      lines ++ line.items ∷ [],
      text ++ reply,
      read.1,
      all ∙ ap (λ (ls : List (List ℕ)). lines ++ ls) read.2 ∙ sym (append_assoc lines (line.items ∷ []) (lines_of read.0)),
      one_behind first old new lines line.items text reply are once,
      Appends-trans before between behind text reply written wrote,
    )
