-- What is written so far, and what becomes of it where a page is written after it.
use Rattle.std.specs.Prelude.{ℕ, ◌+◌, ◌*◌, List, [], ◌∷◌, ◌++◌, true, false, cond, replicate, Option, Some, None}
use Rattle.vast_print.specs.declared.refusal.Refusal.{Refusal}
use Rattle.vast_print.specs.Page.{Line, Page}
use Rattle.vast_print.specs.Draft.{Draft}

-- a draft, or the first refusal
pub data Output : Type 0 where
  Unstopped : Draft → Output
  Stopped : Refusal → Output

-- the spaces that the next word brings
abbrev pub margin : Draft → List ℕ
margin k = cond k.fresh (replicate (2 * k.depth) 32) []

-- a word, which may be empty, after the spaces of its line
abbrev pub append_word : Draft → List ℕ → Draft
append_word k w = record { text = k.text ++ (margin k ++ w); depth = k.depth; fresh = false; begun = k.begun }

-- a word on the last line
unfoldable pub word : Output → List ℕ → Output
word (Unstopped k) [] = Unstopped k
word (Unstopped k) (c ∷ w) = Unstopped (append_word k (c ∷ w))
word (Stopped r) w = Stopped r

-- a new line
unfoldable pub next : ℕ → Output → Output
next d (Unstopped k) = Unstopped (record { text = cond k.begun (k.text ++ 10 ∷ []) k.text; depth = d; fresh = true; begun = true })
next d (Stopped r) = Stopped r

-- a refusal stops what is written
unfoldable pub stop : Output → Option Refusal → Output
stop k None = k
stop (Unstopped k) (Some r) = Stopped r
stop (Stopped s) (Some r) = Stopped s

unfoldable pub indented_lines : ℕ → Output → List Line → Output
indented_lines d k [] = k
indented_lines d k (l ∷ p) = indented_lines d (word (next (d + l.depth) k) l.bytes) p

unfoldable pub inline_lines : ℕ → Output → List Line → Output
inline_lines d k [] = k
inline_lines d k (l ∷ p) = indented_lines d (word k l.bytes) p

-- a page on lines of its own
unfoldable pub indented : ℕ → Output → Page → Output
indented d k p = stop (indented_lines d k p.lines) p.fault

-- a page that goes on after the last line
unfoldable pub inline : ℕ → Output → Page → Output
inline d k p = stop (inline_lines d k p.lines) p.fault
