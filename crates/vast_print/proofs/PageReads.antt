-- Pages and their words, over what their parts bring.
use Rattle.std.proofs.Common.{◌≡◌, ℕ, List, [], ◌∷◌, ◌++◌, true, false, eqb, None, refl, sym, subst, not, append_assoc, codes}
use Rattle.vast_literal.specs.Tokens.{Token, key_text, Reserved, Mark}
use Rattle.vast_literal.specs.declared.token.Mark.TheVariants.{OpenParen, CloseParen, Semicolon, Assign, Colon}
use Rattle.vast_literal.specs.declared.token.Key.{Key}
use Rattle.vast_literal.specs.declared.token.Key.TheVariants.{Begin as BeginKey, End as EndKey, If as IfKey, Else as ElseKey}
use Rattle.vast_literal.specs.Scan.{scan}
use Rattle.vast_literal.specs.LiteralToken.{every}
use Rattle.vast_literal.proofs.FileTokens.{block_tokens}
use Rattle.vast_literal.proofs.TokenReads.{Free, Divides, Reads}
use Rattle.vast_literal.proofs.Pieces.{free_reads, free_free, reads_end, divides_free}
use Rattle.vast_literal.proofs.Words.{key_reads}
use Rattle.vast_print.specs.Printed.{Printed, plain_text, ◌⊕◌}
use Rattle.vast_print.specs.Page.{Line, Page, one_line, beside_lines, written_lines, no_lines, line, inner, lead, above, beside, written, commented, commented_lines, note}
use Rattle.vast_print.specs.Statements.{begin_end}
use Rattle.vast_print.proofs.FaultLaws.{first_none}
use Rattle.vast_print.proofs.TextReads.{Prints, nothing_reads}
use Rattle.vast_print.proofs.PageLines.{flat, body, Lines, Hangs, Behind, above_lines, inner_whole, lead_whole, no_lines_free, lines_are_indented, line_is_indented, written_is_indented, above_is_indented, behind_none, free_is_indented, behind_divides, behind_is_indented, filled-written, body-written, comment_lines}
use Rattle.std.proofs.lemmas.Bool.{cond_both}

-- Unless it is refused, the page brings the tokens so.
pub record Lays (Brings : List Line → List Token → Type 0) (p : Page) (ts : List Token) : Type 0 where
  pub lines : p.fault ≡ None → Brings p.lines ts

-- a page of whole lines
abbrev pub Whole : Page → List Token → Type 0
Whole p ts = Lays Lines p ts

-- a page whose last line may go on
abbrev pub Open : Page → List Token → Type 0
Open p ts = Lays Hangs p ts

-- a page that goes on after another
abbrev pub Follows : Page → List Token → Type 0
Follows p ts = Lays Behind p ts

-- the same tokens
pub page_regrouped : {Brings : List Line → List Token → Type 0} {p : Page} {ts us : List Token} → Lays Brings p ts → ts ≡ us → Lays Brings p us
page_regrouped f e = rw (sym e) f

pub whole_above : {p q : Page} {ts us : List Token} → Whole p ts → Whole q us → Whole (above p q) (ts ++ us)
unfolding above
whole_above f g = record { lines = λ e. let (x, y) = first_none _ _ e in above_lines (f.lines x) (g.lines y) }

pub whole_inner : {p : Page} {ts : List Token} → Whole p ts → Whole (inner p) ts
unfolding inner
whole_inner f = record { lines = λ e. inner_whole (f.lines e) }

pub whole_lead : {p : Page} {ts : List Token} → Whole p ts → Whole (lead p) ts
unfolding lead
whole_lead f = record { lines = λ e. lead_whole (f.lines e) }

pub whole_none : Whole no_lines []
unfolding no_lines
whole_none = record { lines = λ e. no_lines_free }

pub whole : {p : Page} {ts : List Token} → Open p ts → Whole p ts
whole f = record { lines = λ e. lines_are_indented (f.lines e) }

pub open_line : {w : List ℕ} {ts : List Token} → Reads w ts → Open (line w) ts
unfolding line
open_line f = record { lines = λ e. line_is_indented f }

pub whole_line : {w : List ℕ} {ts : List Token} → Reads w ts → Whole (line w) ts
whole_line f = whole (open_line f)

pub open_written : {p : Printed} {ts : List Token} → Prints Reads p ts → Open (written p) ts
unfolding written
open_written f = record { lines = λ e. written_is_indented (f.told e) }

pub whole_written : {p : Printed} {ts : List Token} → Prints Reads p ts → Whole (written p) ts
whole_written f = whole (open_written f)

pub open_above : {p q : Page} {ts us : List Token} → Whole p ts → Open q us → Open (above p q) (ts ++ us)
unfolding above
open_above f g = record { lines = λ e. let (x, y) = first_none _ _ e in above_is_indented (f.lines x) (g.lines y) }

pub open_free : {p : Printed} {q : Page} {ts us : List Token} → Prints Free p ts → Open q us → Open (beside (written p) q) (ts ++ us)
unfolding beside written
open_free {p = p} {ts = ts} f g = record {
  lines = λ e. let (x, y) = first_none _ _ e in
      free_is_indented (written_lines p.text) (filled-written p.text) (subst (λ (a : List ℕ). Free a ts) (sym (body-written p.text)) (f.told x)) (g.lines y);
}

pub open_follows : {p q : Page} {ts us : List Token} → Open p ts → Follows q us → Open (beside p q) (ts ++ us)
unfolding beside
open_follows f g = record { lines = λ e. let (x, y) = first_none _ _ e in behind_is_indented (f.lines x) (g.lines y) }

pub follows_none : Follows no_lines []
unfolding no_lines
follows_none = record { lines = λ e. behind_none }

pub follows_written : {p : Printed} {q : Page} {ts us : List Token} → Prints Divides p ts → Open q us → Follows (beside (written p) q) (ts ++ us)
unfolding beside written
follows_written {p = p} {ts = ts} f g = record {
  lines = λ e. let (x, y) = first_none _ _ e in
      behind_divides (written_lines p.text) (subst (λ (a : List ℕ). Divides a ts) (sym (body-written p.text)) (f.told x)) (g.lines y);
}

pub follows_line : {w : List ℕ} {q : Page} {ts us : List Token} → Divides w ts → Open q us → Follows (beside (line w) q) (ts ++ us)
unfolding beside line body
follows_line {w = w} f g = record { lines = λ e. behind_divides (one_line w) f (g.lines e) }

-- an empty line
pub whole_blank : Whole (line []) []
whole_blank = whole_line nothing_reads

-- comments: no line of a text has a line break

data Unbroken : List Line → Type 0 where
  no_line : Unbroken []
  more_lines : {l : Line} {p : List Line} → every (λ c. not (eqb c 10)) l.bytes ≡ true → Unbroken p → Unbroken (l ∷ p)

glued : (c : ℕ) (p : List Line) → eqb c 10 ≡ false → Unbroken p → Unbroken (beside_lines (one_line (c ∷ [])) p)
unfolding beside_lines
glued c [] e no_line = more_lines (rw e refl) no_line
glued c (l ∷ p) e (more_lines h u) = more_lines (rw e h) u

unbroken : (w : List ℕ) → Unbroken (written_lines w)
unfolding written_lines
unbroken [] = more_lines refl no_line
unbroken (c ∷ w) = cond_both (eqb c 10) _ _ Unbroken (λ _. more_lines refl (unbroken w)) (λ e. glued c (written_lines w) e (unbroken w))

note_lines : (d : ℕ) (w : List ℕ) → every (λ c. not (eqb c 10)) w ≡ true → Lines (record { depth = d; bytes = note w } ∷ []) []
unfolding flat
note_lines d [] h = record { at = (comment_lines [] refl).at }
note_lines d (c ∷ w) h = record { at = (comment_lines (32 ∷ c ∷ w) h).at }

comments_free : (p : List Line) → Unbroken p → Lines (commented_lines p) []
unfolding commented_lines
comments_free [] no_line = no_lines_free
comments_free (l ∷ p) (more_lines h u) = above_lines (note_lines l.depth l.bytes h) (comments_free p u)

-- A comment brings no tokens.
pub whole_comment : (text : List ℕ) → Whole (commented (written (plain_text text))) []
unfolding commented written plain_text
whole_comment text = record { lines = λ e. comments_free (written_lines text) (unbroken text) }

-- marks and keywords with spaces

pub space_divides : Divides (32 ∷ []) []
unfolding scan
space_divides = record { free = record { at = λ rest. refl }; stop = λ rest. refl }

pub equals : Divides (32 ∷ 61 ∷ 32 ∷ []) (Mark Assign ∷ [])
unfolding scan
equals = record { free = record { at = λ rest. refl }; stop = λ rest. refl }

pub semicolon : Divides (59 ∷ []) (Mark Semicolon ∷ [])
unfolding scan
semicolon = record { free = record { at = λ rest. refl }; stop = λ rest. refl }

pub space_open : Divides (32 ∷ 40 ∷ []) (Mark OpenParen ∷ [])
unfolding scan
space_open = record { free = record { at = λ rest. refl }; stop = λ rest. refl }

pub close_space : Divides (41 ∷ 32 ∷ []) (Mark CloseParen ∷ [])
unfolding scan
close_space = record { free = record { at = λ rest. refl }; stop = λ rest. refl }

pub label_colon : Divides (58 ∷ 32 ∷ []) (Mark Colon ∷ [])
unfolding scan
label_colon = record { free = record { at = λ rest. refl }; stop = λ rest. refl }

pub key_space : (k : Key) → Free (key_text k ++ (32 ∷ [])) (Reserved k ∷ [])
key_space k = reads_end (key_reads k) space_divides

pub key_open : (k : Key) → Free (key_text k ++ (32 ∷ 40 ∷ [])) (Reserved k ∷ Mark OpenParen ∷ [])
key_open k = reads_end (key_reads k) space_open

pub else_divides : Divides (codes " else ") (Reserved ElseKey ∷ [])
unfolding key_text
else_divides = divides_free space_divides (key_space ElseKey)

pub else_if_divides : Divides (codes " else if (") (Reserved ElseKey ∷ Reserved IfKey ∷ Mark OpenParen ∷ [])
unfolding key_text
else_if_divides = divides_free space_divides (free_free (key_space ElseKey) (key_open IfKey))

-- a condition between its parentheses
pub condition_divides : {o : List ℕ} {c : Printed} {os cs : List Token} → Divides o os → Prints Reads c cs → Prints Divides (plain_text o ⊕ c ⊕ plain_text (codes ") ")) (os ++ (cs ++ (Mark CloseParen ∷ [])))
unfolding ◌⊕◌ plain_text
condition_divides {c = c} f g = record { told = λ e. rw append_assoc (divides_free f (reads_end (g.told ((first_none c.fault None e).0)) close_space)) }

-- blocks

pub open_empty : Open (line (codes "begin end")) (block_tokens [])
unfolding key_text
open_empty = open_line (free_reads (key_space BeginKey) (key_reads EndKey))

pub open_block : {p : Page} {ts : List Token} → Whole p ts → Open (begin_end p) (block_tokens ts)
unfolding begin_end key_text
open_block f = open_above (whole_line (key_reads BeginKey)) (open_above (whole_inner f) (open_line (key_reads EndKey)))
