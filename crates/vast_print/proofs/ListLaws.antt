-- Laws of writing lists of parts: the first before the others, and none.
use Rattle.std.proofs.Common.{◌≡◌, ℕ, ◌+◌, true, ltb, List, [], ◌∷◌, length, map, drop, sym, ◌∙◌, ap, codes, refl, arith, ◌-◌}
use Rattle.std.proofs.lemmas.List.{length-map, length-drop}
use Rattle.std.proofs.lemmas.Bool.{lt-ltb}
use Rattle.std.proofs.lemmas.Bool.Decides.{nat_tests}
use Rattle.vast_literal.specs.Tree.{Declaration, StatementTree, Statements, NoStatements, MoreStatements}
use Rattle.vast_literal.specs.declared.kind.VastFileType.{VastFileType as Dialect}
use Rattle.vast_print.specs.Printed.{Printed, plain_text, ◌⊕◌}
use Rattle.vast_print.specs.Page.{lead, written}
use Rattle.vast_print.specs.Output.{Output, word, next, indented, inline}
use Rattle.vast_print.specs.Statements.{statement_page, statements_page}
use Rattle.vast_print.specs.Members.{entries_page, local_page, locals_page}
use Rattle.vast_print.specs.Internal.Words.{comma}
use Rattle.vast_print.proofs.Lines.{word-nothing}
use Rattle.vast_print.proofs.OutputLaws.{indented-none, indented-above, indented-lead, inline-then, inline-word}

pub indented-no-entries : (d : ℕ) (k : Output) → indented d k (entries_page []) ≡ k
unfolding entries_page
indented-no-entries d k = indented-none d k

pub indented-entries : (d : ℕ) (k : Output) (p : Printed) (ps : List Printed) →
    indented d k (entries_page (p ∷ ps)) ≡ indented d (word (inline d (next (d + 1) k) (written p)) (comma (ltb 0 (length ps)))) (entries_page ps)
unfolding entries_page
indented-entries d k p [] = indented-lead d k p ∙ sym (indented-none d (word (inline d (next (d + 1) k) (written p)) []) ∙ word-nothing (inline d (next (d + 1) k) (written p)))
indented-entries d k p (q ∷ ps) =
    let t : ltb 0 (length (q ∷ ps)) ≡ true = lt-ltb 0 (length (q ∷ ps)) (omega arith) in
    rw t (indented-above d k (lead (written (p ⊕ plain_text (codes ",")))) (entries_page (q ∷ ps))
    ∙ ap (λ j. indented d j (entries_page (q ∷ ps)))
    (indented-lead d k (p ⊕ plain_text (codes ",")) ∙ (inline-then d (next (d + 1) k) p (plain_text (codes ",")) ∙ inline-word d (inline d (next (d + 1) k) (written p)) (codes ",") refl)))

left-over : (a b : ℕ) → ltb 0 (b - a) ≡ ltb a b
left-over a b = grind (arith, nat_tests)

-- whether parts are left
pub more-left : {A B C : Type 0} (w : B → C) (v : A → B) (xs : List A) (i : ℕ) → ltb 0 (length (map w (map v (drop i xs)))) ≡ ltb i (length xs)
more-left w v xs i = simp (length-map, length-drop) (left-over i (length xs))

-- statements and the locals of a function, each below the one before

pub indented-no-statements : (d : ℕ) (k : Output) → indented d k (statements_page NoStatements) ≡ k
unfolding statements_page
indented-no-statements d k = indented-none d k

pub indented-statements : (d : ℕ) (k : Output) (s : StatementTree) (ss : Statements) → indented d k (statements_page (MoreStatements s ss)) ≡ indented d (indented d k (statement_page s)) (statements_page ss)
unfolding statements_page statement_page
indented-statements d k s ss = indented-above d k (statement_page s) (statements_page ss)

pub indented-no-locals : (d : ℕ) (k : Output) (dialect : Dialect) → indented d k (locals_page dialect []) ≡ k
unfolding locals_page
indented-no-locals d k dialect = indented-none d k

pub indented-locals : (d : ℕ) (k : Output) (dialect : Dialect) (x : Declaration) (xs : List Declaration) → indented d k (locals_page dialect (x ∷ xs)) ≡ indented d (indented d k (local_page dialect x)) (locals_page dialect xs)
unfolding locals_page
indented-locals d k dialect x xs = indented-above d k (local_page dialect x) (locals_page dialect xs)
