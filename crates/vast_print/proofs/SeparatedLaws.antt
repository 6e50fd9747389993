-- Laws of writing lists in a line, with a separator before each part but the first.
use Rattle.std.proofs.Common.{◌≡◌, ℕ, zero, suc, ◌+◌, List, [], ◌∷◌, codes, add-one}
use Rattle.vast_literal.specs.Tree.{Declaration, ExprTree, Exprs, NoExprs, MoreExprs}
use Rattle.vast_literal.specs.declared.kind.VastFileType.{VastFileType as Dialect}
use Rattle.vast_print.specs.Printed.{Printed}
use Rattle.vast_print.specs.Page.{written}
use Rattle.vast_print.specs.Output.{Output, word, inline}
use Rattle.vast_print.specs.Text.{expr_text, list_text, more_text}
use Rattle.vast_print.specs.Members.{input_text, inputs_text, more_inputs_text, events_text, more_events_text}
use Rattle.vast_print.specs.Internal.Words.{separator}
use Rattle.vast_print.proofs.Lines.{word-nothing}
use Rattle.vast_print.proofs.OutputLaws.{inline-word, inline-then, inline-empty}

-- expressions joined by commas

-- what a list of expressions prints once i of its parts are printed
abbrev pub rest_text : ℕ → Exprs → Printed
rest_text zero es = list_text es
rest_text (suc i) es = more_text es

-- events joined by `or`

-- what a list of events prints once i of its parts are printed
abbrev pub rest_events : ℕ → Exprs → Printed
rest_events zero es = events_text es
rest_events (suc i) es = more_events_text es

pub inline-no-events : (d : ℕ) (k : Output) (i : ℕ) → inline d k (written (rest_events i NoExprs)) ≡ k
unfolding events_text more_events_text
inline-no-events d k zero = inline-empty d k
inline-no-events d k (suc i) = inline-empty d k

pub inline-events : (d : ℕ) (k : Output) (i : ℕ) (e : ExprTree) (es : Exprs) →
    inline d k (written (rest_events i (MoreExprs e es))) ≡ inline d (inline d (word k (separator i (codes " or "))) (written (expr_text e))) (written (rest_events (i + 1) es))
unfolding events_text more_events_text
inline-events d k zero e es = rw (word-nothing k) (simp inline-then)
inline-events d k (suc i) e es = rw (add-one (suc i)) (simp (inline-then, inline-word))

-- a function's inputs joined by commas

-- what a list of inputs prints once i of them are printed
abbrev pub rest_inputs : ℕ → Dialect → List Declaration → Printed
rest_inputs zero dialect ds = inputs_text dialect ds
rest_inputs (suc i) dialect ds = more_inputs_text dialect ds

pub inline-no-inputs : (d : ℕ) (k : Output) (dialect : Dialect) (i : ℕ) → inline d k (written (rest_inputs i dialect [])) ≡ k
unfolding inputs_text more_inputs_text
inline-no-inputs d k dialect zero = inline-empty d k
inline-no-inputs d k dialect (suc i) = inline-empty d k

pub inline-inputs : (d : ℕ) (k : Output) (dialect : Dialect) (i : ℕ) (x : Declaration) (xs : List Declaration) →
    inline d k (written (rest_inputs i dialect (x ∷ xs))) ≡ inline d (inline d (word k (separator i (codes ", "))) (written (input_text dialect x))) (written (rest_inputs (i + 1) dialect xs))
unfolding inputs_text more_inputs_text
inline-inputs d k dialect zero x xs = rw (word-nothing k) (simp inline-then)
inline-inputs d k dialect (suc i) x xs = rw (add-one (suc i)) (simp (inline-then, inline-word))
