-- Loops have the tokens that the grammar reads.
use Rattle.std.proofs.Common.{◌≡◌, ℕ, List, [], ◌∷◌, ◌++◌, true, Option, Some, None, refl, codes}
use Rattle.vast_literal.specs.Tokens.{key_text, Reserved, Mark, Operator, Word, Number}
use Rattle.vast_literal.specs.declared.token.Sign.TheVariants.{Less, Plus}
use Rattle.vast_literal.specs.declared.token.Mark.TheVariants.{OpenParen, CloseParen, Semicolon}
use Rattle.vast_literal.specs.declared.token.Key.TheVariants.{Begin as BeginKey, For as ForKey, Genvar as GenvarKey, Int as IntKey}
use Rattle.vast_literal.specs.Tree.{ExprTree}
use Rattle.vast_literal.specs.declared.operator.BinaryOperator.TheVariants.{Lt as LtOp}
use Rattle.vast_literal.specs.Scan.{scan}
use Rattle.vast_literal.specs.Plain.{is_plain_name}
use Rattle.vast_literal.specs.PlainFile.{is_plain_label}
use Rattle.vast_literal.proofs.ExprTokens.{expr_tokens}
use Rattle.vast_literal.proofs.FileTokens.{test_tokens, loop_label_tokens}
use Rattle.vast_literal.proofs.TokenReads.{Free, Divides, Reads}
use Rattle.vast_literal.proofs.Pieces.{free_reads, free_free, reads_end, operator_divides, colon}
use Rattle.vast_literal.proofs.Words.{key_reads, name_reads, number_reads}
use Rattle.vast_literal.specs.Shape.{counting, right_child_wraps}
use Rattle.vast_print.specs.Printed.{plain_text, ◌⊕◌}
use Rattle.vast_print.specs.Text.{expr_text}
use Rattle.vast_print.specs.Members.{loop_label_text, loop_text}
use Rattle.vast_print.specs.Statements.{counting_text}
use Rattle.vast_print.proofs.TextReads.{Prints, Rest, printed_assoc, stands, rest_none, after, ended_by, parted_free, goes_on, bracketed}
use Rattle.vast_print.proofs.PageReads.{equals, close_space, key_space, key_open}

semicolon_space : Divides (59 ∷ 32 ∷ []) (Mark Semicolon ∷ [])
unfolding scan
semicolon_space = record { free = record { at = λ rest. refl }; stop = λ rest. refl }

for_free : Free (codes "for (genvar ") (Reserved ForKey ∷ Mark OpenParen ∷ Reserved GenvarKey ∷ [])
unfolding key_text
for_free = free_free (key_open ForKey) (key_space GenvarKey)

pub int_free : Free (codes "for (int ") (Reserved ForKey ∷ Mark OpenParen ∷ Reserved IntKey ∷ [])
unfolding key_text
int_free = free_free (key_open ForKey) (key_space IntKey)

step_divides : Divides (codes " + 1) ") (Operator Plus ∷ Number (codes "1") ∷ Mark CloseParen ∷ [])
step_divides = record { free = free_free (operator_divides Plus).free (reads_end (number_reads (49 ∷ []) refl) close_space); stop = λ rest. refl }

label_reads : (l : Option (List ℕ)) → is_plain_label l ≡ true → Prints Rest (loop_label_text l) (loop_label_tokens l)
unfolding loop_label_tokens ◌⊕◌ plain_text
label_reads None p = rest_none
label_reads (Some w) p = record { told = λ e. record { reads = free_reads colon.free (name_reads w p); ends = λ rest h. refl } }

-- what a loop's variable starts from, and how far it runs
pub counting_reads : (i : List ℕ) (s e : ExprTree) → is_plain_name i ≡ true → Prints Reads (expr_text s) (expr_tokens s) → Prints Reads (expr_text e) (expr_tokens e) →
    Prints Free (counting_text i s e) (counting i (expr_tokens s) (test_tokens i e) [])
unfolding counting_text
counting_reads i s e p r t =
    let name : Prints Reads (plain_text i) (Word i ∷ []) = stands _ (name_reads i p) in
    simp printed_assoc (parted_free name equals (parted_free r semicolon_space (parted_free name (operator_divides Less) (parted_free (bracketed (right_child_wraps LtOp e) t) semicolon_space
    (parted_free name equals (ended_by name step_divides))))))

-- the first line of a generate loop
pub loop_reads : (i : List ℕ) (s e : ExprTree) (l : Option (List ℕ)) → is_plain_name i ≡ true → is_plain_label l ≡ true → Prints Reads (expr_text s) (expr_tokens s) → Prints Reads (expr_text e) (expr_tokens e) → Prints Reads (loop_text i s e l)
    (Reserved ForKey ∷ (Mark OpenParen ∷ (Reserved GenvarKey ∷ (counting i (expr_tokens s) (test_tokens i e) [] ++ (Reserved BeginKey ∷ loop_label_tokens l)))))
unfolding loop_text key_text
loop_reads i s e l p q r t = simp printed_assoc (after (stands _ for_free) (after (counting_reads i s e p r t) (goes_on (stands _ (key_reads BeginKey)) (label_reads l q))))
