-- The page of a plain statement has the tokens that the grammar reads.
use Rattle.std.proofs.Common.{◌≡◌, List, [], ◌∷◌, ◌++◌, Bool, true, false, cond, ◌&&◌, refl, append_assoc, append-nil}
use Rattle.vast_literal.specs.Tokens.{Token, key_text, Reserved, Mark, Operator}
use Rattle.vast_literal.specs.declared.token.Sign.TheVariants.{LessEqual}
use Rattle.vast_literal.specs.declared.token.Mark.TheVariants.{OpenParen, Colon}
use Rattle.vast_literal.specs.declared.token.Key.TheVariants.{If as IfKey, Case as CaseKey, Casez as CasezKey, Casex as CasexKey, EndCase as EndCaseKey, Default as DefaultKey, Unique as UniqueKey, Assign as AssignKey}
use Rattle.vast_literal.specs.Tree.{ExprTree, MacroTree, CallTree, NoExprs, MoreExprs, MaybeExpr, NoExpr, SomeExpr, StatementTree, AssignTree, TaskTree, CommentTree, BlankTree, InlineTree, ConditionalTree, CaseTree, ForTree, Statements, NoStatements, MoreStatements, Alternates, NoElse, ElseIf, Else, CaseArms, NoCaseArms, CaseArm}
use Rattle.vast_literal.specs.declared.kind.AssignmentForm.{AssignmentForm as AssignForm}
use Rattle.vast_literal.specs.declared.kind.AssignmentForm.TheVariants.{Blocking, Nonblocking, Continuous}
use Rattle.vast_literal.specs.declared.kind.CaseKind.{CaseKind as CaseWord}
use Rattle.vast_literal.specs.declared.kind.CaseKind.TheVariants.{Case as CaseExact, CaseZ, CaseX}
use Rattle.vast_literal.specs.PlainFile.{is_call, is_plain_maybe, is_plain_assignment, is_plain_statement, are_plain_statements, are_plain_alternates, are_plain_arms}
use Rattle.vast_literal.specs.Plain.{is_called_name, is_plain, are_plain}
use Rattle.vast_literal.specs.WellFormed.{is_well_formed}
use Rattle.vast_literal.proofs.ExprTokens.{expr_tokens}
use Rattle.vast_literal.specs.WellFormedFile.{is_well_formed_maybe, is_well_formed_statement, are_well_formed_statements, are_well_formed_alternates, are_well_formed_arms}
use Rattle.vast_literal.specs.NormalTree.{case_key}
use Rattle.vast_literal.proofs.FileTokens.{called_tokens, assignment_tokens, block_tokens, unique_tokens, label_tokens, statement_tokens, statements_tokens, alternates_tokens, arms_tokens}
use Rattle.vast_literal.proofs.TokenReads.{Free, Divides, Reads}
use Rattle.vast_print.proofs.FaultLaws.{halves, first_none}
use Rattle.vast_literal.proofs.Pieces.{operator_divides, close_paren}
use Rattle.vast_literal.proofs.Words.{key_reads, called_reads}
use Rattle.vast_literal.specs.Shape.{is_bare_arm, is_one_assignment, name_alone}
use Rattle.vast_print.specs.Printed.{Printed}
use Rattle.vast_print.specs.Page.{Page, no_lines, above}
use Rattle.vast_print.specs.Statements.{assign_text, called_text, case_word, unique_word, label_text, statement_page, statements_page, block_page, alternates_page, arms_page}
use Rattle.vast_print.proofs.ExprReads.{expr_reads}
use Rattle.vast_print.proofs.LoopReads.{int_free, counting_reads}
use Rattle.vast_print.proofs.TextReads.{Prints, printed_assoc, leftward, stands, nothing, after, after_free, ended_by, closed, enclosing}
use Rattle.vast_print.proofs.PageReads.{Whole, Open, Follows, page_regrouped, whole_above, whole_inner, whole_none, whole, whole_line, open_written, whole_written, open_free, open_follows, follows_none, follows_written, follows_line, whole_blank, whole_comment, equals, semicolon, close_space, label_colon, key_space, key_open, else_divides, else_if_divides, condition_divides, open_empty, open_block}
use Rattle.vast_literal.proofs.ScanLaws.{and_left, and_right, by_test}

less_equal : Divides (32 ∷ 60 ∷ 61 ∷ 32 ∷ []) (Operator LessEqual ∷ [])
less_equal = operator_divides LessEqual

pub assign_reads : (form : AssignForm) {l r : Printed} {ls rs : List Token} → Prints Reads l ls → Prints Reads r rs → Prints Reads (assign_text form l r) (assignment_tokens form ls rs)
unfolding assignment_tokens key_text
assign_reads Blocking f g = simp printed_assoc (after nothing (enclosing f equals g semicolon))
assign_reads Nonblocking f g = simp printed_assoc (after nothing (enclosing f less_equal g semicolon))
assign_reads Continuous f g = simp printed_assoc (after (stands _ (key_space AssignKey)) (enclosing f equals g semicolon))

pub assignment_open : (form : AssignForm) (l r : ExprTree) → is_plain_assignment l r ≡ true → (is_well_formed l && is_well_formed r) ≡ true → Open (statement_page (AssignTree form l r)) (statement_tokens (AssignTree form l r))
unfolding statement_page statement_tokens
assignment_open form l r p w = open_written (assign_reads form
    (expr_reads l (search halves) (search halves))
    (expr_reads r (search halves) (search halves)))

pub block_open : (b : Statements) → Whole (statements_page b) (statements_tokens b) → Open (block_page b) (block_tokens (statements_tokens b))
unfolding statement_page statement_tokens
block_open NoStatements h = open_empty
block_open (MoreStatements s ss) h = open_block h

-- cases

-- the arms without `endcase`
open_arms : CaseWord → CaseArms → List Token
open_arms word NoCaseArms = []
open_arms word (CaseArm l b arms) = (label_tokens l ++ (Mark Colon ∷ cond (is_bare_arm word b) (statements_tokens b) (block_tokens (statements_tokens b)))) ++ open_arms word arms

arms_ended : (word : CaseWord) (arms : CaseArms) → arms_tokens word arms ≡ open_arms word arms ++ (Reserved EndCaseKey ∷ [])
unfolding statement_tokens open_arms
arms_ended word NoCaseArms = refl
arms_ended word (CaseArm l b arms) = rw (arms_ended word arms) (simp append_assoc)

unique_free : (u : Bool) → Free (unique_word u) (unique_tokens u)
unfolding key_text
unique_free true = key_space UniqueKey
unique_free false = record { at = λ rest. refl }

case_free : (word : CaseWord) → Free (case_word word) (Reserved (case_key word) ∷ Mark OpenParen ∷ [])
unfolding case_key key_text
case_free CaseExact = key_open CaseKey
case_free CaseZ = key_open CasezKey
case_free CaseX = key_open CasexKey

label_reads : (l : MaybeExpr) → is_plain_maybe l ≡ true → is_well_formed_maybe l ≡ true → Prints Reads (label_text l) (label_tokens l)
unfolding label_tokens key_text
label_reads NoExpr p w = stands _ (key_reads DefaultKey)
label_reads (SomeExpr e) p w = expr_reads e p w

above_none : {p : Page} {ts : List Token} → Open p ts → Open (above p no_lines) (ts ++ [])
unfolding above no_lines
above_none f = record { lines = λ e. rw (append-nil, append-nil) (f.lines ((first_none _ _ e).0)) }

single_open : (b : Statements) → is_one_assignment b ≡ true → are_plain_statements b ≡ true → are_well_formed_statements b ≡ true → Open (statements_page b) (statements_tokens b)
unfolding statement_page statement_tokens
single_open (MoreStatements (AssignTree Blocking l r) NoStatements) h p w = above_none (assignment_open Blocking l r (search halves) (search halves))
single_open (MoreStatements (AssignTree Nonblocking l r) NoStatements) h p w = above_none (assignment_open Nonblocking l r (search halves) (search halves))
single_open _ h p w = absurd (cc h)

is_bare : (word : CaseWord) (b : Statements) → is_bare_arm word b ≡ true → is_one_assignment b ≡ true
is_bare CaseExact b h = absurd (cc h)
is_bare CaseZ b h = h
is_bare CaseX b h = absurd (cc h)

arm_body_open : (word : CaseWord) (b : Statements) → are_plain_statements b ≡ true → are_well_formed_statements b ≡ true → Whole (statements_page b) (statements_tokens b) →
    Open (cond (is_bare_arm word b) (statements_page b) (block_page b)) (cond (is_bare_arm word b) (statements_tokens b) (block_tokens (statements_tokens b)))
arm_body_open word b p w h = by_test (is_bare_arm word b) (λ e. rw e (single_open b (is_bare word b e) p w)) (λ e. rw e (block_open b h))

-- a call as a statement
task_reads : (call : ExprTree) → (is_call call && is_plain call) ≡ true → is_well_formed call ≡ true → Prints Reads (called_text (name_alone call) call) (called_tokens (name_alone call) (expr_tokens call))
unfolding called_tokens
task_reads (CallTree name NoExprs) p w = stands _ (called_reads name (and_left (is_called_name name) (are_plain NoExprs) (and_right (is_call (CallTree name NoExprs)) (is_plain (CallTree name NoExprs)) p)))
task_reads (CallTree name (MoreExprs e es)) p w = let call : ExprTree = CallTree name (MoreExprs e es) in expr_reads call (and_right (is_call call) (is_plain call) p) w
task_reads (MacroTree name arguments) p w = let call : ExprTree = MacroTree name arguments in expr_reads call (and_right (is_call call) (is_plain call) p) w
task_reads _ p w = absurd (cc p)

mutual
  unfolding statement_page statement_tokens open_arms key_text

  pub statement_whole : (s : StatementTree) → is_plain_statement s ≡ true → is_well_formed_statement s ≡ true → Whole (statement_page s) (statement_tokens s)
  statement_whole (AssignTree form l r) p w = whole (assignment_open form l r p w)
  statement_whole (TaskTree call) p w = whole_written (closed (task_reads call p w) semicolon)
  statement_whole (CommentTree text) p w = whole_comment text
  statement_whole BlankTree p w = whole_blank
  statement_whole (InlineTree text) p w = absurd (cc p)
  statement_whole (ConditionalTree c b rest) p w =
      whole (page_regrouped (open_free (leftward _ _ _ (after_free (stands _ (key_open IfKey)) (ended_by (expr_reads c (search halves) (search halves)) close_space)))
      (open_follows (block_open b (statements_whole b (search halves) (search halves))) (alternates_follow rest (search halves) (search halves)))) (simp append_assoc))
  statement_whole (CaseTree u word e arms) p w = page_regrouped
      (whole_above (whole_written (leftward _ _ _ (leftward _ _ _ (after (stands _ (unique_free u)) (after (stands _ (case_free word)) (closed (expr_reads e (search halves) (search halves)) close_paren))))))
      (whole_above (whole_inner (arms_whole word arms (search halves) (search halves))) (whole_line (key_reads EndCaseKey)))) (rw (arms_ended word arms) (simp append_assoc))
  statement_whole (ForTree i s e b) p w =
      whole (page_regrouped (open_free (after_free (stands _ int_free) (counting_reads i s e (search halves) (expr_reads s (search halves) (search halves)) (expr_reads e (search halves) (search halves))))
      (block_open b (statements_whole b (search halves) (search halves)))) (simp append_assoc))

  pub statements_whole : (ss : Statements) → are_plain_statements ss ≡ true → are_well_formed_statements ss ≡ true → Whole (statements_page ss) (statements_tokens ss)
  statements_whole NoStatements p w = whole_none
  statements_whole (MoreStatements s ss) p w =
      whole_above (statement_whole s (search halves) (search halves)) (statements_whole ss (search halves) (search halves))

  pub alternates_follow : (rest : Alternates) → are_plain_alternates rest ≡ true → are_well_formed_alternates rest ≡ true → Follows (alternates_page rest) (alternates_tokens rest)
  alternates_follow NoElse p w = follows_none
  alternates_follow (Else b) p w = follows_line else_divides (block_open b (statements_whole b p w))
  alternates_follow (ElseIf c b rest) p w =
      page_regrouped (follows_written (condition_divides else_if_divides (expr_reads c (search halves) (search halves)))
      (open_follows (block_open b (statements_whole b (search halves) (search halves))) (alternates_follow rest (search halves) (search halves)))) (simp append_assoc)

  arms_whole : (word : CaseWord) (arms : CaseArms) → are_plain_arms arms ≡ true → are_well_formed_arms arms ≡ true → Whole (arms_page word arms) (open_arms word arms)
  arms_whole word NoCaseArms p w = whole_none
  arms_whole word (CaseArm l b arms) p w =
      whole_above (whole (page_regrouped (open_free (ended_by (label_reads l (search halves) (search halves)) label_colon) (arm_body_open word b (search halves) (search halves) (statements_whole b (search halves) (search halves)))) (simp append_assoc)))
      (arms_whole word arms (search halves) (search halves))
