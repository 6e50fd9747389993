-- The tokens of a statement's page spell its normal form.
use Rattle.std.proofs.Common.{◌≡◌, List, ◌∷◌, ◌++◌, Bool, true, false, cond, ◌&&◌, append_assoc, append-nil}
use Rattle.vast_literal.specs.Tokens.{OpenParen, CloseParen, Colon, IfKey, BeginKey, Token, Reserved, Mark}
use Rattle.vast_literal.specs.Tree.{MaybeExpr, NoExpr, SomeExpr, AssignForm, Blocking, Nonblocking, Continuous, CaseWord, CaseExact, CaseZ, CaseX, StatementTree, AssignTree, TaskTree, CommentTree, BlankTree, InlineTree, ConditionalTree, CaseTree, ForTree, Statements, NoStatements, MoreStatements, Alternates, NoElse, ElseIf, Else, CaseArms, NoCaseArms, CaseArm}
use Rattle.vast_literal.specs.NormalExpr.{NormalExpr}
use Rattle.vast_literal.specs.NormalFile.{NormalStatements, Labels, Label}
use Rattle.vast_literal.specs.Grammar.{Spells}
use Rattle.vast_literal.specs.FileGrammar.{arrow, assignment, IsUnique, unique, not_unique, IsCase, case_word, casez_word, casex_word, IsStatement, simple, assigned, task, choice, cases, counted, cased, assigns, IsStatements, done, then, IsChoice, only, otherwise, or, IsLabels, no_labels, label, default, IsBody, body, bare, IsFunctionBody, block_body, casez_body}
use Rattle.vast_literal.specs.WellFormed.{is_well_formed}
use Rattle.vast_literal.specs.NormalTree.{case_key, normal_assignment, normal_label, normal_before, normal_statements, normal_choice, normal_arms}
use Rattle.vast_literal.specs.Shape.{is_one_assignment, is_bare_arm, is_one_casez}
use Rattle.vast_literal.proofs.FileTokens.{assignment_tokens, ended, block_tokens, unique_tokens, label_tokens, statement_tokens, statements_tokens, alternates_tokens, arms_tokens, body_tokens}
use Rattle.vast_literal.specs.PlainFile.{is_plain_maybe, is_left_side, is_plain_assignment, is_plain_statement, are_plain_statements, are_plain_alternates, are_plain_arms}
use Rattle.vast_literal.specs.WellFormedFile.{is_well_formed_maybe, is_well_formed_statement, are_well_formed_statements, are_well_formed_alternates, are_well_formed_arms}
use Rattle.vast_literal.proofs.ScanLaws.{and_left, and_right, by_test}
use Rattle.vast_literal.proofs.DeclarationSpelled.{value_spelled, left_spelled, task_spelled, test_spelled}
use Rattle.vast_literal.specs.Plain.{is_plain_name, is_plain}

-- The cases of a word may have bare arms.
abbrev pub has_bare_arms : CaseWord → Bool
has_bare_arms CaseExact = false
has_bare_arms CaseZ = true
has_bare_arms CaseX = false

case_spelled : (word : CaseWord) → IsCase (case_key word) (has_bare_arms word)
unfolding case_key
case_spelled CaseExact = case_word
case_spelled CaseZ = casez_word
case_spelled CaseX = casex_word

unique_spelled : (u : Bool) → IsUnique (unique_tokens u) u
unique_spelled true = unique
unique_spelled false = not_unique

-- the three forms of assignments
assignment_spelled : (form : AssignForm) {ls rs : List Token} {l r : NormalExpr} → Spells 13 ls l → Spells 0 rs r → IsStatement (assignment_tokens form ls rs) (normal_assignment form l r)
unfolding assignment_tokens normal_assignment arrow assignment
assignment_spelled Blocking l r = simple (assigns true l r)
assignment_spelled Nonblocking l r = simple (assigns false l r)
assignment_spelled Continuous l r = assigned l r

-- one assignment that stands bare
single_spelled : (block : Statements) → is_one_assignment block ≡ true → are_plain_statements block ≡ true → are_well_formed_statements block ≡ true → IsBody true (statements_tokens block) (normal_statements block)
unfolding statements_tokens normal_statements assignment_tokens normal_assignment arrow assignment
single_spelled (MoreStatements (AssignTree Blocking l r) NoStatements) e p w =
    let p0 = and_left (is_plain_assignment l r) true p in
    let w0 = and_left (is_well_formed l && is_well_formed r) true w in
    rw append-nil (bare (assigns true (left_spelled l (and_left (is_left_side l && is_plain l) (is_plain r) p0) (and_left (is_well_formed l) (is_well_formed r) w0))
    (value_spelled r (and_right (is_left_side l && is_plain l) (is_plain r) p0) (and_right (is_well_formed l) (is_well_formed r) w0))))
single_spelled (MoreStatements (AssignTree Nonblocking l r) NoStatements) e p w =
    let p0 = and_left (is_plain_assignment l r) true p in
    let w0 = and_left (is_well_formed l && is_well_formed r) true w in
    rw append-nil (bare (assigns false (left_spelled l (and_left (is_left_side l && is_plain l) (is_plain r) p0) (and_left (is_well_formed l) (is_well_formed r) w0))
    (value_spelled r (and_right (is_left_side l && is_plain l) (is_plain r) p0) (and_right (is_well_formed l) (is_well_formed r) w0))))
single_spelled _ e p w = absurd (cc e)

bare_spelled : (word : CaseWord) (block : Statements) → is_bare_arm word block ≡ true → are_plain_statements block ≡ true → are_well_formed_statements block ≡ true → IsBody (has_bare_arms word) (statements_tokens block) (normal_statements block)
bare_spelled CaseZ block e p w = single_spelled block e p w
bare_spelled CaseExact block e p w = absurd (cc e)
bare_spelled CaseX block e p w = absurd (cc e)

arm_body_spelled : (word : CaseWord) (block : Statements) → IsStatements (ended (statements_tokens block)) (normal_statements block) → are_plain_statements block ≡ true → are_well_formed_statements block ≡ true →
    IsBody (has_bare_arms word) (cond (is_bare_arm word block) (statements_tokens block) (block_tokens (statements_tokens block))) (normal_statements block)
arm_body_spelled word block h p w = by_test (is_bare_arm word block) (λ e. rw e (bare_spelled word block e p w)) (λ e. rw e (body h))

label_spelled : (word : CaseWord) (label : MaybeExpr) {bs ys : List Token} {b : NormalStatements} {a : Labels} → is_plain_maybe label ≡ true → is_well_formed_maybe label ≡ true → IsBody (has_bare_arms word) bs b → IsLabels (has_bare_arms word) ys a →
    IsLabels (has_bare_arms word) (label_tokens label ++ (Mark Colon ∷ (bs ++ ys))) (Label (normal_label label) b a)
unfolding label_tokens normal_label
label_spelled word NoExpr p w b a = default b a
label_spelled word (SomeExpr e) p w b a = label (value_spelled e p w) b a

mutual
  unfolding statement_tokens normal_before

  pub statements_spelled : (ss : Statements) → are_plain_statements ss ≡ true → are_well_formed_statements ss ≡ true → IsStatements (ended (statements_tokens ss)) (normal_statements ss)
  statements_spelled NoStatements p w = done
  statements_spelled (MoreStatements s ss) p w = rw append_assoc (before_spelled s (and_left _ _ p) (and_left _ _ w) (statements_spelled ss (and_right (is_plain_statement s) (are_plain_statements ss) p) (and_right (is_well_formed_statement s) (are_well_formed_statements ss) w)))

  before_spelled : (s : StatementTree) {us : List Token} {xs : NormalStatements} → is_plain_statement s ≡ true → is_well_formed_statement s ≡ true → IsStatements us xs → IsStatements (statement_tokens s ++ us) (normal_before s xs)
  before_spelled (AssignTree form l r) p w rest = then (assignment_spelled form (left_spelled l (and_left (is_left_side l && is_plain l) (is_plain r) p) (and_left _ _ w)) (value_spelled r (and_right (is_left_side l && is_plain l) (is_plain r) p) (and_right (is_well_formed l) (is_well_formed r) w))) rest
  before_spelled (TaskTree call) p w rest = then (task (task_spelled call p w)) rest
  before_spelled (CommentTree text) p w rest = rest
  before_spelled BlankTree p w rest = rest
  before_spelled (InlineTree text) p w rest = rest
  before_spelled (ConditionalTree c b alternates) p w rest =
      let p1 = and_right (is_plain c) (are_plain_statements b && are_plain_alternates alternates) p in
      let w1 = and_right (is_well_formed c) (are_well_formed_statements b && are_well_formed_alternates alternates) w in
      then (choice (choice_spelled alternates (value_spelled c (and_left _ _ p) (and_left _ _ w)) (statements_spelled b (and_left _ _ p1) (and_left _ _ w1))
      (and_right (are_plain_statements b) (are_plain_alternates alternates) p1) (and_right (are_well_formed_statements b) (are_well_formed_alternates alternates) w1))) rest
  before_spelled (CaseTree u word e arms) p w rest =
      then (cases (case_key word) (case_spelled word) (cased (unique_spelled u) (value_spelled e (and_left _ _ p) (and_left _ _ w)) (arms_spelled word arms (and_right (is_plain e) (are_plain_arms arms) p) (and_right (is_well_formed e) (are_well_formed_arms arms) w)))) rest
  before_spelled (ForTree i s e b) p w rest =
      let p1 = and_right (is_plain_name i) ((is_plain s && is_plain e) && are_plain_statements b) p in
      let p2 = and_left (is_plain s && is_plain e) (are_plain_statements b) p1 in
      let w2 = and_left (is_well_formed s && is_well_formed e) (are_well_formed_statements b) w in
      then (counted i (value_spelled s (and_left _ _ p2) (and_left _ _ w2)) (test_spelled i e (and_right (is_plain s) (is_plain e) p2) (and_right (is_well_formed s) (is_well_formed e) w2))
      (statements_spelled b (and_right (is_plain s && is_plain e) (are_plain_statements b) p1) (and_right (is_well_formed s && is_well_formed e) (are_well_formed_statements b) w))) rest

  -- a condition and its block, with what follows the block
  pub choice_spelled : (alternates : Alternates) {cs bs : List Token} {c : NormalExpr} {b : NormalStatements} → Spells 0 cs c → IsStatements bs b → are_plain_alternates alternates ≡ true → are_well_formed_alternates alternates ≡ true →
      IsChoice (Reserved IfKey ∷ (Mark OpenParen ∷ (cs ++ (Mark CloseParen ∷ (Reserved BeginKey ∷ (bs ++ alternates_tokens alternates)))))) (normal_choice c b alternates)
  choice_spelled NoElse c b p w = rw append-nil (only c b)
  choice_spelled (Else d) c b p w = otherwise c b (statements_spelled d p w)
  choice_spelled (ElseIf e d rest) c b p w =
      let p1 = and_right (is_plain e) (are_plain_statements d && are_plain_alternates rest) p in
      let w1 = and_right (is_well_formed e) (are_well_formed_statements d && are_well_formed_alternates rest) w in
      or c b (choice_spelled rest (value_spelled e (and_left _ _ p) (and_left _ _ w)) (statements_spelled d (and_left _ _ p1) (and_left _ _ w1))
      (and_right (are_plain_statements d) (are_plain_alternates rest) p1) (and_right (are_well_formed_statements d) (are_well_formed_alternates rest) w1))

  pub arms_spelled : (word : CaseWord) (arms : CaseArms) → are_plain_arms arms ≡ true → are_well_formed_arms arms ≡ true → IsLabels (has_bare_arms word) (arms_tokens word arms) (normal_arms arms)
  arms_spelled word NoCaseArms p w = no_labels
  arms_spelled word (CaseArm l b arms) p w =
      let p1 = and_right (is_plain_maybe l) (are_plain_statements b && are_plain_arms arms) p in
      let w1 = and_right (is_well_formed_maybe l) (are_well_formed_statements b && are_well_formed_arms arms) w in
      let pb = and_left (are_plain_statements b) (are_plain_arms arms) p1 in
      let wb = and_left (are_well_formed_statements b) (are_well_formed_arms arms) w1 in
      label_spelled word l (and_left _ _ p) (and_left _ _ w) (arm_body_spelled word b (statements_spelled b pb wb) pb wb)
      (arms_spelled word arms (and_right (are_plain_statements b) (are_plain_arms arms) p1) (and_right (are_well_formed_statements b) (are_well_formed_arms arms) w1))

-- one casez that stands bare as the body of a function
casez_spelled : (b : Statements) → is_one_casez b ≡ true → are_plain_statements b ≡ true → are_well_formed_statements b ≡ true → IsFunctionBody (statements_tokens b) (normal_statements b)
unfolding statements_tokens normal_statements case_key
casez_spelled NoStatements h p w = absurd (cc h)
casez_spelled (MoreStatements statement (MoreStatements next rest)) h p w = absurd (cc h)
casez_spelled (MoreStatements (CaseTree u CaseZ e arms) NoStatements) h p w =
    let p0 = and_left (is_plain e && are_plain_arms arms) true p in
    let w0 = and_left (is_well_formed e && are_well_formed_arms arms) true w in
    rw append-nil (casez_body (cased (unique_spelled u) (value_spelled e (and_left (is_plain e) (are_plain_arms arms) p0) (and_left (is_well_formed e) (are_well_formed_arms arms) w0))
    (arms_spelled CaseZ arms (and_right (is_plain e) (are_plain_arms arms) p0) (and_right (is_well_formed e) (are_well_formed_arms arms) w0))))
casez_spelled _ h p w = absurd (cc h)

pub function_body_spelled : (b : Statements) → are_plain_statements b ≡ true → are_well_formed_statements b ≡ true → IsFunctionBody (body_tokens b) (normal_statements b)
unfolding body_tokens
function_body_spelled b p w = by_test (is_one_casez b) (λ e. rw e (casez_spelled b e p w)) (λ e. rw e (block_body (statements_spelled b p w)))
