-- What the typed relations say of statements, the page spells and tells.
use Rattle.std.proofs.Common.{◌≡◌, ℕ, List, [], ◌∷◌, ◌++◌, Bool, true, false, refl, ap, ◌∙◌, append_assoc, append-nil}
use Rattle.vast_literal.specs.FileGrammar.{arrow, assignment, IsUnique, unique, not_unique, IsCase, case_word, casez_word, casex_word, IsStatement, simple, assigned, task, choice, cases, counted, IsCases, cased, IsAssign, assigns, IsStatements, done, then, IsChoice, only, otherwise, or, IsLabels, no_labels, label, default, IsBody, body, bare}
use Rattle.vast_literal.specs.Grammar.{Spells}
use Rattle.vast_literal.specs.NormalExpr.{NormalExpr}
use Rattle.vast_literal.specs.NormalFile.{NormalStatement, CaseStatement, NormalStatements, Done, Arms, Labels}
use Rattle.vast_literal.specs.Shape.{counting}
use Rattle.vast_literal.specs.Tokens.{Token, Reserved, Word, Mark}
use Rattle.vast_rows.specs.declared.action.Action.TheVariants.{Conditional}
use Rattle.vast_rows.specs.declared.grammar.Item.{Item}
use Rattle.vast_rows.specs.declared.rule.Rule.TheVariants.{Statements, Statement, AfterTarget, Assignment, Arrow, Choice, Else, Branch, Unique, CaseKind, CaseArms, BareArms, ArmBody, NoEnd, LoneCase}
use Rattle.vast_rows.specs.Events.{Event, Makes}
use Rattle.vast_rows.specs.Numbers.{Key, OpenParen, CloseParen, Semicolon, Assign, BeginKey, IfKey, CasezKey}
use Rattle.vast_rows.specs.Phrases.{expression, target, loop_head}
use Rattle.vast_rows.specs.Symbols.{key, rule}
use Rattle.vast_rows.specs.Trace.{read, trace_statement, trace_statements, trace_arms, trace_labels}
use Rattle.vast_rows.proofs.PhraseLaws.{step_of}
use Rattle.vast_rows.proofs.Spelling.{Node, Spelled, stop, tok, phr, nod, at, along}

-- What may be unique, and the case after it.
unique_to : {us ys : List Token} {u : Bool} {s : List Item} {fs : List Event} (k : Key) (x : NormalExpr) (a : Labels) (es : List Event) → IsUnique us u → Spelled s ys (trace_statement (CaseStatement false k x a) es) fs →
    Spelled (rule Unique ∷ s) (us ++ ys) (trace_statement (CaseStatement u k x a) es) fs
unfolding trace_statement
unique_to k x a es not_unique p = nod (at Unique 0 refl stop) p
unique_to k x a es unique p = nod (at Unique 1 refl (tok _ refl stop)) p

pub assignment_to : {ts : List Token} {s : NormalStatement} {es : List Event} → IsAssign ts s → Node Assignment ts (trace_statement s es) es
unfolding arrow assignment trace_statement
assignment_to (assigns true p q) = at Assignment 0 refl (phr (target p) (nod (at Arrow 0 refl (tok _ refl stop)) (phr (expression q) (tok _ refl stop))))
assignment_to (assigns false p q) = at Assignment 0 refl (phr (target p) (nod (at Arrow 1 refl (tok _ refl stop)) (phr (expression q) (tok _ refl stop))))

-- The head of a conditional before its block and what follows.
choice_head : {cs us : List Token} {c : NormalExpr} {es fs : List Event} → Spells 0 cs c → Spelled (rule Statements ∷ (rule Else ∷ [])) us es fs →
    Node Choice (Reserved IfKey ∷ (Mark OpenParen ∷ (cs ++ (Mark CloseParen ∷ (Reserved BeginKey ∷ us))))) (Makes Conditional ∷ read c ∷ es) fs
choice_head p rest = at Choice 0 refl (tok _ refl (tok _ refl (phr (expression p) (tok _ refl (tok _ refl rest)))))

-- The head of a loop before other tokens.
pub loop_tokens : (xs cs us : List Token) (i : List ℕ) → counting i xs cs [] ++ us ≡ counting i xs cs us
loop_tokens xs cs us i = ap (λ (v : List Token). Word i ∷ (Mark Assign ∷ v))
    (append_assoc xs (Mark Semicolon ∷ (cs ++ (Mark Semicolon ∷ step_of i []))) us ∙ ap (λ (v : List Token). xs ++ (Mark Semicolon ∷ v)) (append_assoc cs (Mark Semicolon ∷ step_of i []) us))

mutual
  unfolding arrow assignment trace_statement trace_statements trace_arms trace_labels

  pub statement_to : {ts : List Token} {s : NormalStatement} {es : List Event} → IsStatement ts s → Node Statement ts (trace_statement s es) es
  statement_to (simple (assigns true p q)) = at Statement 0 refl (phr (target p) (at AfterTarget 0 refl (nod (at Arrow 0 refl (tok _ refl stop)) (phr (expression q) (tok _ refl stop)))))
  statement_to (simple (assigns false p q)) = at Statement 0 refl (phr (target p) (at AfterTarget 0 refl (nod (at Arrow 1 refl (tok _ refl stop)) (phr (expression q) (tok _ refl stop)))))
  statement_to (task p) = at Statement 0 refl (phr (target p) (at AfterTarget 1 refl (tok _ refl stop)))
  statement_to (assigned p q) = at Statement 1 refl (tok _ refl (phr (target p) (tok _ refl (phr (expression q) (tok _ refl stop)))))
  statement_to (choice a) = at Statement 2 refl (choice_to a)
  statement_to (cases k word c) = case_to word c
  statement_to (counted {xs = xs} {cs = cs} i p q b) = at Statement 4 refl (tok _ refl (tok _ refl (tok _ refl (along (loop_tokens xs cs _ i) (phr (loop_head i p q) (tok _ refl (statements_to b)))))))

  case_to : {k : Key} {z : Bool} {ts : List Token} {s : NormalStatement} {es : List Event} → IsCase k z → IsCases k z ts s → Node Statement ts (trace_statement s es) es
  case_to case_word (cased u p a) = at Statement 3 refl (unique_to _ _ _ _ u (at CaseKind 0 refl (tok _ refl (tok _ refl (phr (expression p) (tok _ refl (arms_to a)))))))
  case_to casez_word (cased u p a) = at Statement 3 refl (unique_to _ _ _ _ u (at CaseKind 1 refl (tok _ refl (tok _ refl (phr (expression p) (tok _ refl (bare_arms_to a)))))))
  case_to casex_word (cased u p a) = at Statement 3 refl (unique_to _ _ _ _ u (at CaseKind 2 refl (tok _ refl (tok _ refl (phr (expression p) (tok _ refl (arms_to a)))))))

  pub statements_to : {ts : List Token} {s : NormalStatements} {es : List Event} → IsStatements ts s → Node Statements ts (trace_statements s es) es
  statements_to done = at Statements 0 refl (tok _ refl stop)
  statements_to (then s ss) = at Statements 1 refl (nod (statement_to s) (statements_to ss))

  pub choice_to : {ts : List Token} {a : Arms} {es : List Event} → IsChoice ts a → Node Choice ts (trace_arms a es) es
  choice_to (only {bs = bs} p b) = choice_head p (along (append-nil bs) (nod (statements_to b) (at Else 0 refl stop)))
  choice_to (otherwise p b d) = choice_head p (nod (statements_to b) (at Else 1 refl (tok _ refl (at Branch 0 refl (tok _ refl (statements_to d))))))
  choice_to (or p b a) = choice_head p (nod (statements_to b) (at Else 1 refl (tok _ refl (at Branch 1 refl (choice_to a)))))

  arms_to : {ts : List Token} {a : Labels} {es : List Event} → IsLabels false ts a → Node CaseArms ts (trace_labels a es) es
  arms_to no_labels = at CaseArms 0 refl (tok _ refl stop)
  arms_to (label p b a) = at CaseArms 1 refl (phr (expression p) (tok _ refl (block_to b (arms_to a))))
  arms_to (default b a) = at CaseArms 2 refl (tok _ refl (tok _ refl (block_to b (arms_to a))))

  -- A block before other items.
  block_to : {ts us : List Token} {b : NormalStatements} {es fs : List Event} → IsBody false ts b → Node CaseArms us es fs → Spelled (key BeginKey ∷ (rule Statements ∷ (rule CaseArms ∷ []))) (ts ++ us) (trace_statements b es) fs
  block_to (body b) rest = tok _ refl (nod (statements_to b) rest)

  pub bare_arms_to : {ts : List Token} {a : Labels} {es : List Event} → IsLabels true ts a → Node BareArms ts (trace_labels a es) es
  bare_arms_to no_labels = at BareArms 0 refl (tok _ refl stop)
  bare_arms_to (label p b a) = at BareArms 1 refl (phr (expression p) (tok _ refl (nod (body_to b) (bare_arms_to a))))
  bare_arms_to (default b a) = at BareArms 2 refl (tok _ refl (tok _ refl (nod (body_to b) (bare_arms_to a))))

  body_to : {ts : List Token} {b : NormalStatements} {es : List Event} → IsBody true ts b → Node ArmBody ts (trace_statements b es) es
  body_to (body b) = at ArmBody 0 refl (tok _ refl (statements_to b))
  body_to (bare {bs = bs} s) = at ArmBody 1 refl (along (append-nil bs) (nod (assignment_to s) (at NoEnd 0 refl stop)))

-- A function's casez alone.
pub lone_to : {ts : List Token} {s : NormalStatement} {es : List Event} → IsCases CasezKey true ts s → Spelled (rule Unique ∷ (rule LoneCase ∷ (rule NoEnd ∷ []))) ts (trace_statement s (trace_statements Done es)) es
unfolding trace_statement trace_statements
lone_to (cased {us = us} {xs = xs} {ys = ys} u p a) = unique_to _ _ _ _ u (along (append-nil _) (nod (at LoneCase 0 refl (tok _ refl (tok _ refl (phr (expression p) (tok _ refl (bare_arms_to a)))))) (at NoEnd 0 refl stop)))
