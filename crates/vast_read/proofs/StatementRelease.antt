-- Rounds of blocks and arms, the last of which is taken out.
use Rattle.std.proofs.Common.{ℕ, ◌≡◌, ◌+◌, ◌<◌, ◌≤◌, List, [], ◌∷◌, ◌++◌, Option, Some, None, MatchOption, length, map, arith, ap, ◌∙◌, subst, sym}
use Rattle.std.specs.Prelude.{option_map}
use Rattle.vast_read.specs.declared.tree.statement.NormalStatement.{NormalStatement}
use Rattle.vast_read.specs.declared.tree.statement.NormalStatement.TheVariants.{Choice, Case, rolls-Choice, rolls-Case}
use Rattle.vast_read.specs.declared.tree.statement.NormalStatement.TheFolds.{fold-roll-NormalStatement}
use Rattle.vast_read.specs.declared.tree.statement.NormalStatement.TheOpen.{NormalStatement-F}
use Rattle.vast_read.specs.declared.tree.statement.Arm.{Arm}
use Rattle.vast_read.specs.declared.tree.statement.CaseArm.{CaseArm}
use Rattle.vast_read.specs.Internal.Release.{Rounds, rounds_each, rounds_first_last, of_list}
use Rattle.vast_read.proofs.Release.{each_last, first_last_last}
use Rattle.vast_read.specs.Internal.StatementRelease.{of_block, of_last, of_choice, statement_step, arm_step, label_step, statement_rounds, arm_rounds, label_rounds, statement_beside, statement_alone, block_beside, block_alone, choice_alone}

choice_rounds : (arms : List Arm) (last : Option (List NormalStatement)) → statement_rounds (Choice arms last) ≡ of_choice (map arm_rounds arms) (of_last (option_map (map statement_rounds) last))
choice_rounds arms None = ap statement_rounds (sym (rolls-Choice arms None)) ∙ fold-roll-NormalStatement Rounds Rounds Rounds statement_step arm_step label_step (NormalStatement-F.Choice arms None)
choice_rounds arms (Some block) = ap statement_rounds (sym (rolls-Choice arms (Some block))) ∙ fold-roll-NormalStatement Rounds Rounds Rounds statement_step arm_step label_step (NormalStatement-F.Choice arms (Some block))

case_rounds : (u : _) (w : _) (x : _) (arms : List CaseArm) → statement_rounds (Case u w x arms) ≡ of_list (map label_rounds arms)
case_rounds u w x arms = ap statement_rounds (sym (rolls-Case u w x arms)) ∙ fold-roll-NormalStatement Rounds Rounds Rounds statement_step arm_step label_step (NormalStatement-F.Case u w x arms)

pub turned_alone : (s : NormalStatement) (arms : List Arm) (last : Option (List NormalStatement)) (block : List NormalStatement) → s ≡ Choice arms last → last ≡ None → statement_alone (Choice arms (Some block)) < statement_beside s + block_alone block
turned_alone s arms last block h d =
    let e = ap (λ p. p.1) (choice_rounds arms (Some block)) in
    let k : statement_beside s ≡ rounds_each (map arm_rounds arms) + 0 + 2 = ap (λ p. (statement_rounds p).0) (h ∙ ap (Choice arms) d) ∙ ap (λ p. p.0) (choice_rounds arms None) in
    omega (arith, e, k)

pub turned_ahead : (s : NormalStatement) (arms : List Arm) (last : Option (List NormalStatement)) (inner block : List NormalStatement) (n : ℕ) → s ≡ Choice arms last → last ≡ Some inner → n ≤ block_beside inner + statement_alone (Choice arms (Some block)) → n < statement_beside s + block_alone block
turned_ahead s arms last inner block n h d i =
    let e = ap (λ p. p.1) (choice_rounds arms (Some block)) in
    let k : statement_beside s ≡ rounds_each (map arm_rounds arms) + block_beside inner + 2 = ap (λ p. (statement_rounds p).0) (h ∙ ap (Choice arms) d) ∙ ap (λ p. p.0) (choice_rounds arms (Some inner)) in
    omega (arith, e, k, i)

pub arm_left : (arms before : List Arm) (arm : Arm) (last : Option (List NormalStatement)) (block : List NormalStatement) (n : ℕ) → arms ≡ before ++ arm ∷ [] → arm_rounds arm ≡ of_block (map statement_rounds block) → n ≤ block_beside block + statement_alone (Choice before last) → n < choice_alone arms last
arm_left arms before arm last block n h d i =
    let e = ap (λ p. p.1) (choice_rounds before last) in
    let k = each_last arm_rounds before arm in
    let b : (arm_rounds arm).0 ≡ block_beside block = ap (λ p. p.0) d in
    subst (λ y. n < choice_alone y last) (sym h) (omega (arith, e, k, b, i))

pub case_left : (s : NormalStatement) (u : _) (w : _) (x : _) (arms before : List CaseArm) (o : Option (List CaseArm)) (arm : CaseArm) (block : List NormalStatement) (n : ℕ) → s ≡ Case u w x arms → o ≡ Some before → MatchOption o (arms ≡ arm ∷ []) (λ b. (0 < length b) × (arms ≡ b ++ arm ∷ [])) → label_rounds arm ≡ of_block (map statement_rounds block) → n ≤ block_beside block + statement_alone (Case u w x before) → n < statement_alone s
case_left s u w x arms before o arm block n h g d a i =
    let f : (0 < length before) × (arms ≡ before ++ arm ∷ []) = subst (λ o. MatchOption o (arms ≡ arm ∷ []) (λ b. (0 < length b) × (arms ≡ b ++ arm ∷ []))) g d in
    let e = ap (λ p. p.1) (case_rounds u w x before) in
    let k = first_last_last label_rounds before arm f.0 in
    let b : (label_rounds arm).0 ≡ block_beside block = ap (λ p. p.0) a in
    let c : statement_alone s ≡ rounds_first_last (map label_rounds (before ++ arm ∷ [])) + 1 = ap statement_alone (h ∙ ap (Case u w x) f.1) ∙ ap (λ p. p.1) (case_rounds u w x (before ++ arm ∷ [])) in
    omega (arith, e, k, b, c, i)
