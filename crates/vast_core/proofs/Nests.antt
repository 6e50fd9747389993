-- Laws of containers: their records, what they hold, and their trees.
use Rattle.std.proofs.Common.{◌≡◌, ℕ, suc, zero, ◌+◌, ◌<◌, ◌≤◌, Bool, IsTrue, List, [], ◌∷◌, ◌++◌, length, Option, Some, None, slice_get, refl, sym, ap, ◌∙◌, arith}
use Rattle.std.specs.Prelude.{IfSome}
use Rattle.vast_core.specs.Handles.{VastStatementBlock}
use Rattle.vast_core.specs.Records.{Member, DeclarationEntry, FunctionEntry, AlwaysEntry, ConditionalEntry, LoopEntry, changed_at}
use Rattle.vast_core.specs.Nests.{CaseArm, ElseIf, Statement, ConditionalStatement, CasesStatement, ForStatement, NestRecord, BlockRecord, ConditionalNestRecord, CaseNestRecord, LoopNestRecord, AlwaysRecord, NestKind, NoKind, nest_kind}
use Rattle.vast_core.specs.Bench.{Bench, tree_of, maybe_tree_of, trees_of}
use Rattle.vast_core.specs.Containers.{NestedEntry, StatementEnters, ElseIfEnters, ElseEnters, CaseArmEnters, MemberEnters, with_entry}
use Rattle.vast_core.specs.FileTree.{Family, BlockFamily, ConditionalFamily, CaseFamily, LoopFamily, block_in, conditional_statement, case_statement, conditional_member, loop_member, statement_in, statements_in, otherwise_in, alternates_in, arms_in, always_in, member_in, members_in, family, unfolded, families}
use Rattle.vast_literal.specs.Tree.{ElseIf as ElseIfTree, Else, CaseArm as CaseArmTree, MoreStatements, MoreMembers, CaseTree, ForTree, LoopMember, AlwaysMember}
use Rattle.vast_core.specs.Sound.{Each, HoldsBlock, StatementSound, ElseIfSound, CaseArmSound, AlwaysNewer, MemberNewer, LoopMemberSound, NestSound, NestsSound}

-- A container of some kind is there.
pub kind-there : (test : NestKind → Bool) (ns : List NestRecord) (i : ℕ) → (IsTrue (test NoKind) → ⊥) → IsTrue (test (nest_kind (slice_get ns i))) → i < length ns
kind-there test [] i n h = absurd (n h)
kind-there test (x ∷ ns) zero n h = omega arith
kind-there test (x ∷ ns) (suc i) n h = omega (arith, kind-there test ns i n h)

-- Where f and g agree on what is newer than i, a part of container i has the same tree.

pub record Agree (i : ℕ) (f g : ℕ → Family) : Type 0 where
  pub at : (j : ℕ) → i < j → f j ≡ g j

statement-same : (b : Bench) (f g : ℕ → Family) (i : ℕ) → Agree i f g → (s : Statement) → StatementSound b i s → statement_in b f s ≡ statement_in b g s
statement-same b f g i q (ConditionalStatement c) h = ap conditional_statement (q.at c.id.index h.1)
statement-same b f g i q (CasesStatement c) h = ap case_statement (q.at c.id.index h.1)
statement-same b f g i q (ForStatement l) h = ap (λ x. ForTree l.index (tree_of b l.start) (tree_of b l.end) (block_in x)) (q.at l.block.id.index h.1.1)
statement-same b f g i q _ h = refl

statements-same : (b : Bench) (f g : ℕ → Family) (i : ℕ) → Agree i f g → (ss : List Statement) → Each (StatementSound b i) ss → statements_in b f ss ≡ statements_in b g ss
statements-same b f g i q [] h = refl
statements-same b f g i q (s ∷ ss) h =
    ap (λ x. MoreStatements x (statements_in b f ss)) (statement-same b f g i q s h.0)
    ∙ ap (λ x. MoreStatements (statement_in b g s) x) (statements-same b f g i q ss h.1)

otherwise-same : (b : Bench) (f g : ℕ → Family) (i : ℕ) → Agree i f g → (o : Option VastStatementBlock) → IfSome o (HoldsBlock b i) → otherwise_in f o ≡ otherwise_in g o
otherwise-same b f g i q None h = refl
otherwise-same b f g i q (Some c) h = ap (λ x. Else (block_in x)) (q.at c.id.index h.1)

alternates-same :
    (b : Bench) (f g : ℕ → Family) (i : ℕ) → Agree i f g → (arms : List ElseIf) (o : Option VastStatementBlock) → Each (ElseIfSound b i) arms → IfSome o (HoldsBlock b i) →
    alternates_in b f arms o ≡ alternates_in b g arms o
alternates-same b f g i q [] o h k = otherwise-same b f g i q o k
alternates-same b f g i q (a ∷ arms) o h k =
    ap (λ x. ElseIfTree (tree_of b a.condition) (block_in x) (alternates_in b f arms o)) (q.at a.block.id.index h.0.1.1)
    ∙ ap (λ x. ElseIfTree (tree_of b a.condition) (block_in (g a.block.id.index)) x) (alternates-same b f g i q arms o h.1 k)

arms-same : (b : Bench) (f g : ℕ → Family) (i : ℕ) → Agree i f g → (arms : List CaseArm) → Each (CaseArmSound b i) arms → arms_in b f arms ≡ arms_in b g arms
arms-same b f g i q [] h = refl
arms-same b f g i q (a ∷ arms) h =
    ap (λ x. CaseArmTree (maybe_tree_of b a.label) (block_in x) (arms_in b f arms)) (q.at a.block.id.index h.0.1.1)
    ∙ ap (λ x. CaseArmTree (maybe_tree_of b a.label) (block_in (g a.block.id.index)) x) (arms-same b f g i q arms h.1)

always-same : (b : Bench) (f g : ℕ → Family) (i : ℕ) → Agree i f g → (o : Option AlwaysRecord) → AlwaysNewer i o → always_in b f o ≡ always_in b g o
always-same b f g i q None h = refl
always-same b f g i q (Some a) h = ap (λ x. AlwaysMember a.kind (trees_of b a.events) (block_in x)) (q.at a.block.id.index h)

member-same : (b : Bench) (f g : ℕ → Family) (i : ℕ) → Agree i f g → (m : Member) → MemberNewer b i m → member_in b f m ≡ member_in b g m
member-same b f g i q (DeclarationEntry kind name t) h = absurd h
member-same b f g i q (FunctionEntry x) h = absurd h
member-same b f g i q (AlwaysEntry a) h = always-same b f g i q (slice_get b.always_blocks a.id.index) h
member-same b f g i q (ConditionalEntry c) h = ap conditional_member (q.at c.id.index h)
member-same b f g i q (LoopEntry l) h = ap loop_member (q.at l.id.index h)
member-same b f g i q _ h = refl

members-same : (b : Bench) (f g : ℕ → Family) (i : ℕ) → Agree i f g → (ms : List Member) → Each (LoopMemberSound b i) ms → members_in b f ms ≡ members_in b g ms
members-same b f g i q [] h = refl
members-same b f g i q (m ∷ ms) h =
    ap (λ x. MoreMembers x (members_in b f ms)) (member-same b f g i q m h.0.1)
    ∙ ap (λ x. MoreMembers (member_in b g m) x) (members-same b f g i q ms h.1)

family-same : (b : Bench) (f g : ℕ → Family) (i : ℕ) → Agree i f g → (n : NestRecord) → NestSound b i n → family b f (Some n) ≡ family b g (Some n)
family-same b f g i q (BlockRecord ss) h = ap BlockFamily (statements-same b f g i q ss h)
family-same b f g i q (ConditionalNestRecord c) h =
    ap (λ x. ConditionalFamily (tree_of b c.condition) (block_in x) (alternates_in b f c.else_ifs c.otherwise)) (q.at c.consequent.id.index h.consequent.1)
    ∙ ap (λ x. ConditionalFamily (tree_of b c.condition) (block_in (g c.consequent.id.index)) x) (alternates-same b f g i q c.else_ifs c.otherwise h.else_ifs h.otherwise)
family-same b f g i q (CaseNestRecord c) h = ap (λ x. CaseFamily (CaseTree c.unique c.kind (tree_of b c.selector) x)) (arms-same b f g i q c.arms h.arms)
family-same b f g i q (LoopNestRecord l) h = ap (λ x. LoopFamily (LoopMember l.name (tree_of b l.start) (tree_of b l.end) l.label x)) (members-same b f g i q l.members h.members)

-- What a container holds is newer.

pub nest-at : (b : Bench) (i : ℕ) (ns : List NestRecord) (k j : ℕ) (n : NestRecord) → NestsSound b i ns → slice_get ns k ≡ Some n → j ≡ i + k → NestSound b j n
nest-at b i [] k j n s e q = cc
nest-at b i (m ∷ ns) zero j n s e q =
    let same : n ≡ m = cc in
    let at : j ≡ i = omega arith in
    rw (at, same) s.0
nest-at b i (m ∷ ns) (suc k) j n s e q = nest-at b (suc i) ns k j n s.1 e (omega arith)

get-past : (ns : List NestRecord) (i : ℕ) → length ns ≤ i → slice_get ns i ≡ None
get-past [] i h = refl
get-past (n ∷ ns) zero h = absurd (omega arith)
get-past (n ∷ ns) (suc i) h = get-past ns i (omega arith)

step-same : (b : Bench) (f g : ℕ → Family) (i : ℕ) → NestsSound b 0 b.nests → Agree i f g → (o : Option NestRecord) → slice_get b.nests i ≡ o → family b f o ≡ family b g o
step-same b f g i s q None e = refl
step-same b f g i s q (Some r) e = family-same b f g i q r (nest-at b 0 b.nests i i r s e (omega arith))

-- As many levels as there are containers are enough.
enough : (b : Bench) → NestsSound b 0 b.nests → (n i : ℕ) → length b.nests ≤ n + i → unfolded b n i ≡ unfolded b (suc n) i
enough b s zero i h = rw (get-past b.nests i (omega arith)) refl
enough b s (suc n) i h =
    step-same b (unfolded b n) (unfolded b (suc n)) i s (record { at = λ j later. enough b s n j (omega arith) }) (slice_get b.nests i) refl

-- A container's tree is made of the trees of what it holds.
pub family-at : (b : Bench) (i : ℕ) → NestsSound b 0 b.nests → families b i ≡ family b (families b) (slice_get b.nests i)
unfolding families
family-at b i s = enough b s (length b.nests) i (omega arith)

-- One container more, and one container changed.

pub nests-push : (b : Bench) (i : ℕ) (ns : List NestRecord) (j : ℕ) (n : NestRecord) → NestsSound b i ns → j ≡ i + length ns → NestSound b j n → NestsSound b i (ns ++ n ∷ [])
nests-push b i [] j n s q h =
    let at : i ≡ j = omega arith in
    (rw at h, tt)
nests-push b i (m ∷ ns) j n s q h = (s.0, nests-push b (suc i) ns j n s.1 (omega arith) h)

pub nests-changed :
    (b : Bench) (i : ℕ) (ns : List NestRecord) (k j : ℕ) (f : NestRecord → NestRecord) → j ≡ i + k → ((n : NestRecord) → NestSound b j n → NestSound b j (f n)) → NestsSound b i ns →
    NestsSound b i (changed_at k f ns)
nests-changed b i [] k j f q h s = tt
nests-changed b i (n ∷ ns) zero j f q h s =
    let at : i ≡ j = omega arith in
    (rw at (h n (rw (sym at) s.0)), s.1)
nests-changed b i (n ∷ ns) (suc k) j f q h s = (s.0, nests-changed b (suc i) ns k j f (omega arith) h s.1)

-- A change keeps the kinds, and so does an append.

pub kind-changed :
    (f : NestRecord → NestRecord) → ((n : NestRecord) → nest_kind (Some (f n)) ≡ nest_kind (Some n)) → (ns : List NestRecord) (k i : ℕ) →
    nest_kind (slice_get (changed_at k f ns) i) ≡ nest_kind (slice_get ns i)
kind-changed f h [] k i = refl
kind-changed f h (n ∷ ns) zero zero = h n
kind-changed f h (n ∷ ns) zero (suc i) = refl
kind-changed f h (n ∷ ns) (suc k) zero = refl
kind-changed f h (n ∷ ns) (suc k) (suc i) = kind-changed f h ns k i

pub get-before : {A : Type 0} (xs ys : List A) (i : ℕ) → i < length xs → slice_get (xs ++ ys) i ≡ slice_get xs i
get-before [] ys i h = absurd (omega arith)
get-before (x ∷ xs) ys zero h = refl
get-before (x ∷ xs) ys (suc i) h = get-before xs ys i (omega arith)

pub changed-before : {A : Type 0} (f : A → A) (xs ys : List A) (i : ℕ) → i < length xs → changed_at i f (xs ++ ys) ≡ changed_at i f xs ++ ys
changed-before f [] ys i h = absurd (omega arith)
changed-before f (x ∷ xs) ys zero h = refl
changed-before f (x ∷ xs) ys (suc i) h = ap (λ r. x ∷ r) (changed-before f xs ys i (omega arith))

-- A container has the kind that it had before an entry came.
pub entry-kind : (e : NestedEntry) (n : NestRecord) → nest_kind (Some (with_entry e n)) ≡ nest_kind (Some n)
entry-kind (StatementEnters s) (BlockRecord ss) = refl
entry-kind (ElseIfEnters a) (ConditionalNestRecord c) = refl
entry-kind (ElseEnters x) (ConditionalNestRecord c) = refl
entry-kind (CaseArmEnters a) (CaseNestRecord c) = refl
entry-kind (MemberEnters m) (LoopNestRecord l) = refl
entry-kind _ _ = refl
