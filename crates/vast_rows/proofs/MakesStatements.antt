-- The rows of statements make what the typed relations say.
use Rattle.std.proofs.Common.{append_assoc, append-nil}
use Rattle.vast_literal.specs.FileGrammar.{unique, not_unique, case_word, casez_word, casex_word, simple, assigned, task, choice, cases, counted, cased, assigns, done, then, only, otherwise, or, no_labels, label, default, body, bare}
use Rattle.vast_literal.specs.NormalFile.{ForStatement}
use Rattle.vast_rows.specs.declared.rule.Rule.TheVariants.{Statements, Statement, AfterTarget, Assignment, Choice, Else, Branch, Unique, CaseKind, CaseArms, BareArms, ArmBody, LoneCase}
use Rattle.vast_rows.specs.Numbers.{CaseKey, CasezKey, CasexKey}
use Rattle.vast_rows.specs.Phrases.{expression, target, loop_head}
use Rattle.vast_rows.proofs.Meant.{Makes, is_arrow, is_nothing}

pub statements0 : Makes Statements 0
statements0 = (_, done)

pub statements1 : Makes Statements 1
statements1 ts s us ss = (_, then s.1 ss.1)

pub statement0 : Makes Statement 0
statement0 ls m (target {x = l} p) us after = after ls l p

pub statement1 : Makes Statement 1
statement1 ls m (target p) rs n (expression q) = (_, assigned p q)

pub statement2 : Makes Statement 2
statement2 ts a = (_, choice a.1)

pub statement3 : Makes Statement 3
statement3 us u ts after = after us u.0 u.1

pub statement4 : Makes Statement 4
statement4 ts n (loop_head {x = x} {e = e} i p q) bs b = (ForStatement i x e b.0, simp append_assoc (counted i p q b.1))

pub after_target0 : Makes AfterTarget 0
after_target0 arrows (is_arrow b) rs n (expression q) ls l p = (_, simple (assigns b p q))

pub after_target1 : Makes AfterTarget 1
after_target1 ls l p = (_, task p)

pub assignment0 : Makes Assignment 0
assignment0 ls m (target p) arrows (is_arrow b) rs n (expression q) = (_, assigns b p q)

pub choice0 : Makes Choice 0
choice0 cs m (expression {x = c} p) bs b us after = after cs bs c b.0 p b.1

pub else0 : Makes Else 0
else0 cs bs c b p q = rw (append-nil bs) (_, only p q)

pub else1 : Makes Else 1
else1 us after = after

pub branch0 : Makes Branch 0
branch0 ds d cs bs c b p q = (_, otherwise p q d.1)

pub branch1 : Makes Branch 1
branch1 ys y cs bs c b p q = (_, or p q y.1)

pub unique0 : Makes Unique 0
unique0 = (_, not_unique)

pub unique1 : Makes Unique 1
unique1 = (_, unique)

pub case0 : Makes CaseKind 0
case0 xs m (expression p) ys a us u h = (_, cases CaseKey case_word (cased h p a.1))

pub case1 : Makes CaseKind 1
case1 xs m (expression p) ys a us u h = (_, cases CasezKey casez_word (cased h p a.1))

pub case2 : Makes CaseKind 2
case2 xs m (expression p) ys a us u h = (_, cases CasexKey casex_word (cased h p a.1))

pub lone_case0 : Makes LoneCase 0
lone_case0 xs m (expression p) ys a us u h = (_, cased h p a.1)

pub arms0 : Makes CaseArms 0
arms0 = (_, no_labels)

pub arms1 : Makes CaseArms 1
arms1 xs m (expression p) bs b ys a = (_, label p (body b.1) a.1)

pub arms2 : Makes CaseArms 2
arms2 bs b ys a = (_, default (body b.1) a.1)

pub bare_arms0 : Makes BareArms 0
bare_arms0 = (_, no_labels)

pub bare_arms1 : Makes BareArms 1
bare_arms1 xs m (expression p) bs b ys a = (_, label p b.1 a.1)

pub bare_arms2 : Makes BareArms 2
bare_arms2 bs b ys a = (_, default b.1 a.1)

pub arm_body0 : Makes ArmBody 0
arm_body0 bs b = (_, body b.1)

pub arm_body1 : Makes ArmBody 1
arm_body1 ts s es is_nothing = rw (append-nil ts) (_, bare s.1)
