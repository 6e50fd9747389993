-- The rows of declarations make what the typed relations say.
use Rattle.std.proofs.Common.{[], ◌∷◌, Some, None, IsTrue, refl, append-nil}
use Rattle.vast_literal.specs.FileGrammar.{is_kind, is_member_kind, is_local_kind, no_items, more_items, one, range, absent, present, no_type, own_type, packaged, declares}
use Rattle.vast_literal.specs.Tokens.{Word, Mark}
use Rattle.vast_rows.specs.declared.rule.Rule.TheVariants.{Declaration, Declarator, AfterWord, OwnType, SignedName, GroupedName, AfterGroups, FirstGroups, Groups, BracketGroup, GroupEnd}
use Rattle.vast_rows.specs.Numbers.{Key, WireKey, RegKey, LogicKey, IfKey, DoubleColon}
use Rattle.vast_rows.specs.Phrases.{expression}
use Rattle.vast_rows.proofs.Meant.{Makes, is_key, is_grouped}

pub declaration0 : Makes Declaration 0
declaration0 ds d = let r = d [] None absent in (r.0, r.1)

pub declaration1 : Makes Declaration 1
declaration1 ks (is_key k h) ds d = let r = d ks (Some k) (present k h) in (r.0, r.1)

pub declarator0 : Makes Declarator 0
declarator0 ss (is_key s h) us (is_grouped n g b) ks k m = (_, declares n m no_type (present s h) g b, refl)

pub declarator1 : Makes Declarator 1
declarator1 fs f n hs b ks k m = (_, declares n m no_type absent f.1 b.1, refl)

pub declarator2 : Makes Declarator 2
declarator2 w us after = after w

pub after_word0 : Makes AfterWord 0
after_word0 us own w = own w

pub after_word1 : Makes AfterWord 1
after_word1 ss (is_key s h) us (is_grouped n g b) w ks k m = (_, declares n m (own_type w) (present s h) g b, refl)

pub after_word2 : Makes AfterWord 2
after_word2 gs g us after w = after w gs g.0 g.1

pub own_type0 : Makes OwnType 0
own_type0 t us names p = names (Word p ∷ (Mark DoubleColon ∷ (Word t ∷ []))) (Some p) (Some t) (packaged p t)

pub signed_name0 : Makes SignedName 0
signed_name0 us (is_grouped n g b) ts p t y ks k m = (_, declares n m y absent g b, refl)

pub signed_name1 : Makes SignedName 1
signed_name1 ss (is_key s h) us (is_grouped n g b) ts p t y ks k m = (_, declares n m y (present s h) g b, refl)

pub grouped_name0 : Makes GroupedName 0
grouped_name0 gs g n hs b = is_grouped n g.1 b.1

pub after_groups0 : Makes AfterGroups 0
after_groups0 w gs g many ks k m = rw (append-nil gs) (_, declares w m no_type absent no_items many, refl)

pub after_groups1 : Makes AfterGroups 1
after_groups1 n hs b w gs g many ks k m = (_, declares n m (own_type w) absent many b.1, refl)

pub first_groups0 : Makes FirstGroups 0
first_groups0 fs f gs g = (_, more_items f.1 g.1)

pub groups0 : Makes Groups 0
groups0 = (_, no_items)

pub groups1 : Makes Groups 1
groups1 fs f gs g = (_, more_items f.1 g.1)

pub group0 : Makes BracketGroup 0
group0 xs m (expression {x = x} p) us end = end xs x p

pub group_end0 : Makes GroupEnd 0
group_end0 xs x p = (_, one p)

pub group_end1 : Makes GroupEnd 1
group_end1 ls m (expression q) xs x p = (_, range p q)

-- Kinds of members and of locals are kinds.
pub net_is_kind : (k : Key) → IsTrue (is_member_kind k) → IsTrue (is_kind k)
unfolding is_member_kind is_kind
net_is_kind WireKey h = refl
net_is_kind RegKey h = refl
net_is_kind LogicKey h = refl
net_is_kind IfKey h = absurd (cc h)
net_is_kind _ h = absurd (cc h)

pub local_is_kind : (k : Key) → IsTrue (is_local_kind k) → IsTrue (is_kind k)
unfolding is_local_kind is_kind
local_is_kind RegKey h = refl
local_is_kind LogicKey h = refl
local_is_kind IfKey h = absurd (cc h)
local_is_kind _ h = absurd (cc h)
