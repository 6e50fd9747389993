-- An action is told by its number.
use Rattle.std.proofs.Common.{◌≡◌, ℕ, Bool, true, false, nat_eq, MatchBool, ◌+◌, ◌-◌, List, [], ◌∷◌, get_or, nat_lt, if◌then◌else◌, refl, sym, ap, ◌∙◌}
use Rattle.std.proofs.lemmas.Bool.{eq-eqb, eqb-true}
use Rattle.vast_rows.specs.Internal.Actions.{action_number, always_number, listed_number}
use Rattle.vast_literal.specs.declared.kind.AlwaysKind.{AlwaysKind as AlwaysWord}
use Rattle.vast_literal.specs.declared.kind.AlwaysKind.TheVariants.{AlwaysFF as AlwaysFFWord, AlwaysAt as AlwaysAtWord, AlwaysComb as AlwaysCombWord, AlwaysStar as AlwaysStarWord, AlwaysLatch as AlwaysLatchWord, Initial as InitialWord}
use Rattle.vast_rows.specs.Numbers.{Key, key_number, IfKey}
use Rattle.vast_rows.specs.declared.action.Action.{Action}
use Rattle.vast_rows.specs.declared.action.Action.TheVariants.{Nothing, Yes, No, ModuleItem, IncludeItem, HeaderParameter, DeclarationMember, AssignMember, MacroMember, NamedMember, ConditionalMember, FunctionMember, LoopMember, NameBefore, Packaged, Declares, GroupOf, Connects, ChangeOf, Assigns, AssignsByWord, Chooses, UniqueCase, Conditional, NoArms, Arm, DefaultArm, ImportItem, ImportMember, Repeats, MemberItem, EnumMember, StructMember, Unnamed, NoMore, OneMore, PortOf, ParameterMember, AlwaysMember, KindOf, SignOf, EdgeOf, CaseOf}
use Rattle.vast_rows.specs.declared.action.Listed.{Listed}
use Rattle.vast_rows.specs.declared.action.Listed.TheVariants as listed
use Rattle.vast_rows.specs.Internal.Orders.{keys}

abbrev plain : List Action
plain = Nothing ∷ Yes ∷ No ∷ ModuleItem ∷ IncludeItem ∷ HeaderParameter ∷ DeclarationMember ∷ AssignMember ∷ MacroMember ∷ NamedMember ∷ ConditionalMember ∷ FunctionMember ∷ LoopMember ∷ NameBefore ∷ Packaged ∷ Declares ∷ GroupOf ∷ Connects ∷ ChangeOf ∷ Assigns ∷ AssignsByWord ∷ Chooses ∷ UniqueCase ∷ Conditional ∷ NoArms ∷ Arm ∷ DefaultArm ∷ ImportItem ∷ ImportMember ∷ Repeats ∷ MemberItem ∷ EnumMember ∷ StructMember ∷ Unnamed ∷ []

abbrev lists : List Listed
lists = listed.Item ∷ listed.Parameter ∷ listed.Port ∷ listed.Member ∷ listed.Group ∷ listed.Declaration ∷ listed.Expression ∷ listed.Connection ∷ listed.Event ∷ listed.Statement ∷ []

abbrev words : List AlwaysWord
words = AlwaysFFWord ∷ AlwaysAtWord ∷ AlwaysCombWord ∷ AlwaysStarWord ∷ AlwaysLatchWord ∷ InitialWord ∷ []

-- The action of a number.
abbrev of_number : ℕ → Action
of_number n =
    if nat_lt n 40 then get_or plain n Nothing
    else if nat_lt n 50 then NoMore (get_or lists (n - 40) listed.Item)
    else if nat_lt n 60 then OneMore (get_or lists (n - 50) listed.Item)
    else if nat_lt n 120 then PortOf (get_or keys (n - 60) IfKey)
    else if nat_lt n 180 then ParameterMember (get_or keys (n - 120) IfKey)
    else if nat_lt n 200 then AlwaysMember (get_or words (n - 180) AlwaysFFWord)
    else if nat_lt n 260 then KindOf (get_or keys (n - 200) IfKey)
    else if nat_lt n 320 then SignOf (get_or keys (n - 260) IfKey)
    else if nat_lt n 380 then EdgeOf (get_or keys (n - 320) IfKey)
    else CaseOf (get_or keys (n - 380) IfKey)

no_more_back : (what : Listed) → of_number (40 + listed_number what) ≡ NoMore what
no_more_back listed.Item = refl
no_more_back _ = refl

one_more_back : (what : Listed) → of_number (50 + listed_number what) ≡ OneMore what
one_more_back listed.Item = refl
one_more_back _ = refl

port_back : (key : Key) → of_number (60 + key_number key) ≡ PortOf key
port_back IfKey = refl
port_back _ = refl

parameter_back : (key : Key) → of_number (120 + key_number key) ≡ ParameterMember key
parameter_back IfKey = refl
parameter_back _ = refl

always_back : (word : AlwaysWord) → of_number (180 + always_number word) ≡ AlwaysMember word
always_back AlwaysFFWord = refl
always_back _ = refl

kind_back : (key : Key) → of_number (200 + key_number key) ≡ KindOf key
kind_back IfKey = refl
kind_back _ = refl

sign_back : (key : Key) → of_number (260 + key_number key) ≡ SignOf key
sign_back IfKey = refl
sign_back _ = refl

edge_back : (key : Key) → of_number (320 + key_number key) ≡ EdgeOf key
edge_back IfKey = refl
edge_back _ = refl

case_back : (key : Key) → of_number (380 + key_number key) ≡ CaseOf key
case_back IfKey = refl
case_back _ = refl

back : (a : Action) → of_number (action_number a) ≡ a
back (NoMore what) = no_more_back what
back (OneMore what) = one_more_back what
back (PortOf key) = port_back key
back (ParameterMember key) = parameter_back key
back (AlwaysMember word) = always_back word
back (KindOf key) = kind_back key
back (SignOf key) = sign_back key
back (EdgeOf key) = edge_back key
back (CaseOf key) = case_back key
back Nothing = refl
back _ = refl

same_number : (a b : Action) → action_number a ≡ action_number b → a ≡ b
same_number a b e = sym (back a) ∙ (ap of_number e ∙ back b)

pub decided : (a b : Action) (m n : ℕ) → m ≡ action_number a → n ≡ action_number b → MatchBool (nat_eq m n) (a ≡ b) (a ≡ b → ⊥)
decided a b m n e d = go (nat_eq m n) refl
  where
    go : (r : Bool) → nat_eq m n ≡ r → MatchBool r (a ≡ b) (a ≡ b → ⊥)
    go true h = same_number a b (sym e ∙ (eqb-true m n h ∙ d))
    go false h = λ same. let one : nat_eq m n ≡ true = eq-eqb m n (e ∙ (ap action_number same ∙ sym d)) in absurd (cc (one, h))
