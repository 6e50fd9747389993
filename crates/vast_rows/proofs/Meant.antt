-- What each rule of the page means, by the typed relations of the grammar. A rule that is there for factoring alone means: with what
-- stands before it, the whole.
use Rattle.std.proofs.Common.{◌≡◌, ℕ, List, [], ◌∷◌, ◌++◌, Bool, true, false, Option, None, IsTrue, get_or, sym, subst, append-nil}
use Rattle.vast_literal.specs.FileGrammar.{arrow, is_kind, is_sign, is_member_kind, is_local_kind, is_direction, IsMany, IsJoined, last_item, next_item, IsList, IsUnique, IsStatement, IsCases, IsAssign, IsStatements, IsChoice, IsLabels, IsBody, IsGroup, IsMaybe, IsTypeName, IsDeclaration, IsEvent, IsInput, IsDeclared, IsGiven, IsConnection, IsGivenList, IsSemicolon, IsLabel, IsFunctionBody, IsEntry, IsField, IsTypedef, IsMember, IsMembers, IsParameter, IsPort, IsParameters, IsPorts, IsItem}
use Rattle.vast_literal.specs.Grammar.{Spells, SpellsList, SpellsJoined}
use Rattle.vast_literal.specs.NormalExpr.{NormalExpr, NormalExprs}
use Rattle.vast_literal.specs.NormalFile as normal
use Rattle.vast_literal.specs.Tokens.{Token, Reserved, Word, MacroWord, Mark}
use Rattle.vast_rows.specs.declared.rule.Rule.{Rule as RuleName}
use Rattle.vast_rows.specs.declared.rule.Rule.TheVariants as rule
use Rattle.vast_rows.specs.Numbers.{Key, At, AlwaysKey, OpenParen, CloseParen, OpenBracket, OpenBrace, CloseBrace, Comma, Semicolon, Dot, DoubleColon, CasezKey, EndKey, EndModuleKey, IfKey, ElseKey, BeginKey, OrKey, TypedefKey, EnumKey}
use Rattle.vast_rows.specs.Page.{page}
use Rattle.vast_rows.proofs.Means.{MakesOf, row_of, rule_of}

-- A keyword that passes the test.
pub data IsKey (test : Key → Bool) : List Token → Type 0 where
  is_key : (k : Key) → IsTrue (test k) → IsKey test (Reserved k ∷ [])

pub data IsArrow : List Token → Type 0 where
  is_arrow : (blocking : Bool) → IsArrow (arrow blocking ∷ [])

pub data IsMacro : List Token → Type 0 where
  is_macro : (m : List ℕ) → IsMacro (MacroWord m ∷ [])

pub data IsNothing : List Token → Type 0 where
  is_nothing : IsNothing []

-- Groups, a name and groups.
pub data IsGrouped : List Token → Type 0 where
  is_grouped : {gs hs : List Token} {g h : List normal.Group} (n : List ℕ) → IsMany IsGroup gs g → IsMany IsGroup hs h → IsGrouped (gs ++ (Word n ∷ hs))

-- After an item the others of a list.
abbrev pub Tails : {A : Type 0} (P : List Token → A → Type 0) (between : Token) → List Token → Type 0
Tails {A} P between us = (ts : List Token) (x : A) → P ts x → (xs : List A) × IsJoined P between (ts ++ us) xs

-- After a kind word, or none, a declaration.
abbrev pub Declared : List Token → Type 0
Declared ts = (ks : List Token) (k : Option Key) → IsMaybe is_kind ks k → (d : normal.NormalDeclaration) × IsDeclaration (ks ++ ts) d × (d.kind ≡ k)

-- After the head and the block of a conditional, a conditional.
abbrev pub Completes : (List Token → List Token) → Type 0
Completes behind = (cs bs : List Token) (c : NormalExpr) (b : normal.NormalStatements) → Spells 0 cs c → IsStatements bs b →
    (a : normal.Arms) × IsChoice (Reserved IfKey ∷ (Mark OpenParen ∷ (cs ++ (Mark CloseParen ∷ (Reserved BeginKey ∷ behind bs))))) a

-- After a kind word, and before entries, a name and groups, an enumeration.
abbrev pub Enumerates : List Token → Type 0
Enumerates us = (k : Key) (n : List ℕ) (es hs : List Token) (e : List normal.NormalConnection) (h : List normal.Group) → IsTrue (is_kind k) → IsList IsEntry (Mark Comma) es e → IsMany IsGroup hs h →
    (m : normal.NormalMember) × IsTypedef (Reserved TypedefKey ∷ (Reserved EnumKey ∷ (Reserved k ∷ (us ++ (Mark OpenBrace ∷ (es ++ (Mark CloseBrace ∷ (Word n ∷ (hs ++ (Mark Semicolon ∷ [])))))))))) m

abbrev pub Meant : RuleName → List Token → Type 0
Meant rule.File ts = (items : List normal.NormalItem) × IsMany IsItem ts items
Meant rule.FileItem ts = (i : normal.NormalItem) × IsItem ts i
Meant rule.Parameters ts = (p : List normal.NormalParameter) × IsParameters ts p
Meant rule.MoreParameters ts = Tails IsParameter (Mark Comma) ts
Meant rule.Parameter ts = (p : normal.NormalParameter) × IsParameter ts p
Meant rule.Ports ts = (p : List normal.NormalPort) × IsPorts ts p
Meant rule.MorePorts ts = Tails IsPort (Mark Comma) ts
Meant rule.Port ts = (p : normal.NormalPort) × IsPort ts p
Meant rule.Direction ts = IsKey is_direction ts
Meant rule.ModuleMembers ts = (m : normal.NormalMembers) × IsMembers EndModuleKey ts m
Meant rule.LoopMembers ts = (m : normal.NormalMembers) × IsMembers EndKey ts m
Meant rule.Declaration ts = (d : normal.NormalDeclaration) × IsDeclaration ts d
Meant rule.KindWord ts = IsKey is_kind ts
Meant rule.Declarator ts = Declared ts
Meant rule.SignWord ts = IsKey is_sign ts
Meant rule.AfterWord ts = (w : List ℕ) → Declared (Word w ∷ ts)
Meant rule.OwnType us = (p : List ℕ) → Declared (Word p ∷ (Mark DoubleColon ∷ us))
Meant rule.SignedName us = (ts : List Token) (p t : Option (List ℕ)) → IsTypeName ts p t → Declared (ts ++ us)
Meant rule.GroupedName ts = IsGrouped ts
Meant rule.AfterGroups us = (w : List ℕ) (gs : List Token) (g : List normal.Group) → IsMany IsGroup gs g → Declared (Word w ∷ (gs ++ us))
Meant rule.FirstGroups ts = (g : List normal.Group) × IsMany IsGroup ts g
Meant rule.Groups ts = (g : List normal.Group) × IsMany IsGroup ts g
Meant rule.BracketGroup ts = (g : normal.Group) × IsGroup ts g
Meant rule.GroupEnd us = (xs : List Token) (x : NormalExpr) → Spells 0 xs x → (g : normal.Group) × IsGroup (Mark OpenBracket ∷ (xs ++ us)) g
Meant rule.Member ts = (m : normal.NormalMember) × IsMember ts m
Meant rule.NetKind ts = IsKey is_member_kind ts
Meant rule.NoWait ts = IsNothing ts
Meant rule.Awaited us = (m : normal.NormalMember) × IsMember (Reserved AlwaysKey ∷ (Mark At ∷ us)) m
Meant rule.AnyMacro ts = IsMacro ts
Meant rule.MacroArguments us = (m : List ℕ) (ss : List Token) (s : Bool) → IsSemicolon ss s → (x : normal.NormalMember) × IsMember (MacroWord m ∷ (us ++ ss)) x
Meant rule.Expressions ts = (xs : NormalExprs) × SpellsList ts xs
Meant rule.MoreExpressions us = (ts : List Token) (x : NormalExpr) → Spells 0 ts x → (xs : NormalExprs) × SpellsJoined (ts ++ us) xs
Meant rule.LastSemicolon ts = (s : Bool) × IsSemicolon ts s
Meant rule.AfterName us = (w : List ℕ) → (m : normal.NormalMember) × IsMember (Word w ∷ us) m
Meant rule.TypedName us = (p : List ℕ) → (m : normal.NormalMember) × IsMember (Word p ∷ (Mark DoubleColon ∷ (us ++ (Mark Semicolon ∷ [])))) m
Meant rule.AfterNames us = (w v : List ℕ) → (m : normal.NormalMember) × IsMember (Word w ∷ (Word v ∷ us)) m
Meant rule.GivenList ts = (c : List normal.NormalConnection) × IsGivenList ts c
Meant rule.Given ts = (c : normal.NormalConnection) × IsGiven ts c
Meant rule.MoreGiven ts = Tails IsGiven (Mark Comma) ts
Meant rule.Connections ts = (c : List normal.NormalConnection) × IsList IsConnection (Mark Comma) ts c
Meant rule.Connection ts = (c : normal.NormalConnection) × IsConnection ts c
Meant rule.Connected us = (n : List ℕ) → (c : normal.NormalConnection) × IsConnection (Mark Dot ∷ (Word n ∷ (Mark OpenParen ∷ (us ++ (Mark CloseParen ∷ []))))) c
Meant rule.MoreConnections ts = Tails IsConnection (Mark Comma) ts
Meant rule.Events ts = (e : List normal.Event) × IsList IsEvent (Reserved OrKey) ts e
Meant rule.OneEvent ts = (e : normal.Event) × IsEvent ts e
Meant rule.MoreEvents ts = Tails IsEvent (Reserved OrKey) ts
Meant rule.Inputs ts = (d : List normal.NormalDeclaration) × IsList IsInput (Mark Comma) ts d
Meant rule.Input ts = (d : normal.NormalDeclaration) × IsInput ts d
Meant rule.MoreInputs ts = Tails IsInput (Mark Comma) ts
Meant rule.Locals ts = (d : List normal.NormalDeclaration) × IsMany (IsDeclared is_local_kind) ts d
Meant rule.Local ts = (d : normal.NormalDeclaration) × IsDeclared is_local_kind ts d
Meant rule.LocalKind ts = IsKey is_local_kind ts
Meant rule.FunctionBody ts = (b : normal.NormalStatements) × IsFunctionBody ts b
Meant rule.LoneCase us = (ts : List Token) (u : Bool) → IsUnique ts u → (s : normal.NormalStatement) × IsCases CasezKey true (ts ++ us) s
Meant rule.NoEnd ts = IsNothing ts
Meant rule.LoopLabel ts = (l : Option (List ℕ)) × IsLabel ts l
Meant rule.Typedef ts = (m : normal.NormalMember) × IsTypedef ts m
Meant rule.TypeForm us = (m : normal.NormalMember) × IsTypedef (Reserved TypedefKey ∷ us) m
Meant rule.BaseSign us = Enumerates us
Meant rule.BaseGroups ts = (g : List normal.Group) × IsMany IsGroup ts g
Meant rule.Entries ts = (c : List normal.NormalConnection) × IsList IsEntry (Mark Comma) ts c
Meant rule.Entry ts = (c : normal.NormalConnection) × IsEntry ts c
Meant rule.EntryValue us = (n : List ℕ) → (c : normal.NormalConnection) × IsEntry (Word n ∷ us) c
Meant rule.MoreEntries ts = Tails IsEntry (Mark Comma) ts
Meant rule.Fields ts = (d : List normal.NormalDeclaration) × IsMany IsField ts d
Meant rule.Field ts = (d : normal.NormalDeclaration) × IsField ts d
Meant rule.Statements ts = (s : normal.NormalStatements) × IsStatements ts s
Meant rule.Statement ts = (s : normal.NormalStatement) × IsStatement ts s
Meant rule.AfterTarget us = (ts : List Token) (l : NormalExpr) → Spells 13 ts l → (s : normal.NormalStatement) × IsStatement (ts ++ us) s
Meant rule.Assignment ts = (s : normal.NormalStatement) × IsAssign ts s
Meant rule.Arrow ts = IsArrow ts
Meant rule.Choice ts = (a : normal.Arms) × IsChoice ts a
Meant rule.Else us = Completes (λ bs. bs ++ us)
Meant rule.Branch us = Completes (λ bs. bs ++ (Reserved ElseKey ∷ us))
Meant rule.Unique ts = (u : Bool) × IsUnique ts u
Meant rule.CaseKind us = (ts : List Token) (u : Bool) → IsUnique ts u → (s : normal.NormalStatement) × IsStatement (ts ++ us) s
Meant rule.CaseArms ts = (a : normal.Labels) × IsLabels false ts a
Meant rule.BareArms ts = (a : normal.Labels) × IsLabels true ts a
Meant rule.ArmBody ts = (b : normal.NormalStatements) × IsBody true ts b

-- By a rule's number.
abbrev pub MeantBy : ℕ → List Token → Type 0
MeantBy n ts = Meant (rule_of n) ts

-- That a row makes its rule: the row of that rule at that place.
abbrev pub Makes : RuleName → ℕ → Type 0
Makes name which = let row = get_or page (row_of name which) (record { rule = 0; items = []; action = None; looks = 0 }) in MakesOf MeantBy row.items (MeantBy row.rule)

-- Lists.

pub no_tails : {A : Type 0} {P : List Token → A → Type 0} {between : Token} → Tails P between []
no_tails {P = P} {between = between} ts x p = (x ∷ [], subst (λ (v : List Token). IsJoined P between v (x ∷ [])) (sym (append-nil ts)) (last_item p))

pub more_tails : {A : Type 0} {P : List Token → A → Type 0} {between : Token} (us : List Token) → (y : A) × P us y → (vs : List Token) → Tails P between vs → Tails P between (between ∷ (us ++ vs))
more_tails us y vs tails ts x p = let r = tails us y.0 y.1 in (x ∷ r.0, next_item p r.1)
