-- The grammar of files, over that of expressions: which token lists spell which statements, declarations, members, modules and files.
use Rattle.std.specs.Prelude.{◌≡◌, ℕ, List, [], ◌∷◌, ◌++◌, Bool, true, false, codes, Option, Some, None, IsTrue, if◌then◌else◌}
use Rattle.vast_literal.specs.Tokens.{Less, LessEqual, Key, IfKey, ElseKey, CaseKey, CasezKey, CasexKey, EndCaseKey, DefaultKey, UniqueKey, BeginKey, EndKey, AssignKey, WireKey, RegKey, LogicKey, IntegerKey, IntKey, GenvarKey, SignedKey, UnsignedKey, ModuleKey, EndModuleKey, ParameterKey, LocalparamKey, PosedgeKey, NegedgeKey, OrKey, FunctionKey, AutomaticKey, EndFunctionKey, InputKey, OutputKey, InOutKey, TypedefKey, EnumKey, StructKey, PackedKey}
use Rattle.vast_literal.specs.Tokens.{OpenParen, CloseParen, OpenBracket, CloseBracket, OpenBrace, CloseBrace, Comma, Colon, Semicolon, Dot, Hash, DoubleColon, Assign, Token, Reserved, Word, MacroWord, Quoted, Operator, Mark}
use Rattle.vast_literal.specs.Tree.{AlwaysWord}
use Rattle.vast_literal.specs.Shape.{always_words, has_events, import_words, loop_words}
use Rattle.vast_literal.specs.Lexemes.{Lexes}
use Rattle.vast_literal.specs.NormalExpr.{NormalExpr, Name, Binary, NormalExprs}
use Rattle.vast_literal.specs.NormalFile.{NormalStatement, BlockingStatement, NonblockingStatement, AssignStatement, TaskStatement, ChoiceStatement, CaseStatement, ForStatement, NormalStatements, Done, Then, Arms, Only, Otherwise, Or, Labels, NoLabels, Label, Group, One, Range, NormalDeclaration, Event, EdgeEvent, NameEvent, NormalConnection, NormalMember, DeclarationPart, AssignPart, ParameterPart, MacroPart, ImportPart, EnumPart, StructPart, InstancePart, AlwaysPart, ConditionalPart, FunctionPart, LoopPart, NormalMembers, NoParts, MoreParts, NormalParameter, NormalPort, NormalItem, ModulePart, IncludePart, FileImportPart, MemberPart, NormalFile}
use Rattle.vast_literal.specs.Grammar.{Spells, SpellsList}

-- Lists.

-- Any number of items, one after the other.
pub data IsMany {A : Type 0} (P : List Token → A → Type 0) : List Token → List A → Type 0 where
  no_items : IsMany P [] []
  more_items : {ts us : List Token} {x : A} {xs : List A} → P ts x → IsMany P us xs → IsMany P (ts ++ us) (x ∷ xs)

-- At least one item, with a token between each two.
pub data IsJoined {A : Type 0} (P : List Token → A → Type 0) (between : Token) : List Token → List A → Type 0 where
  last_item : {ts : List Token} {x : A} → P ts x → IsJoined P between ts (x ∷ [])
  next_item : {ts us : List Token} {x : A} {xs : List A} → P ts x → IsJoined P between us xs → IsJoined P between (ts ++ (between ∷ us)) (x ∷ xs)

-- Nothing, or items with a token between each two.
pub data IsList {A : Type 0} (P : List Token → A → Type 0) (between : Token) : List Token → List A → Type 0 where
  empty : IsList P between [] []
  full : {ts : List Token} {xs : List A} → IsJoined P between ts xs → IsList P between ts xs

-- Statements.

-- `=` and `<=`
unfoldable pub arrow : (blocking : Bool) → Token
arrow blocking = if blocking then Mark Assign else Operator LessEqual

unfoldable pub assignment : (blocking : Bool) (left right : NormalExpr) → NormalStatement
assignment blocking left right = if blocking then BlockingStatement left right else NonblockingStatement left right

pub data IsUnique : List Token → Bool → Type 0 where
  unique : IsUnique (Reserved UniqueKey ∷ []) true
  not_unique : IsUnique [] false

-- The words that begin a case, and whether its arms may be bare.
pub data IsCase : Key → Bool → Type 0 where
  case_word : IsCase CaseKey false
  casez_word : IsCase CasezKey true
  casex_word : IsCase CasexKey false

mutual
  -- The tokens spell the statement.
  pub data IsStatement : List Token → NormalStatement → Type 0 where
    simple : {ts : List Token} {s : NormalStatement} → IsAssign ts s → IsStatement ts s
    -- assign L = X ;
    assigned : {ls rs : List Token} {l r : NormalExpr} → Spells 13 ls l → Spells 0 rs r →
        IsStatement (Reserved AssignKey ∷ (ls ++ (Mark Assign ∷ (rs ++ (Mark Semicolon ∷ []))))) (AssignStatement l r)
    -- F ;
    task : {ts : List Token} {x : NormalExpr} → Spells 13 ts x → IsStatement (ts ++ (Mark Semicolon ∷ [])) (TaskStatement x)
    choice : {ts : List Token} {a : Arms} → IsChoice ts a → IsStatement ts (ChoiceStatement a)
    cases : {ts : List Token} {s : NormalStatement} (k : Key) {bare_arms : Bool} → IsCase k bare_arms → IsCases k bare_arms ts s → IsStatement ts s
    -- for ( int i = X ; i < e ; i = i + 1 ) begin ..
    counted : {xs cs bs : List Token} {x e : NormalExpr} {b : NormalStatements} (i : List ℕ) → Spells 0 xs x → Spells 0 cs (Binary Less (Name i) e) → IsStatements bs b →
        IsStatement (loop_words IntKey i xs cs bs) (ForStatement i x e b)

  -- unique case ( X ) arms endcase
  pub data IsCases : Key → Bool → List Token → NormalStatement → Type 0 where
    cased : {k : Key} {z : Bool} {us xs ys : List Token} {u : Bool} {x : NormalExpr} {a : Labels} → IsUnique us u → Spells 0 xs x → IsLabels z ys a →
        IsCases k z (us ++ (Reserved k ∷ (Mark OpenParen ∷ (xs ++ (Mark CloseParen ∷ ys))))) (CaseStatement u k x a)

  -- L = X ; and L <= X ;
  pub data IsAssign : List Token → NormalStatement → Type 0 where
    assigns : {ls rs : List Token} {l r : NormalExpr} (b : Bool) → Spells 13 ls l → Spells 0 rs r →
        IsAssign (ls ++ (arrow b ∷ (rs ++ (Mark Semicolon ∷ [])))) (assignment b l r)

  -- Statements, and the `end` after them.
  pub data IsStatements : List Token → NormalStatements → Type 0 where
    done : IsStatements (Reserved EndKey ∷ []) Done
    then : {ts us : List Token} {s : NormalStatement} {ss : NormalStatements} → IsStatement ts s → IsStatements us ss → IsStatements (ts ++ us) (Then s ss)

  pub data IsChoice : List Token → Arms → Type 0 where
    -- if ( X ) begin ..
    only : {cs bs : List Token} {c : NormalExpr} {b : NormalStatements} → Spells 0 cs c → IsStatements bs b →
        IsChoice (Reserved IfKey ∷ (Mark OpenParen ∷ (cs ++ (Mark CloseParen ∷ (Reserved BeginKey ∷ bs))))) (Only c b)
    -- if ( X ) begin .. else begin ..
    otherwise : {cs bs ds : List Token} {c : NormalExpr} {b d : NormalStatements} → Spells 0 cs c → IsStatements bs b → IsStatements ds d →
        IsChoice (Reserved IfKey ∷ (Mark OpenParen ∷ (cs ++ (Mark CloseParen ∷ (Reserved BeginKey ∷ (bs ++ (Reserved ElseKey ∷ (Reserved BeginKey ∷ ds)))))))) (Otherwise c b d)
    -- if ( X ) begin .. else if ..
    or : {cs bs ys : List Token} {c : NormalExpr} {b : NormalStatements} {a : Arms} → Spells 0 cs c → IsStatements bs b → IsChoice ys a →
        IsChoice (Reserved IfKey ∷ (Mark OpenParen ∷ (cs ++ (Mark CloseParen ∷ (Reserved BeginKey ∷ (bs ++ (Reserved ElseKey ∷ ys))))))) (Or c b a)

  -- Arms, and the `endcase` after them.
  pub data IsLabels : Bool → List Token → Labels → Type 0 where
    no_labels : {z : Bool} → IsLabels z (Reserved EndCaseKey ∷ []) NoLabels
    label : {z : Bool} {xs bs ys : List Token} {x : NormalExpr} {b : NormalStatements} {a : Labels} → Spells 0 xs x → IsBody z bs b → IsLabels z ys a →
        IsLabels z (xs ++ (Mark Colon ∷ (bs ++ ys))) (Label (Some x) b a)
    default : {z : Bool} {bs ys : List Token} {b : NormalStatements} {a : Labels} → IsBody z bs b → IsLabels z ys a →
        IsLabels z (Reserved DefaultKey ∷ (Mark Colon ∷ (bs ++ ys))) (Label None b a)

  -- A block, or where it may stand bare one assignment.
  pub data IsBody : Bool → List Token → NormalStatements → Type 0 where
    body : {z : Bool} {bs : List Token} {b : NormalStatements} → IsStatements bs b → IsBody z (Reserved BeginKey ∷ bs) b
    bare : {bs : List Token} {s : NormalStatement} → IsAssign bs s → IsBody true bs (Then s Done)

-- Declarations.

unfoldable pub is_kind : Key → Bool
is_kind key = elim key [ WireKey ↦ true | RegKey ↦ true | LogicKey ↦ true | IntegerKey ↦ true | IntKey ↦ true | GenvarKey ↦ true | _ ↦ false ]

unfoldable pub is_sign : Key → Bool
is_sign key = elim key [ SignedKey ↦ true | UnsignedKey ↦ true | _ ↦ false ]

-- [ X ] and [ X : X ]
pub data IsGroup : List Token → Group → Type 0 where
  one : {xs : List Token} {x : NormalExpr} → Spells 0 xs x → IsGroup (Mark OpenBracket ∷ (xs ++ (Mark CloseBracket ∷ []))) (One x)
  range : {hs ls : List Token} {h l : NormalExpr} → Spells 0 hs h → Spells 0 ls l →
      IsGroup (Mark OpenBracket ∷ (hs ++ (Mark Colon ∷ (ls ++ (Mark CloseBracket ∷ []))))) (Range h l)

-- A keyword that passes the test, or none.
pub data IsMaybe (test : Key → Bool) : List Token → Option Key → Type 0 where
  absent : IsMaybe test [] None
  present : (k : Key) → IsTrue (test k) → IsMaybe test (Reserved k ∷ []) (Some k)

-- T, p :: T or nothing
pub data IsTypeName : List Token → Option (List ℕ) → Option (List ℕ) → Type 0 where
  no_type : IsTypeName [] None None
  own_type : (t : List ℕ) → IsTypeName (Word t ∷ []) None (Some t)
  packaged : (p t : List ℕ) → IsTypeName (Word p ∷ (Mark DoubleColon ∷ (Word t ∷ []))) (Some p) (Some t)

-- A kind word, a type, a sign, groups, the name and groups.
pub data IsDeclaration : List Token → NormalDeclaration → Type 0 where
  declares : {ks ts ss gs hs : List Token} {k s : Option Key} {p t : Option (List ℕ)} {g h : List Group} (n : List ℕ) →
      IsMaybe is_kind ks k → IsTypeName ts p t → IsMaybe is_sign ss s → IsMany IsGroup gs g → IsMany IsGroup hs h →
      IsDeclaration (ks ++ (ts ++ (ss ++ (gs ++ (Word n ∷ hs))))) (record { kind = k; package_name = p; type_name = t; sign = s; groups = g; name = n; behind = h })

-- Members.

unfoldable pub is_member_kind : Key → Bool
is_member_kind key = elim key [ WireKey ↦ true | RegKey ↦ true | LogicKey ↦ true | _ ↦ false ]

unfoldable pub is_local_kind : Key → Bool
is_local_kind key = elim key [ RegKey ↦ true | LogicKey ↦ true | _ ↦ false ]

unfoldable pub is_parameter_word : Key → Bool
is_parameter_word key = elim key [ ParameterKey ↦ true | LocalparamKey ↦ true | _ ↦ false ]

unfoldable pub is_edge : Key → Bool
is_edge key = elim key [ PosedgeKey ↦ true | NegedgeKey ↦ true | _ ↦ false ]

unfoldable pub is_direction : Key → Bool
is_direction key = elim key [ InputKey ↦ true | OutputKey ↦ true | InOutKey ↦ true | _ ↦ false ]

-- posedge X, negedge X or a name
pub data IsEvent : List Token → Event → Type 0 where
  edge : {xs : List Token} {x : NormalExpr} (k : Key) → IsTrue (is_edge k) → Spells 0 xs x → IsEvent (Reserved k ∷ xs) (EdgeEvent k x)
  plain : (w : List ℕ) → IsEvent (Word w ∷ []) (NameEvent w)

-- input decl
pub data IsInput : List Token → NormalDeclaration → Type 0 where
  input : {ds : List Token} {d : NormalDeclaration} → IsDeclaration ds d → IsInput (Reserved InputKey ∷ ds) d

-- A declaration whose kind passes the test, and a semicolon.
pub data IsDeclared (test : Key → Bool) : List Token → NormalDeclaration → Type 0 where
  declared : {ds : List Token} {d : NormalDeclaration} (k : Key) → d.kind ≡ Some k → IsTrue (test k) → IsDeclaration ds d → IsDeclared test (ds ++ (Mark Semicolon ∷ [])) d

-- A declaration of a type's name without a kind and a sign, and a semicolon.
pub data IsVariable : List Token → NormalDeclaration → Type 0 where
  variable : {ds : List Token} {d : NormalDeclaration} (t : List ℕ) → d.kind ≡ None → d.type_name ≡ Some t → d.sign ≡ None → IsDeclaration ds d → IsVariable (ds ++ (Mark Semicolon ∷ [])) d

-- . n ( X )
pub data IsGiven : List Token → NormalConnection → Type 0 where
  given : {xs : List Token} {x : NormalExpr} (n : List ℕ) → Spells 0 xs x → IsGiven (Mark Dot ∷ (Word n ∷ (Mark OpenParen ∷ (xs ++ (Mark CloseParen ∷ []))))) (record { name = n; value = Some x })

-- . p ( X ) and . p ( )
pub data IsConnection : List Token → NormalConnection → Type 0 where
  connected : {ts : List Token} {c : NormalConnection} → IsGiven ts c → IsConnection ts c
  unconnected : (n : List ℕ) → IsConnection (Mark Dot ∷ (Word n ∷ (Mark OpenParen ∷ (Mark CloseParen ∷ [])))) (record { name = n; value = None })

-- # ( .. ) or nothing
pub data IsGivenList : List Token → List NormalConnection → Type 0 where
  no_parameters : IsGivenList [] []
  with_parameters : {ts : List Token} {c : List NormalConnection} → IsJoined IsGiven (Mark Comma) ts c → IsGivenList (Mark Hash ∷ (Mark OpenParen ∷ (ts ++ (Mark CloseParen ∷ [])))) c

pub data IsSemicolon : List Token → Bool → Type 0 where
  with_one : IsSemicolon (Mark Semicolon ∷ []) true
  without : IsSemicolon [] false

-- : label, or nothing
pub data IsLabel : List Token → Option (List ℕ) → Type 0 where
  no_label : IsLabel [] None
  labelled : (w : List ℕ) → IsLabel (Mark Colon ∷ (Word w ∷ [])) (Some w)

-- A block, or one casez alone.
pub data IsFunctionBody : List Token → NormalStatements → Type 0 where
  block_body : {bs : List Token} {b : NormalStatements} → IsStatements bs b → IsFunctionBody (Reserved BeginKey ∷ bs) b
  casez_body : {ts : List Token} {s : NormalStatement} → IsCases CasezKey true ts s → IsFunctionBody ts (Then s Done)

-- E = X and E
pub data IsEntry : List Token → NormalConnection → Type 0 where
  valued : {xs : List Token} {x : NormalExpr} (n : List ℕ) → Spells 0 xs x → IsEntry (Word n ∷ (Mark Assign ∷ xs)) (record { name = n; value = Some x })
  unvalued : (n : List ℕ) → IsEntry (Word n ∷ []) (record { name = n; value = None })

-- decl ;
pub data IsField : List Token → NormalDeclaration → Type 0 where
  field : {ds : List Token} {d : NormalDeclaration} → IsDeclaration ds d → IsField (ds ++ (Mark Semicolon ∷ [])) d

pub data IsTypedef : List Token → NormalMember → Type 0 where
  -- typedef enum K sign groups { entries } N groups ;
  enumeration : {ss gs es hs : List Token} {s : Option Key} {g h : List Group} {e : List NormalConnection} (k : Key) (n : List ℕ) →
      IsTrue (is_kind k) → IsMaybe is_sign ss s → IsMany IsGroup gs g → IsList IsEntry (Mark Comma) es e → IsMany IsGroup hs h →
      IsTypedef (Reserved TypedefKey ∷ (Reserved EnumKey ∷ (Reserved k ∷ (ss ++ (gs ++ (Mark OpenBrace ∷ (es ++ (Mark CloseBrace ∷ (Word n ∷ (hs ++ (Mark Semicolon ∷ [])))))))))))
      (EnumPart (record { kind = Some k; package_name = None; type_name = None; sign = s; groups = g; name = n; behind = h }) e)
  -- typedef struct packed { fields } N ;
  structure : {ds : List Token} {d : List NormalDeclaration} (n : List ℕ) → IsMany IsField ds d →
      IsTypedef (Reserved TypedefKey ∷ (Reserved StructKey ∷ (Reserved PackedKey ∷ (Mark OpenBrace ∷ (ds ++ (Mark CloseBrace ∷ (Word n ∷ (Mark Semicolon ∷ [])))))))) (StructPart n d)

mutual
  -- The tokens spell the member.
  pub data IsMember : List Token → NormalMember → Type 0 where
    declaration : {ds : List Token} {d : NormalDeclaration} → IsDeclared is_member_kind ds d → IsMember ds (DeclarationPart d)
    -- T n ; and p :: T n ;
    of_type : {ds : List Token} {d : NormalDeclaration} → IsVariable ds d → IsMember ds (DeclarationPart d)
    -- assign L = X ;
    continuous : {ls rs : List Token} {l r : NormalExpr} → Spells 13 ls l → Spells 0 rs r →
        IsMember (Reserved AssignKey ∷ (ls ++ (Mark Assign ∷ (rs ++ (Mark Semicolon ∷ []))))) (AssignPart l r)
    -- parameter decl = X ; and localparam decl = X ;
    parameter : {ds xs : List Token} {d : NormalDeclaration} {x : NormalExpr} (k : Key) → IsTrue (is_parameter_word k) → IsDeclaration ds d → Spells 0 xs x →
        IsMember (Reserved k ∷ (ds ++ (Mark Assign ∷ (xs ++ (Mark Semicolon ∷ []))))) (ParameterPart k d x)
    macro : {ss : List Token} {s : Bool} (m : List ℕ) → IsSemicolon ss s → IsMember (MacroWord m ∷ ss) (MacroPart m None s)
    macro_with : {ts ss : List Token} {xs : NormalExprs} {s : Bool} (m : List ℕ) → SpellsList ts xs → IsSemicolon ss s →
        IsMember (MacroWord m ∷ (Mark OpenParen ∷ (ts ++ (Mark CloseParen ∷ ss)))) (MacroPart m (Some xs) s)
    -- import P :: * ;
    import_member : (p : List ℕ) → IsMember (import_words p) (ImportPart p)
    typedef_member : {ts : List Token} {m : NormalMember} → IsTypedef ts m → IsMember ts m
    -- M # ( .. ) I ( .. ) ;
    instance : {ps cs : List Token} {p c : List NormalConnection} (m i : List ℕ) → IsGivenList ps p → IsList IsConnection (Mark Comma) cs c →
        IsMember (Word m ∷ (ps ++ (Word i ∷ (Mark OpenParen ∷ (cs ++ (Mark CloseParen ∷ (Mark Semicolon ∷ []))))))) (InstancePart m p i c)
    -- always_comb B, always @ * B, always_latch B and initial B
    unclocked : {bs : List Token} {b : NormalStatements} (w : AlwaysWord) → has_events w ≡ false → IsStatements bs b →
        IsMember (always_words w ++ (Reserved BeginKey ∷ bs)) (AlwaysPart w [] b)
    -- always_ff @ ( events ) B and always @ ( events ) B
    clocked : {es bs : List Token} {e : List Event} {b : NormalStatements} (w : AlwaysWord) → IsTrue (has_events w) → IsList IsEvent (Reserved OrKey) es e → IsStatements bs b →
        IsMember (always_words w ++ (es ++ (Mark CloseParen ∷ (Reserved BeginKey ∷ bs)))) (AlwaysPart w e b)
    conditional : {ts : List Token} {a : Arms} → IsChoice ts a → IsMember ts (ConditionalPart a)
    -- function automatic decl ( inputs ) ; locals body endfunction
    function : {ds is ls bs : List Token} {d : NormalDeclaration} {i l : List NormalDeclaration} {b : NormalStatements} →
        IsDeclaration ds d → IsList IsInput (Mark Comma) is i → IsMany (IsDeclared is_local_kind) ls l → IsFunctionBody bs b →
        IsMember (Reserved FunctionKey ∷ (Reserved AutomaticKey ∷ (ds ++ (Mark OpenParen ∷ (is ++ (Mark CloseParen ∷ (Mark Semicolon ∷ (ls ++ (bs ++ (Reserved EndFunctionKey ∷ [])))))))))) (FunctionPart d i l b)
    -- for ( genvar i = X ; i < e ; i = i + 1 ) begin : label members end
    loop : {xs cs ls ms : List Token} {x e : NormalExpr} {l : Option (List ℕ)} {m : NormalMembers} (i : List ℕ) → Spells 0 xs x → Spells 0 cs (Binary Less (Name i) e) → IsLabel ls l → IsMembers EndKey ms m →
        IsMember (loop_words GenvarKey i xs cs (ls ++ ms)) (LoopPart i x e l m)

  -- Members, and the word after them.
  pub data IsMembers : Key → List Token → NormalMembers → Type 0 where
    closed : (k : Key) → IsMembers k (Reserved k ∷ []) NoParts
    and_member : {k : Key} {ts us : List Token} {m : NormalMember} {ms : NormalMembers} → IsMember ts m → IsMembers k us ms → IsMembers k (ts ++ us) (MoreParts m ms)

-- Modules and files.

-- parameter decl = X
pub data IsParameter : List Token → NormalParameter → Type 0 where
  header_parameter : {ds xs : List Token} {d : NormalDeclaration} {x : NormalExpr} → IsDeclaration ds d → Spells 0 xs x →
      IsParameter (Reserved ParameterKey ∷ (ds ++ (Mark Assign ∷ xs))) (record { declaration = d; value = x })

-- input decl, output decl and inout decl
pub data IsPort : List Token → NormalPort → Type 0 where
  port : {ds : List Token} {d : NormalDeclaration} (k : Key) → IsTrue (is_direction k) → IsDeclaration ds d → IsPort (Reserved k ∷ ds) (record { direction = k; declaration = d })

-- # ( parameters ), or nothing
pub data IsParameters : List Token → List NormalParameter → Type 0 where
  no_header_parameters : IsParameters [] []
  header_parameters : {ts : List Token} {ps : List NormalParameter} → IsJoined IsParameter (Mark Comma) ts ps → IsParameters (Mark Hash ∷ (Mark OpenParen ∷ (ts ++ (Mark CloseParen ∷ [])))) ps

-- ( ports ), or nothing
pub data IsPorts : List Token → List NormalPort → Type 0 where
  no_ports : IsPorts [] []
  ports : {ts : List Token} {ps : List NormalPort} → IsJoined IsPort (Mark Comma) ts ps → IsPorts (Mark OpenParen ∷ (ts ++ (Mark CloseParen ∷ []))) ps

pub data IsItem : List Token → NormalItem → Type 0 where
  -- module N # ( parameters ) ( ports ) ; members endmodule
  module_item : {ps qs ms : List Token} {p : List NormalParameter} {q : List NormalPort} {m : NormalMembers} (n : List ℕ) → IsParameters ps p → IsPorts qs q → IsMembers EndModuleKey ms m →
      IsItem (Reserved ModuleKey ∷ (Word n ∷ (ps ++ (qs ++ (Mark Semicolon ∷ ms))))) (ModulePart (record { name = n; parameters = p; ports = q; members = m }))
  -- ` include "path"
  include_item : (path : List ℕ) → IsItem (MacroWord (codes "include") ∷ (Quoted (34 ∷ (path ++ (34 ∷ []))) ∷ [])) (IncludePart path)
  -- import P :: * ;
  import_item : (p : List ℕ) → IsItem (import_words p) (FileImportPart p)
  typedef_item : {ts : List Token} {m : NormalMember} → IsTypedef ts m → IsItem ts (MemberPart m)

-- The tokens spell the file.
pub data IsFile : List Token → NormalFile → Type 0 where
  file : {ts : List Token} {is : List NormalItem} → IsMany IsItem ts is → IsFile ts (record { items = is })

-- The grammar derives the file from the text: these are the tokens of its lexemes, and they spell it.
pub record DerivesFile (text : List ℕ) (t : NormalFile) : Type 0 where
  pub parts : List Token
  pub lexed : Lexes text parts
  pub spelled : IsFile parts t

-- Each token list spells at most one declaration, statement, member and file.
pub record OneDeclaration : Type 0 where
  pub same : (ts : List Token) (a b : NormalDeclaration) → IsDeclaration ts a → IsDeclaration ts b → a ≡ b

pub record OneStatement : Type 0 where
  pub same : (ts : List Token) (a b : NormalStatement) → IsStatement ts a → IsStatement ts b → a ≡ b

pub record OneMember : Type 0 where
  pub same : (ts : List Token) (a b : NormalMember) → IsMember ts a → IsMember ts b → a ≡ b

-- Each token list spells at most one file.
pub record OneFile : Type 0 where
  pub same : (ts : List Token) (a b : NormalFile) → IsFile ts a → IsFile ts b → a ≡ b
