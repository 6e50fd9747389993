-- A text of a module that no file is derived from.
use Rattle.std.proofs.Common.{◌≡◌, ℕ, ◌≤◌, List, [], ◌∷◌, ◌++◌, true, codes, Some, refl, sym, ap, ◌∙◌, subst, arith, append_assoc}
use Rattle.std.proofs.lemmas.Option.{same_Some}
use Rattle.std.specs.List.{slice_get}
use Rattle.vast_literal.specs.FileGrammar.{IsFile}
use Rattle.vast_literal.specs.Grammar.{Spells, binary, name, number}
use Rattle.vast_literal.specs.Keyword.{is_keyword}
use Rattle.vast_literal.specs.NormalExpr.{Name, Literal, Binary}
use Rattle.vast_literal.specs.Scan.{tokens}
use Rattle.vast_literal.specs.Tokens.{level, key_text, reserved_keys, Token, Reserved, Word, Number, Operator, Mark, word_token}
use Rattle.vast_literal.specs.WorkedTexts.{HasNoFile}
use Rattle.vast_literal.proofs.Longest.{lexes_scan}
use Rattle.vast_literal.proofs.Levels.{lower}
use Rattle.vast_rows.specs.declared.grammar.Item.{Item}
use Rattle.vast_rows.specs.declared.grammar.Item.TheVariants as item
use Rattle.vast_rows.specs.declared.grammar.Phrase.TheVariants.{Expression, LoopHead}
use Rattle.vast_rows.specs.declared.rule.Rule.TheVariants.{File, LoopLabel, LoopMembers, ModuleMembers}
use Rattle.vast_rows.specs.Events.{Event}
use Rattle.vast_rows.specs.Internal.Derives.{Derives}
use Rattle.vast_rows.specs.Internal.Predictive.{row_at, follows}
use Rattle.vast_rows.specs.Internal.Sets.{only}
use Rattle.vast_rows.specs.Internal.Sources.{head_kind}
use Rattle.vast_rows.specs.Numbers.{rule_number, LogicOr, Less, Plus, OpenParen, CloseParen, Semicolon, Assign, BeginKey, EndKey, GenvarKey, ModuleKey, EndModuleKey, ForKey}
use Rattle.vast_rows.specs.Page.{page}
use Rattle.vast_rows.specs.Phrases.{IsPhrase, expression, loop_head, Meaning}
use Rattle.vast_rows.specs.Rows.{Row}
use Rattle.vast_rows.specs.Symbols.{key, rule}
use Rattle.vast_rows.specs.Trace.{trace}
use Rattle.vast_rows.proofs.Bare.{by_page}
use Rattle.vast_rows.proofs.Bridge.{file_to}
use Rattle.vast_rows.proofs.Derivations.{whole_derived}
use Rattle.vast_rows.proofs.Once.{taken}
use Rattle.vast_rows.proofs.OnePage.{facts, rows, checked, is_page}
use Rattle.vast_rows.proofs.PhraseLaws.{apart}
use Rattle.vast_rows.proofs.Sets.{some_one}
use Rattle.vast_rows.proofs.Steps.{chose, took, phrased}

-- What the tokens of a loop hold in parentheses behind `genvar`, before what follows.
abbrev bound_tokens : List Token
bound_tokens = Word (codes "i") ∷ Operator Less ∷ Word (codes "a") ∷ Operator LogicOr ∷ Word (codes "b") ∷ []

abbrev bound_behind : List Token
bound_behind =
    Mark Semicolon ∷ Word (codes "i") ∷ Mark Assign ∷ Word (codes "i") ∷ Operator Plus ∷ Number (codes "1") ∷ Mark CloseParen ∷ Reserved BeginKey ∷ Reserved EndKey ∷ Reserved EndModuleKey ∷ []

abbrev start_behind : List Token
start_behind = Mark Semicolon ∷ (bound_tokens ++ bound_behind)

abbrev head_tokens : List Token
head_tokens = Word (codes "i") ∷ Mark Assign ∷ Number (codes "0") ∷ start_behind

abbrev loop_tokens : List Token
loop_tokens = Reserved ModuleKey ∷ Word (codes "m") ∷ Mark Semicolon ∷ Reserved ForKey ∷ Mark OpenParen ∷ Reserved GenvarKey ∷ head_tokens

loop_text : tokens (codes "module m; for (genvar i = 0; i < a || b; i = i + 1) begin end endmodule") ≡ Some loop_tokens
unfolding tokens word_token is_keyword reserved_keys key_text
loop_text = refl

-- The bound is a disjunction.
zero_spelled : Spells 0 (Number (codes "0") ∷ []) (Literal (codes "0"))
zero_spelled = lower 14 0 _ _ (omega arith) (omega arith) (number (codes "0"))

name_at : (j : ℕ) (w : List ℕ) → j ≤ 14 → Spells j (Word w ∷ []) (Name w)
name_at j w small = lower 14 j _ _ small (omega arith) (name w)

bound_spelled : Spells 0 bound_tokens (Binary LogicOr (Binary Less (Name (codes "i")) (Name (codes "a"))) (Name (codes "b")))
unfolding level
bound_spelled = lower 1 0 _ _ (omega arith) (omega arith) (binary LogicOr (omega arith)
    (lower 7 1 _ _ (omega arith) (omega arith) (binary Less (omega arith) (name_at 7 (codes "i") (omega arith)) (name_at 8 (codes "a") (omega arith))))
    (name_at 2 (codes "b") (omega arith)))

-- So the head of the loop is none.
no_head : (front behind : List Token) (m : Meaning) → IsPhrase LoopHead front m → head_tokens ≡ front ++ behind → ⊥
no_head front behind m (loop_head {xs = xs} {cs = cs} {x = x} {e = e} i p q) h =
    let rest : List Token = Mark Semicolon ∷ (Word i ∷ (Mark Assign ∷ (Word i ∷ (Operator Plus ∷ (Number (codes "1") ∷ (Mark CloseParen ∷ [])))))) in
    let inner : Number (codes "0") ∷ start_behind ≡ (xs ++ (Mark Semicolon ∷ (cs ++ rest))) ++ behind = cc h in
    let flat : Number (codes "0") ∷ start_behind ≡ xs ++ (Mark Semicolon ∷ (cs ++ (rest ++ behind))) = simp append_assoc at inner in
    let start = apart Expression (Number (codes "0") ∷ []) xs start_behind (Mark Semicolon ∷ (cs ++ (rest ++ behind))) _ _ (expression zero_spelled) (expression p) flat refl refl in
    let tails = start.1 in
    let bounds : bound_tokens ++ bound_behind ≡ cs ++ (rest ++ behind) = cc tails in
    let bound = apart Expression bound_tokens cs bound_behind (rest ++ behind) _ _ (expression bound_spelled) (expression q) bounds refl refl in
    let two = bound.0 in absurd (cc two)

-- What is left to derive.
record Left (s : List Item) (ts : List Token) : Type 0 where
  events : List Event
  derived : Derives rows s ts events

-- The row that the next token tells, and a token.
opened : {r : ℕ} {s : List Item} {ts : List Token} (n : ℕ) (row : Row) → Left (item.Rule r ∷ s) ts → follows facts (only 0) (item.Rule r ∷ s) ≡ true → row_at facts rows r (head_kind ts) ≡ Some n → slice_get rows n ≡ Some row → Left (row.items ++ s) ts
opened {r} {s} {ts} n row left f e at =
    let c = chose left.derived in
    let t = taken s facts c.number r c.row checked f c.found c.ruled c.rest in
    let same_number : n ≡ c.number = some_one n c.number (sym e ∙ t) in
    let same_row : c.row ≡ row = some_one c.row row (sym c.found ∙ (ap (slice_get rows) (sym same_number) ∙ at)) in
    record { events = c.more; derived = rw (← same_row) c.rest }

eaten : {k : ℕ} {s : List Item} {t : Token} {ts : List Token} → Left (item.Token k ∷ s) (t ∷ ts) → Left s ts
eaten {s = s} {ts = ts} left = let o = took left.derived in let split = o.split in
    let behind : o.behind ≡ ts = cc split in
    let d : Derives rows s ts o.more = rw behind at o.rest in
    record { events = o.more; derived = d }

before_head : Left (rule File ∷ []) loop_tokens → Left (item.Phrase LoopHead ∷ (key BeginKey ∷ (rule LoopLabel ∷ (rule LoopMembers ∷ (rule ModuleMembers ∷ (rule File ∷ [])))))) head_tokens
before_head left =
    let item_due = opened 1 _ left refl refl refl in
    let module_due = opened 2 _ item_due refl refl refl in
    let parameters_due = eaten (eaten module_due) in
    let ports_due = opened 6 _ parameters_due refl refl refl in
    let semicolon_due = opened 11 _ ports_due refl refl refl in
    let members_due = eaten semicolon_due in
    let member_due = opened 20 _ members_due refl refl refl in
    eaten (eaten (eaten (opened 64 _ member_due refl refl refl)))

-- A loop goes on while a name is less than something, and not while a disjunction holds.
pub no_disjunction : HasNoFile (codes "module m; for (genvar i = 0; i < a || b; i = i + 1) begin end endmodule")
no_disjunction u x =
    let e : x.parts ≡ loop_tokens = same_Some _ _ (sym (lexes_scan _ x.parts x.lexed) ∙ loop_text) in
    let told = (by_page rows page (rule_number File) loop_tokens (trace u []) is_page).1 (file_to loop_tokens u (subst (λ (ts : List Token). IsFile ts u) e x.spelled)) in
    let left : Left (rule File ∷ []) loop_tokens = record { events = trace u []; derived = whole_derived rows (rule_number File) loop_tokens (trace u []) told } in
    let head = phrased (before_head left).derived in no_head head.front head.behind head.meaning head.is_phrase head.split
