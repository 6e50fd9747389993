-- Some texts of modules and their normal files.
use Rattle.std.proofs.Common.{◌≡◌, ℕ, ◌≤◌, List, [], ◌∷◌, true, false, codes, Some, None, refl, arith}
use Rattle.vast_literal.specs.Keyword.{is_keyword}
use Rattle.vast_literal.specs.Tokens.{level, key_text, reserved_keys, Token, Reserved, Word, Number, Mark, word_token}
use Rattle.vast_literal.specs.declared.kind.AlwaysKind.TheVariants.{AlwaysComb as AlwaysCombWord}
use Rattle.vast_literal.specs.Scan.{tokens}
use Rattle.vast_literal.specs.NormalExpr.{Name, Literal}
use Rattle.vast_literal.specs.NormalFile.{BlockingStatement, CaseStatement, Done, Then, NoLabels, Label, NormalFile}
use Rattle.vast_literal.specs.Grammar.{Spells, ternary, binary, name, number}
use Rattle.vast_literal.specs.FileGrammar.{no_items, more_items, empty, arrow, assignment, not_unique, casez_word, simple, cases, IsCases, cased, assigns, done, then, no_labels, label, default, bare, is_kind, range, absent, present, no_type, own_type, declares, is_member_kind, declared, variable, block_body, casez_body, declaration, of_type, unclocked, function, IsFile, DerivesFile}
use Rattle.vast_literal.specs.WorkedTexts.{HasOneFile, module_of, given_comparison, ternary_label, typed_wire, typed_variable, wire_array, casez_function}
use Rattle.vast_literal.proofs.Levels.{lower}
use Rattle.vast_literal.proofs.Longest.{scan_lexes}
use Rattle.vast_rows.specs.Numbers.{LessEqual, OpenParen, CloseParen, Colon, Semicolon, Assign, CasezKey, EndCaseKey, DefaultKey, WireKey}
use Rattle.vast_rows.proofs.OneEach.{in_module, file_once}

-- A name at a level, and a number.
name_at : (j : ℕ) (w : List ℕ) → j ≤ 14 → Spells j (Word w ∷ []) (Name w)
name_at j w small = lower 14 j _ _ small (omega arith) (name w)

number_at_zero : (w : List ℕ) → Spells 0 (Number w ∷ []) (Literal w)
number_at_zero w = lower 14 0 _ _ (omega arith) (omega arith) (number w)

one : (text : List ℕ) (ts : List Token) (t : NormalFile) → tokens text ≡ Some ts → IsFile ts t → HasOneFile text t
one text ts t e d = let x : DerivesFile text t = record { parts = ts; lexed = scan_lexes text ts e; spelled = d } in record { derived = x; no_other = λ u y. file_once text u t y x }

-- `x <= a <= b;` assigns a given_comparison.
pub assigned_comparison : HasOneFile (codes "module m; always_comb begin x <= a <= b; end endmodule") (module_of given_comparison)
unfolding tokens word_token is_keyword reserved_keys key_text given_comparison level arrow assignment
assigned_comparison = one _ _ (module_of given_comparison) refl (in_module _ given_comparison (unclocked AlwaysCombWord refl (then (simple (assigns false (name_at 13 (codes "x") (omega arith))
    (lower 7 0 _ _ (omega arith) (omega arith) (binary LessEqual (omega arith) (name_at 7 (codes "a") (omega arith)) (name_at 8 (codes "b") (omega arith)))))) done)))

-- The colon of a ternary and that of a label.
pub labelled_by_ternary : HasOneFile (codes "module m; always_comb begin casez (s) a ? b : c: x = 1; endcase end endmodule") (module_of ternary_label)
unfolding tokens word_token is_keyword reserved_keys key_text ternary_label arrow assignment
labelled_by_ternary = one _ _ (module_of ternary_label) refl (in_module _ ternary_label (unclocked AlwaysCombWord refl (then (cases CasezKey casez_word (cased not_unique (name_at 0 (codes "s") (omega arith))
    (label (ternary (name_at 1 (codes "a") (omega arith)) (name_at 0 (codes "b") (omega arith)) (name_at 0 (codes "c") (omega arith)))
    (bare (assigns true (name_at 13 (codes "x") (omega arith)) (number_at_zero (codes "1")))) no_labels))) done)))

-- A type before a name, and a name alone.
pub wire_of_type : HasOneFile (codes "module m; wire t [1:0] x; endmodule") (module_of typed_wire)
unfolding tokens word_token is_keyword reserved_keys key_text typed_wire is_kind is_member_kind
wire_of_type = one _ _ (module_of typed_wire) refl (in_module _ typed_wire (declaration (declared WireKey refl refl
    (declares (codes "x") (present WireKey refl) (own_type (codes "t")) absent (more_items (range (number_at_zero (codes "1")) (number_at_zero (codes "0"))) no_items) no_items))))

pub variable_of_type : HasOneFile (codes "module m; t x; endmodule") (module_of typed_variable)
unfolding tokens word_token is_keyword reserved_keys key_text typed_variable
variable_of_type = one _ _ (module_of typed_variable) refl (in_module _ typed_variable (of_type (variable (codes "t") refl refl refl
    (declares (codes "x") absent (own_type (codes "t")) absent no_items no_items))))

pub wire_of_name : HasOneFile (codes "module m; wire x [0:1]; endmodule") (module_of wire_array)
unfolding tokens word_token is_keyword reserved_keys key_text wire_array is_kind is_member_kind
wire_of_name = one _ _ (module_of wire_array) refl (in_module _ wire_array (declaration (declared WireKey refl refl
    (declares (codes "x") (present WireKey refl) no_type absent no_items (more_items (range (number_at_zero (codes "0")) (number_at_zero (codes "1"))) no_items)))))

-- One casez as the body of a function, bare and between `begin` and `end`.
casez_tokens : List Token
casez_tokens = Reserved CasezKey ∷ (Mark OpenParen ∷ (Word (codes "s") ∷ (Mark CloseParen ∷ (Reserved DefaultKey ∷ (Mark Colon ∷ (Word (codes "f") ∷ (Mark Assign ∷ (Number (codes "1") ∷ (Mark Semicolon ∷ (Reserved EndCaseKey ∷ []))))))))))

casez_spelled : IsCases CasezKey true casez_tokens (CaseStatement false CasezKey (Name (codes "s")) (Label None (Then (BlockingStatement (Name (codes "f")) (Literal (codes "1"))) Done) NoLabels))
unfolding casez_tokens arrow assignment
casez_spelled = cased not_unique (name_at 0 (codes "s") (omega arith)) (default (bare (assigns true (name_at 13 (codes "f") (omega arith)) (number_at_zero (codes "1")))) no_labels)

pub bare_body : HasOneFile (codes "module m; function automatic f (); casez (s) default: f = 1; endcase endfunction endmodule") (module_of casez_function)
unfolding tokens word_token is_keyword reserved_keys key_text casez_function casez_tokens
bare_body = one _ _ (module_of casez_function) refl (in_module _ casez_function (function (declares (codes "f") absent no_type absent no_items no_items) empty no_items (casez_body casez_spelled)))

pub block_of_casez : HasOneFile (codes "module m; function automatic f (); begin casez (s) default: f = 1; endcase end endfunction endmodule") (module_of casez_function)
unfolding tokens word_token is_keyword reserved_keys key_text casez_function casez_tokens
block_of_casez = one _ _ (module_of casez_function) refl (in_module _ casez_function (function (declares (codes "f") absent no_type absent no_items no_items) empty no_items (block_body (then (cases CasezKey casez_word casez_spelled) done))))
