-- What is decided of a text: whether the grammar derives a file from it, and which.
use Rattle.std.proofs.Common.{◌≡◌, ℕ, List, Bool, true, false, Option, Some, None, Result, Ok, Err, IfOk, IfSome, option_map, sym, ap, subst}
use Rattle.std.specs.Bool.{MatchBool}
use Rattle.vast_literal.specs.Scan.{Gap}
use Rattle.vast_literal.specs.Tokens.{Token}
use Rattle.vast_read.specs.Lexed.{lex}
use Rattle.vast_read.proofs.Spellable.{file_used}
use Rattle.vast_read.proofs.Lexed.{tokens_lexed, tokens_used}
use Rattle.vast_literal.specs.NormalFile.{NormalFile}
use Rattle.vast_read.specs.FileView.{file_view}
use Rattle.vast_read.specs.declared.tree.file.NormalFile as code
use Rattle.vast_literal.specs.FileGrammar.{IsFile, DerivesFile}
use Rattle.vast_rows.proofs.OneEach.{file_once}
use Rattle.vast_literal.proofs.Longest.{scan_lexes, lexes_scan}
use Rattle.vast_read.specs.Internal.FileReadings.{IsFileOf}

pub text_derives : (text : List ℕ) (x : NormalFile) → IsFile (lex Gap text) x → DerivesFile text x
text_derives text x d = record { parts = lex Gap text; lexed = scan_lexes text (lex Gap text) (tokens_used text (file_used (lex Gap text) x d)); spelled = d }

pub text_without_file : (text : List ℕ) → ((x : NormalFile) → IsFile (lex Gap text) x → ⊥) → (x : NormalFile) → DerivesFile text x → ⊥
text_without_file text n x d = n x (subst (λ us. IsFile us x) (sym (tokens_lexed text d.parts (lexes_scan text d.parts d.lexed))) d.spelled)

-- What is derived is what was read: there is no other.
module _ {E : Type 0} (text : List ℕ) where
  pub file_derives : (read : Result (Option code.NormalFile) E) → IfOk read (IsFileOf text) → IfOk read (λ o. IfSome o (λ x. DerivesFile text (file_view x)))
  file_derives (Ok (Some x)) d = text_derives text (file_view x) d
  file_derives (Ok None) n = tt
  file_derives (Err e) n = tt

  pub none_derives : (read : Result (Option code.NormalFile) E) → IfOk read (IsFileOf text) → IfOk read (λ o. o ≡ None → (t : NormalFile) → DerivesFile text t → ⊥)
  none_derives (Ok (Some x)) d = λ none. absurd (cc none)
  none_derives (Ok None) n = λ none. text_without_file text n
  none_derives (Err e) n = tt

  pub file_read_back : (read : Result (Option code.NormalFile) E) → IfOk read (IsFileOf text) → IfOk read (λ o. (t : NormalFile) → DerivesFile text t → option_map file_view o ≡ Some t)
  file_read_back (Ok (Some x)) d = λ t y. ap (λ (u : NormalFile). Some u) (file_once text (file_view x) t (text_derives text (file_view x) d) y)
  file_read_back (Ok None) n = λ t y. absurd (text_without_file text n t y)
  file_read_back (Err e) n = tt

  pub decides : (read : Result Bool E) (ts : List Token) → ts ≡ lex Gap text → IfOk read (λ b. MatchBool b ((x : NormalFile) × IsFile ts x) ((x : NormalFile) → IsFile ts x → ⊥)) →
      IfOk read (λ b. MatchBool b ((x : NormalFile) × DerivesFile text x) ((x : NormalFile) → DerivesFile text x → ⊥))
  decides (Ok true) ts e d = (d.0, text_derives text d.0 (subst (λ us. IsFile us d.0) e d.1))
  decides (Ok false) ts e n = text_without_file text (subst (λ us. (x : NormalFile) → IsFile us x → ⊥) e n)
  decides (Err x) ts e n = tt
