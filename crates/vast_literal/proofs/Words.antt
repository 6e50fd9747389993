-- Names, numbers, keywords and what stands at the apostrophe of a cast, as pieces of text.
use Rattle.std.proofs.Common.{◌≡◌, ℕ, List, [], ◌∷◌, ◌++◌, true, eqb, eqb-true, refl, ◌∙◌, append_assoc}
use Rattle.vast_literal.specs.Tokens.{Key, key_text, Reserved, Word, MacroWord, Number, Quoted, Mark, OpenParen, OpenBrace, Apostrophe, DoubleColon, PlusColon}
use Rattle.vast_literal.specs.Scan.{scan}
use Rattle.vast_literal.specs.LiteralToken.{is_number, is_string_text}
use Rattle.vast_literal.specs.Plain.{is_plain_name, is_called_name}
use Rattle.vast_literal.proofs.ExprTokens.{called_token}
use Rattle.vast_literal.proofs.TokenReads.{Free, Divides, Reads}
use Rattle.vast_literal.proofs.ScanLaws.{and_left, scan_name, scan_number, scan_system, scan_macro, scan_string, scan_key, scan_word_cast, key_token, key_identifier, plain_token, by_test}

pub name_reads : (w : List ℕ) → is_plain_name w ≡ true → Reads w (Word w ∷ [])
name_reads w h = record { at = λ rest k. scan_name w rest h k }

pub number_reads : (w : List ℕ) → is_number w ≡ true → Reads w (Number w ∷ [])
number_reads w h = record { at = λ rest k. scan_number w rest h k }

pub string_reads : (w : List ℕ) → is_string_text w ≡ true → Reads w (Quoted w ∷ [])
string_reads w h = record { at = λ rest k. scan_string w rest h }

pub key_reads : (k : Key) → Reads (key_text k) (Reserved k ∷ [])
key_reads k = record { at = λ rest h. scan_key k rest h }

pub macro_reads : (w : List ℕ) → is_plain_name w ≡ true → Reads (96 ∷ w) (MacroWord w ∷ [])
macro_reads w h = record { at = λ rest k. scan_macro w rest (and_left _ _ h) k }

-- the name of a function: a plain name, or `$` and an identifier
pub called_reads : (w : List ℕ) → is_called_name w ≡ true → Reads w (called_token w ∷ [])
called_reads [] h = cc
called_reads (c ∷ w) h = by_test (eqb c 36) (λ e. rw (eqb-true c 36 e) (record { at = λ rest m. scan_system w rest (rw e at h) m }))
    (λ e. rw e (name_reads (c ∷ w) (rw e at h)))

-- a name or a keyword with the apostrophe and the parenthesis of a cast
pub name_cast_free : (w : List ℕ) → is_plain_name w ≡ true → Free (w ++ (39 ∷ 40 ∷ [])) (Word w ∷ Mark Apostrophe ∷ Mark OpenParen ∷ [])
name_cast_free w h = record { at = λ rest. rw append_assoc (scan_word_cast w rest (and_left _ _ h) ∙ rw (plain_token w h)) }

pub key_cast_free : (k : Key) → Free (key_text k ++ (39 ∷ 40 ∷ [])) (Reserved k ∷ Mark Apostrophe ∷ Mark OpenParen ∷ [])
key_cast_free k = record { at = λ rest. rw append_assoc (scan_word_cast (key_text k) rest (key_identifier k) ∙ rw (key_token k)) }

pub plus_colon : Divides (32 ∷ 43 ∷ 58 ∷ 32 ∷ []) (Mark PlusColon ∷ [])
unfolding scan
plus_colon = record { free = record { at = λ rest. refl }; stop = λ rest. refl }

pub double_colon : Divides (58 ∷ 58 ∷ []) (Mark DoubleColon ∷ [])
unfolding scan
double_colon = record { free = record { at = λ rest. refl }; stop = λ rest. refl }

pub pattern_open : Free (39 ∷ 123 ∷ []) (Mark Apostrophe ∷ Mark OpenBrace ∷ [])
unfolding scan
pattern_open = record { at = λ rest. refl }
