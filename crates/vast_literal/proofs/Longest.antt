-- The scan takes the longest lexeme: its tokens of a text are those of its lexemes, and no others.
use Rattle.std.proofs.Common.{◌≡◌, ◌≢◌, ◌≤◌, inl, inr, ℕ, zero, suc, List, [], ◌∷◌, ◌++◌, length, true, eqb, Option, Some, None, refl, sym, ◌∙◌, ap, append-nil, length-append, arith}
use Rattle.vast_literal.specs.Tokens.{Op, LogicOr, Punct, Apostrophe, Token, Operator, Mark}
use Rattle.vast_literal.specs.Scan.{Gap, InComment, cons_token, add_tokens, scan, tokens}
use Rattle.vast_literal.specs.Tokens.{op_text}
use Rattle.vast_literal.specs.LiteralToken.{every}
use Rattle.vast_literal.specs.Lexemes.{mark_text, is_in_line, IsLexeme, IsLongest, Lexes, TakesLongest}
use Rattle.vast_literal.specs.Lexemes.IsLexeme.{space, comment, word, system_word, macro_word, number, based, filled, string, operator, mark, cast, pattern}
use Rattle.vast_literal.specs.Lexemes.Lexes.{no_text, lexeme}
use Rattle.vast_literal.proofs.ScanLaws.{and_left, and_right, not_true, scan_word, scan_system, scan_macro, scan_number, scan_filler, scan_string}
use Rattle.vast_literal.proofs.LiteralLaws.{based_tail}
use Rattle.vast_literal.proofs.LexemeShapes.{one, lexeme_one, base_tail, characters_rest, space_letter, space_digit}
use Rattle.vast_literal.proofs.LexemeFronts.{Ends, add_none}
use Rattle.vast_literal.proofs.LexemeStarts.{front}
use Rattle.vast_literal.proofs.SpeltOnce.{split_same}

-- A lexeme alone has its tokens.

comment_scan : (line : List ℕ) → every is_in_line line ≡ true → scan InComment line ≡ Some []
unfolding scan
comment_scan [] h = refl
comment_scan (c ∷ line) h = rw (not_true (eqb c 10) (and_left (is_in_line c) (every is_in_line line) h)) (rw (comment_scan line (and_right (is_in_line c) (every is_in_line line) h)))

operator_scan : (op : Op) → scan Gap (op_text op) ≡ Some (Operator op ∷ [])
unfolding scan
operator_scan LogicOr = refl
operator_scan _ = refl

mark_scan : (m : Punct) → m ≢ Apostrophe → scan Gap (mark_text m) ≡ Some (Mark m ∷ [])
unfolding scan
mark_scan Apostrophe h = absurd (h refl)
mark_scan _ h = refl

ended : (w : List ℕ) (ts : List Token) → scan Gap (w ++ []) ≡ Some ts → scan Gap w ≡ Some ts
ended w ts h = rw append-nil at h

lexeme_scan : (w : List ℕ) (ts : List Token) → IsLexeme w ts → scan Gap w ≡ Some ts
unfolding scan
lexeme_scan w ts (space {c} h) = rw (space_letter c h, space_digit c h, h)
lexeme_scan w ts (comment {line} h) = comment_scan line h
lexeme_scan w ts (word {w = v} h) = ended v ts (scan_word v [] h refl)
lexeme_scan w ts (system_word {w = v} h) = ended (36 ∷ v) ts (scan_system v [] h refl)
lexeme_scan w ts (macro_word {w = v} h) = ended (96 ∷ v) ts (scan_macro v [] h refl)
lexeme_scan w ts (number {ds} h) = ended ds ts (scan_number ds [] h refl)
lexeme_scan w ts (based size base ds g b h) = rw append-nil at (based_tail size (base ++ ds) [] g (base_tail base ds b h) refl)
lexeme_scan w ts (filled {c} h) = scan_filler c [] h
lexeme_scan w ts (string cs h) = ended (34 ∷ (cs ++ (34 ∷ []))) ts (scan_string (34 ∷ (cs ++ (34 ∷ []))) [] (characters_rest cs h))
lexeme_scan w ts (operator op) = operator_scan op
lexeme_scan w ts (mark m h) = mark_scan m h
lexeme_scan w ts cast = refl
lexeme_scan w ts pattern = refl

-- From the scan to the lexemes.

add_some : (us vs : List Token) → add_tokens us (Some vs) ≡ Some (us ++ vs)
add_some [] vs = refl
add_some (u ∷ us) vs = ap (cons_token u) (add_some us vs)

-- the tokens after the first lexeme's
pub record Behind (us ts : List Token) (o : Option (List Token)) : Type 0 where
  pub others : List Token
  pub some : o ≡ Some others
  pub joined : ts ≡ us ++ others

behind : (us ts : List Token) (o : Option (List Token)) → add_tokens us o ≡ Some ts → Behind us ts o
behind us ts None e = let n = add_none us in absurd (cc)
behind us ts (Some vs) e = let k = add_some us vs in record { others = vs; some = refl; joined = cc }

shorter : (b : ℕ) (t m rest : List ℕ) (n : ℕ) → length t ≤ n → b ∷ t ≡ m ++ rest → one m ≡ true → length rest ≤ n
shorter b t [] rest n h e k = cc
shorter b t (c ∷ m) rest n h e k =
    let same : t ≡ m ++ rest = cc in
    let sum = ap length same ∙ length-append m rest in
    omega arith

sound : (n : ℕ) (text : List ℕ) (ts : List Token) → length text ≤ n → scan Gap text ≡ Some ts → Lexes text ts
unfolding scan
sound n [] ts h e = let same : [] ≡ ts = cc in rw (sym same) no_text
sound zero (b ∷ t) ts h e = absurd (omega arith)
sound (suc n) (b ∷ t) ts h e = sound_by (front b t) (λ rest us k. sound n rest us k)
  where
    sound_by : Ends one [] Gap (b ∷ t) → ((rest : List ℕ) (us : List Token) → length rest ≤ n → scan Gap rest ≡ Some us → Lexes rest us) → Lexes (b ∷ t) ts
    sound_by (inl a) f =
        let p = behind a.brings ts (scan Gap a.rest) (sym a.scanned ∙ e) in
        let k : length t ≤ n = omega arith in
        let few = shorter b t a.more a.rest n k a.parts (lexeme_one a.more a.brings a.lexeme) in
        let longest : IsLongest a.more a.rest = λ v others us q l. a.longest v others (a.parts ∙ q) (lexeme_one v us l) in
        rw (a.parts, p.joined) (lexeme a.lexeme longest (f a.rest p.others few p.some))
    sound_by (inr l) f = let none = l.scanned in absurd (cc)

-- From the lexemes to the scan.

complete_by : (w rest : List ℕ) (us vs : List Token) → IsLexeme w us → IsLongest w rest → scan Gap rest ≡ Some vs → scan Gap (w ++ rest) ≡ Some (us ++ vs)
complete_by [] rest us vs l m k = let z = lexeme_one [] us l in absurd (cc)
complete_by (b ∷ v) rest us vs l m k = by_front (front b (v ++ rest))
  where
    by_front : Ends one [] Gap (b ∷ (v ++ rest)) → scan Gap (b ∷ (v ++ rest)) ≡ Some (us ++ vs)
    by_front (inl a) =
        let low = a.longest (b ∷ v) rest refl (lexeme_one (b ∷ v) us l) in
        let high = m a.more a.rest a.brings a.parts a.lexeme in
        let long : length (b ∷ v) ≡ length a.more = omega arith in
        let s = split_same (b ∷ v) rest a.more a.rest long a.parts in
        let mine = lexeme_scan (b ∷ v) us l in
        let other = lexeme_scan a.more a.brings a.lexeme in
        let f = s.0 in
        let brings : us ≡ a.brings = cc in
        a.scanned ∙ (rw (sym brings, sym s.1, k) (add_some us vs))
    by_front (inr n) = absurd (n.nothing (b ∷ v) rest refl (lexeme_one (b ∷ v) us l))

complete : (text : List ℕ) (ts : List Token) → Lexes text ts → scan Gap text ≡ Some ts
unfolding scan
complete text ts no_text = refl
complete text ts (lexeme {front = w} {rest} {ts = us} {us = vs} l m r) = complete_by w rest us vs l m (complete rest vs r)

-- The law, and its two directions for those who say something of lexemes and prove it of the scan.

pub scan_lexes : (text : List ℕ) (ts : List Token) → tokens text ≡ Some ts → Lexes text ts
unfolding tokens
scan_lexes text ts e = sound (length text) text ts (omega arith) e

pub lexes_scan : (text : List ℕ) (ts : List Token) → Lexes text ts → tokens text ≡ Some ts
unfolding tokens
lexes_scan text ts l = complete text ts l

pub takes_longest : TakesLongest
takes_longest text ts = (scan_lexes text ts, lexes_scan text ts)
