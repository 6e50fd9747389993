-- Where a text falls into lexemes, its tokens are some and those of what is left after some of its lexemes.
use Rattle.std.proofs.Common.{◌≡◌, ℕ, List, [], ◌∷◌, ◌++◌, length, drop, Bool, true, false, ◌||◌, eqb, eqb-true, Option, Some, None, refl, sym, ap, subst, ◌∙◌, append_assoc, arith}
use Rattle.std.proofs.Math.Seq.{drop-append_seam}
use Rattle.vast_literal.specs.Tokens.{Token, Mark}
use Rattle.vast_literal.specs.declared.token.Mark.TheVariants.{Apostrophe, OpenParen, OpenBrace}
use Rattle.vast_literal.specs.Scan.{cons_token, scan, tokens}
use Rattle.vast_literal.specs.Lexemes.{IsLexeme, IsLongest, Lexes}
use Rattle.vast_literal.specs.Lexemes.IsLexeme.{space, comment, word, system_word, macro_word, number, based, filled, string, operator, mark, cast, pattern}
use Rattle.vast_literal.specs.Lexemes.Lexes.{no_text, lexeme as taken}
use Rattle.vast_literal.proofs.LexemeShapes.{lexeme_one}
use Rattle.vast_literal.proofs.Longest.{scan_lexes, lexes_scan}
use Rattle.vast_read.specs.Behind.{Behind, none_before, lexeme, apostrophe}
use Rattle.vast_read.specs.Places.{PlacesPartTokens}
use Rattle.vast_read.specs.Internal.Scanner.{opens_mark}

-- after its longest lexeme such a text falls into lexemes too
nothing_front : (front behind : List ℕ) (ts : List Token) → IsLexeme front ts → [] ≡ front ++ behind → ⊥
nothing_front [] behind ts l e = let none = lexeme_one [] ts l in cc
nothing_front (c ∷ front) behind ts l e = cc

front_lexed : (front behind whole : List ℕ) (ts us : List Token) → IsLexeme front ts → IsLongest front behind → whole ≡ front ++ behind → Lexes whole us → (vs : List Token) × Lexes behind vs
front_lexed front behind whole ts us l m e no_text = absurd (nothing_front front behind ts l e)
front_lexed front behind whole ts us l m e (taken {front = w} {rest} {ts = xs} {us = vs} k n others) =
    let low = n front behind ts e l in
    let high = m w rest xs (sym e) k in
    let long : length w ≡ length front = omega arith in
    let same : rest ≡ behind = sym (drop-append_seam w rest) ∙ (ap (λ x. drop (length w) x) e ∙ (ap (λ i. drop i (front ++ behind)) long ∙ drop-append_seam front behind)) in
    (vs, subst (λ x. Lexes x vs) same others)

-- what the apostrophe of a cast or a pattern opens
opened : (w : List ℕ) (ts : List Token) (c : ℕ) (t : Token) → IsLexeme w ts → w ≡ 39 ∷ c ∷ [] → ts ≡ Mark Apostrophe ∷ t ∷ [] → opens_mark c ≡ true
opened w ts c t (space h) e p = absurd (cc)
opened w ts c t (comment h) e p = absurd (cc)
opened w ts c t (word h) e p = absurd (cc)
opened w ts c t (system_word h) e p = absurd (cc)
opened w ts c t (macro_word h) e p = absurd (cc)
opened w ts c t (number h) e p = absurd (cc)
opened w ts c t (based size base ds g b h) e p = absurd (cc)
opened w ts c t (filled h) e p = absurd (cc)
opened w ts c t (string cs h) e p = absurd (cc)
opened w ts c t (operator op) e p = absurd (cc)
opened w ts c t (mark m h) e p = absurd (cc)
opened w ts c t cast e p = let is : 40 ≡ c = cc in rw (sym is) refl
opened w ts c t pattern e p = let is : 123 ≡ c = cc in rw (sym is) refl

apart : (o : Option (List Token)) (us : List Token) (m : Token) → cons_token (Mark Apostrophe) (cons_token m o) ≡ Some us → (vs : List Token) × (cons_token m o ≡ Some vs) × (us ≡ (Mark Apostrophe ∷ []) ++ vs)
apart None us m e = absurd (cc)
apart (Some ts) us m e = (m ∷ ts, refl, cc)

apart_by : (c : ℕ) (behind : List ℕ) (us : List Token) (paren brace : Bool) → eqb c 40 ≡ paren → eqb c 123 ≡ brace → paren || brace ≡ true → tokens (39 ∷ c ∷ behind) ≡ Some us →
    (vs : List Token) × (tokens (c ∷ behind) ≡ Some vs) × (us ≡ (Mark Apostrophe ∷ []) ++ vs)
unfolding tokens scan
apart_by c behind us true brace ep eb h e = let is = eqb-true c 40 ep in rw is (apart (tokens behind) us (Mark OpenParen) (rw is at e))
apart_by c behind us false true ep eb h e = let is = eqb-true c 123 eb in rw is (apart (tokens behind) us (Mark OpenBrace) (rw is at e))
apart_by c behind us false false ep eb h e = absurd (cc)

-- The tokens of the text, before the rest and of it.
pub record Parts (rest : List ℕ) (us : List Token) : Type 0 where
  pub before : List Token
  pub others : List Token
  pub lexed : Lexes rest others
  pub joined : us ≡ before ++ others

pub parts_at : (text rest : List ℕ) (us : List Token) → Behind text rest → Lexes text us → Parts rest us
parts_at text rest us none_before x = record { before = []; others = us; lexed = x; joined = refl }
parts_at text rest us (lexeme {front} {behind} {ts} l m h) x =
    let inner = front_lexed front behind (front ++ behind) ts us l m refl x in
    let mine = lexes_scan (front ++ behind) us x in
    let other = lexes_scan (front ++ behind) (ts ++ inner.0) (taken l m inner.1) in
    let same : us ≡ ts ++ inner.0 = cc in
    let r = parts_at behind rest inner.0 h inner.1 in
    record { before = ts ++ r.before; others = r.others; lexed = r.lexed; joined = same ∙ (ap (λ y. ts ++ y) r.joined ∙ sym (append_assoc ts r.before r.others)) }
parts_at text rest us (apostrophe {c} {behind} {t} l h) x =
    let mark = opened (39 ∷ c ∷ []) (Mark Apostrophe ∷ t ∷ []) c t l refl refl in
    let a = apart_by c behind us (eqb c 40) (eqb c 123) refl refl mark (lexes_scan (39 ∷ c ∷ behind) us x) in
    let r = parts_at (c ∷ behind) rest a.0 h (scan_lexes (c ∷ behind) a.0 a.1) in
    record { before = Mark Apostrophe ∷ r.before; others = r.others; lexed = r.lexed; joined = a.2 ∙ ap (λ y. Mark Apostrophe ∷ y) r.joined }

pub part_tokens : PlacesPartTokens
part_tokens text place ts h x = let r = parts_at text (drop place text) ts h x in (r.before, r.others, r.joined, r.lexed)
