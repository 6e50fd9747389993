-- The string at the front of a text, byte by byte.
use Rattle.std.proofs.Common.{◌≡◌, suc, ℕ, ◌+◌, ◌-◌, ◌<◌, ◌≤◌, List, [], ◌∷◌, ◌++◌, length, take, drop, get_or, Bool, true, false, cond, eqb, refl, ap, ◌∙◌, add-one, arith, lt_of_not-le}
use Rattle.std.proofs.Math.Seq.{take-add, drop-cons}
use Rattle.std.proofs.lemmas.List.{get_or_past, take_more}
use Rattle.std.proofs.lemmas.Bool.Decides.{nat_tests}
use Rattle.vast_literal.specs.Tokens.{Quoted}
use Rattle.vast_literal.specs.Scan.{Gap, InString, InEscape}
use Rattle.vast_read.specs.Behind.{Behind}
use Rattle.vast_read.specs.Lexed.{lex, unspelled}
use Rattle.vast_read.specs.Internal.Scanner.{string_part, EndsString}
use Rattle.vast_read.proofs.scanner.Lexemes.{At, advance, fails}

-- a byte other than a line feed stands within the text
pub other_within : (text : List ℕ) (place : ℕ) → (get_or text place 10 ≡ 10 → ⊥) → place < length text
other_within text place h = lt_of_not-le (λ (past : length text ≤ place). h (get_or_past text place 10 past))

-- two more bytes
pub two_taken : (text : List ℕ) (place : ℕ) → place + 1 < length text → take (place + 2) text ≡ take place text ++ (get_or text place 10 ∷ get_or text (place + 1) 10 ∷ [])
two_taken text place within =
    let first = drop-cons text place 10 (omega arith) in
    let second = drop-cons text (suc place) 10 (omega arith) in
    let next : suc place ≡ place + 1 = omega arith in
    take-add place 2 text ∙ ap (λ rest. take place text ++ take 2 rest) (first ∙ ap (λ rest. get_or text place 10 ∷ rest) (second ∙ ap (λ n. get_or text n 10 ∷ drop (suc (suc place)) text) next))

pub quote_on : (text : List ℕ) → get_or text 0 10 ≡ 34 → At (InString (take 1 text)) text 1
unfolding lex
quote_on [] e = absurd (omega arith)
quote_on (c ∷ cs) e = rw e refl

-- a byte that is no quote, no backslash and no line feed
plain_on : (text : List ℕ) (place : ℕ) (c : ℕ) → place < length text → get_or text place 10 ≡ c → At (InString (take place text)) text place →
    eqb c 34 ≡ false → eqb c 92 ≡ false → eqb c 10 ≡ false → At (InString (take (place + 1) text)) text (place + 1)
plain_on text place c within is at no_quote no_slash no_break =
    rw (take_more text place 10 within) (advance (InString (take place text)) (InString (take place text ++ (get_or text place 10 ∷ []))) text place within at (rw (is, no_quote, no_slash, no_break) refl))

-- a backslash and a byte that is no line feed
escape_on : (text : List ℕ) (place : ℕ) → place + 1 < length text → get_or text place 10 ≡ 92 → eqb (get_or text (place + 1) 10) 10 ≡ false →
    At (InString (take place text)) text place → At (InString (take (place + 2) text)) text (place + 2)
escape_on text place within is no_break at =
    let first = advance (InString (take place text)) (InEscape (take place text)) text place (omega arith) at (rw is refl) in
    let both = advance (InEscape (take place text)) (InString (take place text ++ (92 ∷ get_or text (place + 1) 10 ∷ []))) text (place + 1) within first (rw no_break refl) in
    let next : place + 1 + 1 ≡ place + 2 = omega arith in
    rw (two_taken text place within, is, ← next) both

escape_none : (text : List ℕ) (place : ℕ) → place < length text → get_or text place 10 ≡ 92 → get_or text (place + 1) 10 ≡ 10 → At (InString (take place text)) text place → lex Gap text ≡ (unspelled ∷ [])
escape_none text place within is break at =
    let first = advance (InString (take place text)) (InEscape (take place text)) text place within at (rw is refl) in
    fails (InEscape (take place text)) text (place + 1) first refl refl (rw break refl)

module _ (text : List ℕ) (place : ℕ) (within : place < length text) (at : At (InString (take place text)) text place) (no_quote : eqb (get_or text place 10) 34 ≡ false) where
  part_by : (slash break next : Bool) → eqb (get_or text place 10) 10 ≡ break → eqb (get_or text place 10) 92 ≡ slash → eqb (get_or text (place + 1) 10) 10 ≡ next →
      (n : ℕ) → n ≡ cond break 0 (cond slash (cond next 0 2) 1) → 0 < n → (At (InString (take (place + n) text)) text (place + n)) × (place + n ≤ length text)
  part_by slash true next eb es en n e some = absurd (omega arith)
  part_by true false true eb es en n e some = absurd (omega arith)
  part_by true false false eb es en n e some =
      let inside : place + 1 < length text = other_within text (place + 1) (λ b. let no : eqb (get_or text (place + 1) 10) 10 ≡ true = rw b refl in cc) in
      (rw e (escape_on text place inside (grind (arith, nat_tests)) en at), omega arith)
  part_by false false next eb es en n e some = (rw e (plain_on text place _ within refl at no_quote es eb), omega arith)

  none_by : (slash break next : Bool) → eqb (get_or text place 10) 10 ≡ break → eqb (get_or text place 10) 92 ≡ slash → eqb (get_or text (place + 1) 10) 10 ≡ next →
      (n : ℕ) → n ≡ cond break 0 (cond slash (cond next 0 2) 1) → n ≡ 0 → lex Gap text ≡ (unspelled ∷ [])
  none_by slash true next eb es en n e z =
      let is : get_or text place 10 ≡ 10 = grind (arith, nat_tests) in
      fails (InString (take place text)) text place at refl refl (rw is refl)
  none_by true false true eb es en n e z = escape_none text place within (grind (arith, nat_tests)) (grind (arith, nat_tests)) at
  none_by true false false eb es en n e z = absurd (omega arith)
  none_by false false next eb es en n e z = absurd (omega arith)

  -- the string takes in one part, or goes on in no way
  pub part_on : (n : ℕ) → n ≡ string_part (get_or text place 10) (get_or text (place + 1) 10) → 0 < n → (At (InString (take (place + n) text)) text (place + n)) × (place + n ≤ length text)
  part_on = part_by (eqb (get_or text place 10) 92) (eqb (get_or text place 10) 10) (eqb (get_or text (place + 1) 10) 10) refl refl refl

  pub part_none : (n : ℕ) → n ≡ string_part (get_or text place 10) (get_or text (place + 1) 10) → n ≡ 0 → lex Gap text ≡ (unspelled ∷ [])
  part_none = none_by (eqb (get_or text place 10) 92) (eqb (get_or text place 10) 10) (eqb (get_or text (place + 1) 10) 10) refl refl refl

-- the closing quote
closes : (w rest : List ℕ) (c : ℕ) → c ≡ 34 → lex (InString w) (c ∷ rest) ≡ (Quoted (w ++ (c ∷ [])) ∷ lex Gap rest)
unfolding lex
closes w rest c e = rw e refl

pub string_ends : (text : List ℕ) (place : ℕ) → place < length text → At (InString (take place text)) text place → Behind text (drop (place + 1) text) → get_or text place 10 ≡ 34 → EndsString text (place + 1)
string_ends text place within at behind e =
    let here : place + 1 - 1 ≡ place = omega arith in
    let rest = drop-cons text place 10 within in
    record { scanned = at ∙ (rw (rest, take_more text place 10 within, add-one) (closes (take place text) (drop (suc place) text) _ e)); moved = omega arith; within = omega arith; closed = rw (here, e) refl; behind = behind }
