-- Pieces of text one after the other.
use Rattle.std.proofs.Common.{◌≡◌, ℕ, List, [], ◌∷◌, ◌++◌, Bool, true, false, not, ◌||◌, Some, refl, sym, ◌∙◌, ap, append_assoc}
use Rattle.vast_literal.specs.Tokens.{Op, BitOr, BitXor, BitAnd, Minus, BitNot, LogicNot, OpenParen, CloseParen, OpenBracket, CloseBracket, OpenBrace, CloseBrace, Comma, Colon, Dot, Question, Apostrophe, Token, Number, Operator, Mark, word_token}
use Rattle.vast_literal.specs.Tree.{UnaryOp, NegateOp, BitwiseNotOp, LogicalNotOp, AndReduceOp, OrReduceOp, XorReduceOp}
use Rattle.vast_literal.specs.Scan.{Gap, cons_token, add_tokens, scan}
use Rattle.vast_literal.specs.NormalExpr.{unary_operator_token}
use Rattle.vast_literal.specs.Tokens.{op_text}
use Rattle.vast_literal.specs.LiteralToken.{is_number}
use Rattle.vast_literal.specs.Plain.{is_identifier}
use Rattle.vast_literal.proofs.ExprTokens.{wrapped_tokens}
use Rattle.vast_literal.proofs.TokenReads.{stops, opens, Free, Divides, Reads}
use Rattle.vast_literal.proofs.ScanLaws.{add_tokens-append, scan_word, scan_word_cast, scan_number, scan_number_cast, scan_operator, scan_not, scan_and, scan_or, scan_colon, by_test}

-- A text in parentheses where `wrapped`.
abbrev pub paren : (wrapped : Bool) → List ℕ → List ℕ
paren true a = 40 ∷ (a ++ (41 ∷ []))
paren false a = a

-- A width stands bare before the apostrophe of a cast where its text is a number or a word.
abbrev pub head_wrapped : List ℕ → Bool
head_wrapped a = not (is_number a || is_identifier a)

pub free_reads : {a b : List ℕ} {ts us : List Token} → Free a ts → Reads b us → Reads (a ++ b) (ts ++ us)
free_reads {b} {ts} f g = record { at = λ rest h. rw (append_assoc, add_tokens-append) (f.at (b ++ rest) ∙ ap (add_tokens ts) (g.at rest h)) }

pub free_free : {a b : List ℕ} {ts us : List Token} → Free a ts → Free b us → Free (a ++ b) (ts ++ us)
free_free {b} {ts} f g = record { at = λ rest. rw (append_assoc, add_tokens-append) (f.at (b ++ rest) ∙ ap (add_tokens ts) (g.at rest)) }

-- a, and a text that stops it
pub reads_end : {a b : List ℕ} {ts us : List Token} → Reads a ts → Divides b us → Free (a ++ b) (ts ++ us)
reads_end {b} {ts} f g = record { at = λ rest. rw (append_assoc, add_tokens-append) (f.at (b ++ rest) (g.stop rest) ∙ ap (add_tokens ts) (g.free.at rest)) }

pub as_reads : {a : List ℕ} {ts : List Token} → Free a ts → Reads a ts
as_reads f = record { at = λ rest h. f.at rest }

pub divides_free : {a b : List ℕ} {ts us : List Token} → Divides a ts → Free b us → Divides (a ++ b) (ts ++ us)
divides_free {a} {b} f g = record { free = free_free f.free g; stop = λ rest. rw append_assoc (f.stop (b ++ rest)) }

-- a, and b whose first byte stops it
pub reads_reads : {a b : List ℕ} {ts us : List Token} → Reads a ts → Reads b us → ((rest : List ℕ) → stops rest ≡ true → stops (b ++ rest) ≡ true) → Reads (a ++ b) (ts ++ us)
reads_reads {b} {ts} f g s = record { at = λ rest h. rw (append_assoc, add_tokens-append) (f.at (b ++ rest) (s rest h) ∙ ap (add_tokens ts) (g.at rest h)) }

-- a, a text that stops it, and c
pub reads_sep : {a b c : List ℕ} {ts us vs : List Token} → Reads a ts → Divides b us → Reads c vs → Reads (a ++ (b ++ c)) (ts ++ (us ++ vs))
reads_sep {b} {c} f g k = reads_reads f (free_reads g.free k) (λ rest h. rw append_assoc (g.stop (c ++ rest)))

-- a between two texts
pub enclosed : {o a c : List ℕ} {os ts cs : List Token} → Divides o os → Reads a ts → Divides c cs → Divides (o ++ (a ++ c)) (os ++ (ts ++ cs))
enclosed f g k = divides_free f (reads_end g k)

-- a, then b between two texts
pub reads_closed : {a o b c : List ℕ} {ts os us cs : List Token} → Reads a ts → Divides o os → Reads b us → Divides c cs → Reads (a ++ (o ++ (b ++ c))) (ts ++ (os ++ (us ++ cs)))
reads_closed f g k m = reads_sep f g (as_reads (reads_end k m))

-- the texts that stand between
pub open_paren : Divides (40 ∷ []) (Mark OpenParen ∷ [])
unfolding scan
open_paren = record { free = record { at = λ rest. refl }; stop = λ rest. refl }

pub close_paren : Divides (41 ∷ []) (Mark CloseParen ∷ [])
unfolding scan
close_paren = record { free = record { at = λ rest. refl }; stop = λ rest. refl }

pub open_bracket : Divides (91 ∷ []) (Mark OpenBracket ∷ [])
unfolding scan
open_bracket = record { free = record { at = λ rest. refl }; stop = λ rest. refl }

pub close_bracket : Divides (93 ∷ []) (Mark CloseBracket ∷ [])
unfolding scan
close_bracket = record { free = record { at = λ rest. refl }; stop = λ rest. refl }

pub open_brace : Divides (123 ∷ []) (Mark OpenBrace ∷ [])
unfolding scan
open_brace = record { free = record { at = λ rest. refl }; stop = λ rest. refl }

pub close_brace : Divides (125 ∷ []) (Mark CloseBrace ∷ [])
unfolding scan
close_brace = record { free = record { at = λ rest. refl }; stop = λ rest. refl }

pub comma : Divides (44 ∷ 32 ∷ []) (Mark Comma ∷ [])
unfolding scan
comma = record { free = record { at = λ rest. refl }; stop = λ rest. refl }

pub dot : Divides (46 ∷ []) (Mark Dot ∷ [])
unfolding scan
dot = record { free = record { at = λ rest. refl }; stop = λ rest. refl }

pub question : Divides (32 ∷ 63 ∷ 32 ∷ []) (Mark Question ∷ [])
unfolding scan
question = record { free = record { at = λ rest. refl }; stop = λ rest. refl }

pub colon : Divides (32 ∷ 58 ∷ 32 ∷ []) (Mark Colon ∷ [])
unfolding scan
colon = record { free = record { at = λ rest. refl }; stop = λ rest. refl }

pub space : Free (32 ∷ []) []
unfolding scan
space = record { at = λ rest. refl }

pub minus_free : Free (45 ∷ []) (Operator Minus ∷ [])
unfolding scan
minus_free = record { at = λ rest. refl }

cast_open : Free (39 ∷ 40 ∷ []) (Mark Apostrophe ∷ Mark OpenParen ∷ [])
unfolding scan
cast_open = record { at = λ rest. refl }

pub paren_reads : (b : Bool) {a : List ℕ} {ts : List Token} → Reads a ts → Reads (paren b a) (wrapped_tokens b ts)
paren_reads true f = as_reads (enclosed open_paren f close_paren).free
paren_reads false f = f

-- a unary operator before a text that makes it no longer
pub opens-append : (tight : Bool) (a b : List ℕ) → opens tight a ≡ true → opens tight (a ++ b) ≡ true
opens-append tight [] b h = cc
opens-append tight (c ∷ cs) b h = h

pub sign_reads : (o : UnaryOp) (a : List ℕ) {ts : List Token} → opens true a ≡ true → Reads a ts → Reads (op_text (unary_operator_token o) ++ a) (Operator (unary_operator_token o) ∷ ts)
unfolding scan unary_operator_token
sign_reads NegateOp a k f = record { at = λ rest h. ap (cons_token (Operator Minus)) (f.at rest h) }
sign_reads BitwiseNotOp a k f = record { at = λ rest h. ap (cons_token (Operator BitNot)) (f.at rest h) }
sign_reads XorReduceOp a k f = record { at = λ rest h. ap (cons_token (Operator BitXor)) (f.at rest h) }
sign_reads LogicalNotOp a k f = record { at = λ rest h. scan_not (a ++ rest) (opens-append true a rest k) ∙ ap (cons_token (Operator LogicNot)) (f.at rest h) }
sign_reads AndReduceOp a k f = record { at = λ rest h. scan_and (a ++ rest) (opens-append true a rest k) ∙ ap (cons_token (Operator BitAnd)) (f.at rest h) }
sign_reads OrReduceOp a k f = record { at = λ rest h. scan_or (a ++ rest) (opens-append true a rest k) ∙ ap (cons_token (Operator BitOr)) (f.at rest h) }

-- an infix operator between two spaces
pub operator_divides : (op : Op) → Divides (32 ∷ (op_text op ++ (32 ∷ []))) (Operator op ∷ [])
operator_divides op = record { free = free_free space (record { at = λ rest. rw append_assoc (scan_operator op rest) }); stop = λ rest. refl }

-- a colon before a text that makes it no longer
pub colon_reads : (a : List ℕ) {ts : List Token} → opens false a ≡ true → Reads a ts → Reads (58 ∷ a) (Mark Colon ∷ ts)
unfolding scan
colon_reads a k f = record { at = λ rest h. scan_colon (a ++ rest) (opens-append false a rest k) ∙ ap (cons_token (Mark Colon)) (f.at rest h) }

-- a text that is one token t
some_same : (ts us : List Token) → Some ts ≡ Some us → ts ≡ us
some_same ts us e = cc

pub add_tokens-nil : (ts : List Token) → add_tokens ts (Some []) ≡ Some ts
add_tokens-nil [] = refl
add_tokens-nil (t ∷ ts) = ap (cons_token t) (add_tokens-nil ts)

tokens_of : (a : List ℕ) (ts : List Token) (t : Token) → Reads a ts → ((rest : List ℕ) → stops rest ≡ true → scan Gap (a ++ rest) ≡ cons_token t (scan Gap rest)) → ts ≡ t ∷ []
unfolding scan
tokens_of a ts t f g = some_same ts (t ∷ []) (sym (add_tokens-nil ts) ∙ (sym (f.at [] refl) ∙ g [] refl))

-- the head of a cast, with the apostrophe and the opening parenthesis
one_free : (a : List ℕ) (ts : List Token) (t : Token) → Reads a ts →
    ((rest : List ℕ) → stops rest ≡ true → scan Gap (a ++ rest) ≡ cons_token t (scan Gap rest)) →
    ((rest : List ℕ) → scan Gap (a ++ (39 ∷ 40 ∷ rest)) ≡ cons_token t (cons_token (Mark Apostrophe) (cons_token (Mark OpenParen) (scan Gap rest)))) →
    Free (a ++ (39 ∷ 40 ∷ [])) (ts ++ (Mark Apostrophe ∷ Mark OpenParen ∷ []))
one_free a ts t f g k = record { at = λ rest. rw (append_assoc, tokens_of a ts t f g) (k rest) }

bare_free : (a : List ℕ) (ts : List Token) → Reads a ts → head_wrapped a ≡ false → Free (a ++ (39 ∷ 40 ∷ [])) (ts ++ (Mark Apostrophe ∷ Mark OpenParen ∷ []))
bare_free a ts f h = by_test (is_number a) (λ n. one_free a ts (Number a) f (λ rest. scan_number a rest n) (λ rest. scan_number_cast a rest n))
    (λ n. by_test (is_identifier a) (λ p. one_free a ts (word_token a) f (λ rest. scan_word a rest p) (λ rest. scan_word_cast a rest p)) (λ p. absurd (cc (rw (n, p) at h))))

pub head_free : (a : List ℕ) {ts : List Token} → Reads a ts → Free (paren (head_wrapped a) a ++ (39 ∷ 40 ∷ [])) (wrapped_tokens (head_wrapped a) ts ++ (Mark Apostrophe ∷ Mark OpenParen ∷ []))
head_free a {ts} f = by_test (head_wrapped a) (λ e. rw e (free_free (enclosed open_paren f close_paren).free cast_open)) (λ e. rw e (bare_free a ts f e))
