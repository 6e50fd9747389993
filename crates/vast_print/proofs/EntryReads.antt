-- Lists of connections and of other entries have the tokens that the grammar reads.
use Rattle.std.proofs.Common.{◌≡◌, List, [], ◌∷◌, map, true, refl, append_assoc, codes}
use Rattle.vast_literal.specs.Tokens.{Token, Mark}
use Rattle.vast_literal.specs.declared.token.Mark.TheVariants.{OpenParen, CloseParen, Semicolon, Comma, Dot, Hash}
use Rattle.vast_literal.specs.Tree.{MaybeExpr, NoExpr, SomeExpr, Connection}
use Rattle.vast_literal.specs.Scan.{scan}
use Rattle.vast_literal.specs.Plain.{is_plain_name}
use Rattle.vast_literal.specs.PlainFile.{is_plain_maybe, are_plain_connections}
use Rattle.vast_literal.specs.WellFormedFile.{is_well_formed_maybe, are_well_formed_connections, is_given, are_given}
use Rattle.vast_literal.proofs.FileTokens.{separated, value_tokens, connection_tokens, each_connection}
use Rattle.vast_literal.proofs.TokenReads.{Free, Divides, Reads}
use Rattle.vast_print.proofs.FaultLaws.{halves}
use Rattle.vast_literal.proofs.Pieces.{as_reads, open_paren, close_paren}
use Rattle.vast_literal.proofs.Words.{name_reads}
use Rattle.vast_print.specs.Printed.{Printed}
use Rattle.vast_print.specs.Page.{line}
use Rattle.vast_print.specs.Members.{entries_page, value_text, connection_text, connections_page}
use Rattle.vast_print.proofs.TextReads.{Prints, nothing_reads, printed_assoc, stands, after, closed, enclosing}
use Rattle.vast_print.proofs.ExprReads.{expr_reads}
use Rattle.vast_print.proofs.PageReads.{Whole, page_regrouped, whole_above, whole_lead, whole_none, whole_line, whole_written, whole_blank}

-- lists on lines of their own

pub data AllRead : List Printed → List (List Token) → Type 0 where
  all_none : AllRead [] []
  all_more : {p : Printed} {ts : List Token} {ps : List Printed} {tss : List (List Token)} → Prints Reads p ts → AllRead ps tss → AllRead (p ∷ ps) (ts ∷ tss)

pub comma_mark : Divides (44 ∷ []) (Mark Comma ∷ [])
unfolding scan
comma_mark = record { free = record { at = λ rest. refl }; stop = λ rest. refl }

pub entries_whole : (ps : List Printed) (tss : List (List Token)) → AllRead ps tss → Whole (entries_page ps) (separated tss)
unfolding entries_page separated
entries_whole [] tss all_none = whole_none
entries_whole (p ∷ []) tss (all_more r all_none) = whole_lead (whole_written r)
entries_whole (p ∷ q ∷ ps) tss (all_more r (all_more {ts = us} {tss = uss} s more)) =
    page_regrouped (whole_above (whole_lead (whole_written (closed r comma_mark))) (entries_whole (q ∷ ps) (us ∷ uss) (all_more s more))) (simp append_assoc)

-- connections

dot_free : Free (46 ∷ []) (Mark Dot ∷ [])
unfolding scan
dot_free = record { at = λ rest. refl }

value_reads : (v : MaybeExpr) → is_plain_maybe v ≡ true → is_well_formed_maybe v ≡ true → Prints Reads (value_text v) (value_tokens v)
unfolding value_tokens
value_reads NoExpr p w = stands _ nothing_reads
value_reads (SomeExpr e) p w = expr_reads e p w

connection_reads : (c : Connection) → is_plain_name c.name ≡ true → is_plain_maybe c.value ≡ true → is_well_formed_maybe c.value ≡ true → Prints Reads (connection_text c) (connection_tokens c)
unfolding connection_text connection_tokens
connection_reads c p q w = simp printed_assoc (after (stands _ dot_free) (enclosing (stands _ (name_reads c.name p)) open_paren (value_reads c.value q w) close_paren))

pub connections_read : (cs : List Connection) → are_plain_connections cs ≡ true → are_well_formed_connections cs ≡ true → AllRead (map connection_text cs) (each_connection cs)
unfolding each_connection
connections_read [] p w = all_none
connections_read (c ∷ cs) p w = all_more (connection_reads c (search halves) (search halves) (search halves))
    (connections_read cs (search halves) (search halves))

given_formed : (v : MaybeExpr) → is_given v ≡ true → is_well_formed_maybe v ≡ true
given_formed NoExpr h = absurd (cc h)
given_formed (SomeExpr e) h = h

pub given_connections : (cs : List Connection) → are_given cs ≡ true → are_well_formed_connections cs ≡ true
given_connections [] h = refl
given_connections (c ∷ cs) h = let a = given_formed c.value (search halves) in let b = given_connections cs (search halves) in rw (a, b) refl

pub connections_whole : (cs : List Connection) → are_plain_connections cs ≡ true → are_well_formed_connections cs ≡ true → Whole (connections_page cs) (separated (each_connection cs))
unfolding connections_page each_connection separated
connections_whole [] p w = whole_blank
connections_whole (c ∷ cs) p w = entries_whole (map connection_text (c ∷ cs)) (connection_tokens c ∷ each_connection cs) (connections_read (c ∷ cs) p w)

-- words between the parts of instances, functions and modules

pub hash_open : Divides (32 ∷ 35 ∷ 40 ∷ []) (Mark Hash ∷ Mark OpenParen ∷ [])
unfolding scan
hash_open = record { free = record { at = λ rest. refl }; stop = λ rest. refl }

pub close_semicolon : Divides (41 ∷ 59 ∷ []) (Mark CloseParen ∷ Mark Semicolon ∷ [])
unfolding scan
close_semicolon = record { free = record { at = λ rest. refl }; stop = λ rest. refl }

pub list_closed : Whole (line (codes ");")) (Mark CloseParen ∷ Mark Semicolon ∷ [])
list_closed = whole_line (as_reads close_semicolon.free)
