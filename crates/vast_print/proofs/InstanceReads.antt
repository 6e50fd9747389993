-- Instances and always blocks have the tokens that the grammar reads.
use Rattle.std.proofs.Common.{◌≡◌, ℕ, List, [], ◌∷◌, ◌++◌, map, true, ◌&&◌, refl, append_assoc, codes}
use Rattle.vast_literal.specs.Tokens.{key_text, Reserved, Operator, Mark, Word}
use Rattle.vast_literal.specs.declared.token.Sign.TheVariants.{Times}
use Rattle.vast_literal.specs.declared.token.Mark.TheVariants.{OpenParen, At}
use Rattle.vast_literal.specs.declared.token.Key.{Key}
use Rattle.vast_literal.specs.declared.token.Key.TheVariants.{AlwaysComb as AlwaysCombKey, AlwaysFF as AlwaysFFKey, Always as AlwaysKey, AlwaysLatch as AlwaysLatchKey, Initial as InitialKey, Posedge as PosedgeKey, Negedge as NegedgeKey, Or as OrKey}
use Rattle.vast_literal.specs.Tree.{ExprTree, NameTree, PosEdgeTree, NegEdgeTree, Exprs, NoExprs, MoreExprs, Connection, InstanceTree, Statements}
use Rattle.vast_literal.specs.declared.kind.AlwaysKind.{AlwaysKind as AlwaysWord}
use Rattle.vast_literal.specs.declared.kind.AlwaysKind.TheVariants.{AlwaysFF as AlwaysFFWord, AlwaysAt as AlwaysAtWord, AlwaysComb as AlwaysCombWord, AlwaysStar as AlwaysStarWord, AlwaysLatch as AlwaysLatchWord, Initial as InitialWord}
use Rattle.vast_literal.specs.Scan.{scan}
use Rattle.vast_literal.specs.Plain.{is_plain_name}
use Rattle.vast_literal.specs.PlainFile.{is_plain_event, are_plain_events, are_plain_awaited, are_plain_connections, is_plain_instance}
use Rattle.vast_literal.specs.WellFormedFile.{is_well_formed_event, are_well_formed_events, are_well_formed_connections, are_given}
use Rattle.vast_literal.proofs.ExprTokens.{expr_tokens}
use Rattle.vast_literal.proofs.FileTokens.{block_tokens, statements_tokens, each_connection, given_tokens, instance_tokens, more_event_tokens, event_tokens, always_tokens}
use Rattle.vast_literal.proofs.TokenReads.{Free, Divides, Reads}
use Rattle.vast_print.proofs.FaultLaws.{halves}
use Rattle.vast_literal.proofs.Pieces.{reads_end, divides_free}
use Rattle.vast_literal.proofs.Words.{key_reads, name_reads}
use Rattle.vast_print.specs.Text.{expr_text}
use Rattle.vast_print.specs.Page.{beside, written}
use Rattle.vast_print.specs.Statements.{block_page}
use Rattle.vast_print.specs.Members.{connection_text, instance_head_page, instance_page, more_events_text, events_text, always_opening, always_text}
use Rattle.vast_print.proofs.TextReads.{Prints, nothing_reads, Rest, printed_assoc, leftward, stands, rest_none, after, after_free, ended_by, closed, enclosing, goes_on, rest_more}
use Rattle.vast_print.proofs.ExprReads.{expr_reads}
use Rattle.vast_print.proofs.PageReads.{Whole, Open, page_regrouped, whole_above, whole_written, open_free, space_divides, space_open, close_space, key_space}
use Rattle.vast_print.proofs.EntryReads.{entries_whole, connections_read, given_connections, connections_whole, hash_open, list_closed}

-- instances

head_whole : (m : List ℕ) (cs : List Connection) (i : List ℕ) → is_plain_name m ≡ true → is_plain_name i ≡ true → are_plain_connections cs ≡ true → are_given cs ≡ true →
    Whole (instance_head_page m cs i) (Word m ∷ (given_tokens cs ++ (Word i ∷ Mark OpenParen ∷ [])))
unfolding instance_head_page given_tokens
head_whole m [] i p q r w = whole_written (simp printed_assoc (enclosing (stands _ (name_reads m p)) space_divides (stands _ (name_reads i q)) space_open))
head_whole m (c ∷ cs) i p q r w = page_regrouped (whole_above (whole_written (closed (stands _ (name_reads m p)) hash_open))
    (whole_above (entries_whole (map connection_text (c ∷ cs)) (each_connection (c ∷ cs)) (connections_read (c ∷ cs) r (given_connections (c ∷ cs) w)))
    (whole_written (leftward _ _ _ (after (stands _ close_space.free) (closed (stands _ (name_reads i q)) space_open)))))) (simp append_assoc)

pub instance_whole : (i : InstanceTree) → is_plain_instance i ≡ true → (are_given i.parameters && are_well_formed_connections i.connections) ≡ true → Whole (instance_page i) (instance_tokens i)
unfolding instance_page instance_tokens
instance_whole i p w =
    page_regrouped (whole_above (head_whole i.module_name i.parameters i.instance_name (search halves) (search halves) (search halves) (search halves))
    (whole_above (connections_whole i.connections (search halves) (search halves)) list_closed)) (simp append_assoc)

-- events

event_reads : (e : ExprTree) → is_plain_event e ≡ true → is_well_formed_event e ≡ true → Prints Reads (expr_text e) (expr_tokens e)
unfolding expr_text expr_tokens key_text
event_reads (PosEdgeTree e) p w = after (stands _ (key_space PosedgeKey)) (expr_reads e p w)
event_reads (NegEdgeTree e) p w = after (stands _ (key_space NegedgeKey)) (expr_reads e p w)
event_reads (NameTree n type) p w = expr_reads (NameTree n type) p refl
event_reads _ p w = absurd (cc w)

or_divides : Divides (codes " or ") (Reserved OrKey ∷ [])
unfolding key_text
or_divides = divides_free space_divides (key_space OrKey)

more_events_read : (es : Exprs) → are_plain_events es ≡ true → are_well_formed_events es ≡ true → Prints Rest (more_events_text es) (more_event_tokens es)
unfolding more_events_text more_event_tokens
more_events_read NoExprs p w = rest_none
more_events_read (MoreExprs e es) p w =
    rest_more or_divides (event_reads e (search halves) (search halves)) (more_events_read es (search halves) (search halves))

events_read : (es : Exprs) → are_plain_events es ≡ true → are_well_formed_events es ≡ true → Prints Reads (events_text es) (event_tokens es)
unfolding events_text event_tokens
events_read NoExprs p w = stands _ nothing_reads
events_read (MoreExprs e es) p w =
    goes_on (event_reads e (search halves) (search halves)) (more_events_read es (search halves) (search halves))

-- always blocks

at_open : Divides (32 ∷ 64 ∷ 32 ∷ 40 ∷ []) (Mark At ∷ Mark OpenParen ∷ [])
unfolding scan
at_open = record { free = record { at = λ rest. refl }; stop = λ rest. refl }

key_at : (k : Key) → Free (key_text k ++ (32 ∷ 64 ∷ 32 ∷ 40 ∷ [])) (Reserved k ∷ Mark At ∷ Mark OpenParen ∷ [])
key_at k = reads_end (key_reads k) at_open

star_open : Divides (codes " @* ") (Mark At ∷ Operator Times ∷ [])
unfolding scan
star_open = record { free = record { at = λ rest. refl }; stop = λ rest. refl }

key_star : Free (key_text AlwaysKey ++ codes " @* ") (Reserved AlwaysKey ∷ Mark At ∷ Operator Times ∷ [])
key_star = reads_end (key_reads AlwaysKey) star_open

pub always_open : (word : AlwaysWord) (es : Exprs) (b : Statements) → are_plain_awaited word es ≡ true → are_well_formed_events es ≡ true → Open (block_page b) (block_tokens (statements_tokens b)) →
    Open (beside (written (always_text word es)) (block_page b)) (always_tokens word es (block_tokens (statements_tokens b)))
unfolding always_opening always_text always_tokens key_text
always_open AlwaysFFWord es b p w h = page_regrouped (open_free (leftward _ _ _ (after_free (stands _ (key_at AlwaysFFKey)) (ended_by (events_read es p w) close_space))) h) (simp append_assoc)
always_open AlwaysAtWord es b p w h = page_regrouped (open_free (leftward _ _ _ (after_free (stands _ (key_at AlwaysKey)) (ended_by (events_read es p w) close_space))) h) (simp append_assoc)
always_open AlwaysCombWord es b p w h = open_free (stands _ (key_space AlwaysCombKey)) h
always_open AlwaysStarWord es b p w h = open_free (stands _ key_star) h
always_open AlwaysLatchWord es b p w h = open_free (stands _ (key_space AlwaysLatchKey)) h
always_open InitialWord es b p w h = open_free (stands _ (key_space InitialKey)) h
