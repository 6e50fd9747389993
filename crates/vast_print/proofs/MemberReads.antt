-- The page of a plain member has the tokens that the grammar reads.
use Rattle.std.proofs.Common.{◌≡◌, ℕ, List, [], ◌∷◌, ◌++◌, Bool, true, false, refl, append_assoc, codes}
use Rattle.vast_literal.specs.Tokens.{Token, key_text, Reserved, Operator, Mark}
use Rattle.vast_literal.specs.declared.token.Mark.TheVariants.{DoubleColon, Semicolon}
use Rattle.vast_literal.specs.declared.token.Sign.TheVariants.{Times}
use Rattle.vast_literal.specs.Plain.{is_plain_name}
use Rattle.vast_literal.specs.Scan.{scan}
use Rattle.vast_literal.specs.Shape.{import_words}
use Rattle.vast_literal.specs.declared.token.Key.TheVariants.{End as EndKey, Parameter as ParameterKey, Localparam as LocalparamKey, Int as IntKey, Import as ImportKey}
use Rattle.vast_literal.specs.declared.kind.VastFileType.{VastFileType as Dialect}
use Rattle.vast_literal.specs.Tree.{ParameterName, PlainParameter, IntParameter, DefinedParameter, ConditionalTree, MemberTree, DeclarationMember, AssignMember, ParameterMember, CommentMember, BlankMember, ImportMember, TypedefMember, InlineMember, MacroMember, InstanceMember, AlwaysMember, ConditionalMember, FunctionMember, LoopMember, Members, NoMembers, MoreMembers}
use Rattle.vast_literal.specs.declared.kind.AssignmentForm.TheVariants.{Continuous}
use Rattle.vast_literal.specs.PlainFile.{is_plain_parameter_name, is_plain_member, are_plain_members}
use Rattle.vast_literal.specs.WellFormedFile.{is_well_formed_parameter_name, is_well_formed_member, are_well_formed_members}
use Rattle.vast_literal.specs.NormalTree.{parameter_key}
use Rattle.vast_literal.proofs.FileTokens.{parameter_name_tokens, semicolon_tokens, member_tokens, members_tokens, statement_tokens}
use Rattle.vast_literal.proofs.TokenReads.{Free, Divides, Reads}
use Rattle.vast_print.proofs.FaultLaws.{halves}
use Rattle.vast_literal.proofs.Words.{key_reads, name_reads}
use Rattle.vast_print.specs.Printed.{Printed, plain_text, ◌⊕◌}
use Rattle.vast_print.specs.Members.{parameter_word, parameter_text, semicolon_text, import_text, member_page, members_page}
use Rattle.vast_print.proofs.TextReads.{Prints, printed_assoc, leftward, stands, rest_none, after, closed, enclosing, goes_on}
use Rattle.vast_print.proofs.ExprReads.{expr_reads}
use Rattle.vast_print.proofs.StatementReads.{statements_whole, block_open, assignment_open, statement_whole}
use Rattle.vast_print.proofs.PageReads.{Whole, page_regrouped, whole_above, whole_inner, whole_none, whole, whole_line, whole_written, whole_blank, equals, semicolon, key_space, whole_comment}
use Rattle.vast_print.specs.Statements.{statement_page}
use Rattle.vast_print.proofs.InstanceReads.{instance_whole, always_open}
use Rattle.vast_print.proofs.FunctionReads.{declared_reads, function_whole}
use Rattle.vast_print.proofs.LoopReads.{loop_reads}
use Rattle.vast_print.proofs.TypedefReads.{typedef_whole}

parameter_free : (local : Bool) → Free (parameter_word local) (Reserved (parameter_key local) ∷ [])
unfolding parameter_key key_text
parameter_free true = key_space LocalparamKey
parameter_free false = key_space ParameterKey

parameter_name_reads : (dialect : Dialect) (n : ParameterName) → is_plain_parameter_name n ≡ true → is_well_formed_parameter_name n ≡ true → Prints Reads (parameter_text dialect n) (parameter_name_tokens dialect n)
unfolding parameter_name_tokens key_text
parameter_name_reads dialect (PlainParameter n) p w = stands _ (name_reads n p)
parameter_name_reads dialect (IntParameter n) p w = after (stands _ (key_space IntKey)) (stands _ (name_reads n p))
parameter_name_reads dialect (DefinedParameter d) p w = declared_reads dialect d p w

macro_ends : (s : Bool) {p : Printed} {ts : List Token} → Prints Reads p ts → Prints Reads (p ⊕ plain_text (semicolon_text s)) (ts ++ semicolon_tokens s)
macro_ends true r = closed r semicolon
macro_ends false r = goes_on r rest_none

-- imports

import_end : Divides (codes "::*;") (Mark DoubleColon ∷ Operator Times ∷ Mark Semicolon ∷ [])
unfolding scan
import_end = record { free = record { at = λ rest. refl }; stop = λ rest. refl }

pub import_reads : (package_name : List ℕ) → is_plain_name package_name ≡ true → Prints Reads (import_text package_name) (import_words package_name)
unfolding import_text key_text
import_reads package_name h = leftward _ _ _ (after (stands _ (key_space ImportKey)) (closed (stands _ (name_reads package_name h)) import_end))

mutual
  unfolding statement_page statement_tokens member_page member_tokens key_text

  -- The page of a plain, well-formed member that is printed without a refusal brings its tokens.
  pub member_whole : (dialect : Dialect) (m : MemberTree) → is_plain_member m ≡ true → is_well_formed_member m ≡ true → Whole (member_page dialect m) (member_tokens dialect m)
  member_whole dialect (DeclarationMember d) p w = whole_written (closed (declared_reads dialect d (search halves) (search halves)) semicolon)
  member_whole dialect (AssignMember l r) p w = whole (assignment_open Continuous l r p w)
  member_whole dialect (ParameterMember local n v) p w = whole_written (simp printed_assoc (after (stands _ (parameter_free local)) (enclosing (parameter_name_reads dialect n (search halves) (search halves)) equals
      (expr_reads v (search halves) (search halves)) semicolon)))
  member_whole dialect (CommentMember text) p w = whole_comment text
  member_whole dialect BlankMember p w = whole_blank
  member_whole dialect (ImportMember package_name) p w = whole_written (import_reads package_name p)
  member_whole dialect (TypedefMember t) p w = typedef_whole dialect t p w
  member_whole dialect (InlineMember text) p w = absurd (cc p)
  member_whole dialect (MacroMember e s) p w = whole_written (macro_ends s (expr_reads e p (search halves)))
  member_whole dialect (InstanceMember i) p w = instance_whole i p w
  member_whole dialect (AlwaysMember word es b) p w =
      whole (always_open word es b (search halves) (search halves) (block_open b (statements_whole b (search halves) (search halves))))
  member_whole dialect (ConditionalMember c b rest) p w = statement_whole (ConditionalTree c b rest) p w
  member_whole dialect (FunctionMember g) p w = function_whole dialect g p w
  member_whole dialect (LoopMember i s e l ms) p w =
      page_regrouped (whole_above (whole_written (loop_reads i s e l (search halves) (search halves) (expr_reads s (search halves) (search halves)) (expr_reads e (search halves) (search halves))))
      (whole_above (whole_inner (members_whole dialect ms (search halves) (search halves))) (whole_line (key_reads EndKey)))) (simp append_assoc)

  pub members_whole : (dialect : Dialect) (ms : Members) → are_plain_members ms ≡ true → are_well_formed_members ms ≡ true → Whole (members_page dialect ms) (members_tokens dialect ms)
  members_whole dialect NoMembers p w = whole_none
  members_whole dialect (MoreMembers m ms) p w =
      whole_above (member_whole dialect m (search halves) (search halves)) (members_whole dialect ms (search halves) (search halves))
