use Rattle.std.proofs.Common.{◌≡◌, Some, Err, string_bytes, subst}
use Rattle.vast_core.specs.FileTree.{tree}
use Rattle.vast_literal.specs.Tree.{FileTree}
use Rattle.vast_literal.specs.declared.error.VastError.{VastError}
use Rattle.vast_literal.specs.declared.error.VastFault.{VastFault}
use Rattle.vast_literal.specs.declared.error.VastFault.TheVariants.{Refused}
use Rattle.vast_print.specs.Emits.{Emits, words_of}
use Rattle.vast_print.specs.Layout.{layout}
use Rattle.vast_session.proofs.session.Session.text.Goals as goal

-- A refusal is told in its words.
in_words : (file : FileTree) (fault : VastFault) (error : VastError) → fault ≡ Refused error → Emits (layout file) (Err fault) → words_of (layout file).fault ≡ Some (string_bytes error.0)
in_words file fault error is h = subst (λ (f : VastFault). Emits (layout file) (Err f)) is h

pub returns-in_ok-refused_text-in-Err-Refused-clause-refused : goal.returns-in_ok-refused_text-in-Err-Refused-clause-refused
returns-in_ok-refused_text-in-Err-Refused-clause-refused c = (
  c.in-Err-Refused.error,
  c.in_ok-refused_text-in-Err-Refused.ensures.cause,
  in_words (tree c.args.self.now.file) c.in-Err-Refused.field-0 c.in-Err-Refused.error c.in-Err-Refused.field-0-is c.in-Err-Refused.ensures.text,
  c.in_ok-refused_text-in-Err-Refused.ensures.words,
)
