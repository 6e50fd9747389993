-- The lines that follow the text of a list's file.
use Rattle.std.proofs.Common.{◌≡◌, ℕ, List, Option, Some, None, Result, Ok, Err, refl, sym, subst, ◌∙◌}
use Rattle.std.specs.Prelude.{IfOk, IsTrue}
use Rattle.std.specs.declared.alloc.AllocError.{AllocError}
use Rattle.vast_core.specs.FileTree.{tree}
use Rattle.vast_literal.specs.Tree.{FileTree}
use Rattle.vast_literal.specs.declared.kind.VastFileType.{VastFileType}
use Rattle.vast_list.specs.declared.answering.ListRun.{ListRun}
use Rattle.vast_list.specs.declared.origins.Origins.{Origins}
use Rattle.vast_list.specs.declared.origins.TextLine.{TextLine}
use Rattle.vast_list.specs.declared.output.Verdict.{Verdict}
use Rattle.vast_list.specs.declared.tries.Tries.TheVariants.{Once}
use Rattle.vast_calls.specs.Lines.{BeginsWithDialect}
use Rattle.vast_list.specs.Origins.{IsMapped, text_of}
use Rattle.vast_list.specs.Output.{is_made}
use Rattle.vast_session.specs.Session.{IsTextOf}
use Rattle.vast_list.specs.Internal.Origins.{IsMapOfFile}
use Rattle.vast_list.specs.Internal.Output.{IsAnswered}
use Rattle.vast_list.proofs.Outputs.{list_text}

pub followed_text : (file : FileTree) (lines : List TextLine) (text bytes : List ℕ) → IsTextOf file text → bytes ≡ text → text_of lines ≡ bytes → IsTextOf file (text_of lines)
followed_text file lines text bytes t b l = subst (λ (xs : List ℕ). IsTextOf file xs) (sym (l ∙ b)) t

pub mapped :
    (lines behind : List (List ℕ)) (dialect : VastFileType) (answering : ListRun) (found : Option Origins) (verdict : Verdict) → BeginsWithDialect lines dialect behind → IsAnswered Once dialect behind answering →
    IsMapOfFile answering found verdict → IsMapped lines found verdict
mapped lines behind dialect answering None verdict begun answered is = (tt, λ made. absurd (cc (sym is ∙ made)))
mapped lines behind dialect answering (Some origins) verdict begun answered (is, same) = (
  record {
    file = (tree answering.session.file, is.0, is.1);
    list = λ made. list_text Once lines behind dialect answering (text_of origins.lines.items) begun answered (subst (λ (v : Verdict). IsTrue (is_made v)) same made) is;
  },
  λ made. refl,
)

pub mapped_list :
    (lines behind : List (List ℕ)) (dialect : VastFileType) (answering : ListRun) (r : Result (Option Origins × Verdict) AllocError) → BeginsWithDialect lines dialect behind → IsAnswered Once dialect behind answering →
    IfOk r (λ (made : Option Origins × Verdict). IsMapOfFile answering made.0 made.1) → IfOk r (λ (made : Option Origins × Verdict). IsMapped lines made.0 made.1)
mapped_list lines behind dialect answering (Ok made) begun answered is = mapped lines behind dialect answering made.0 made.1 begun answered is
mapped_list lines behind dialect answering (Err e) begun answered is = tt

pub ruleset maps = (followed_text, mapped_list)
