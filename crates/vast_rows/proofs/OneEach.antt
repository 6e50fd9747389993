-- Tokens spell one member at most, one statement and one declaration, since they stand in the tokens of one file; and a text is
-- derived from one file at most.
use Rattle.std.proofs.Common.{◌≡◌, ℕ, List, [], ◌∷◌, ◌++◌, codes, refl, sym, ap, subst, ◌∙◌}
use Rattle.std.proofs.lemmas.Option.{same_Some}
use Rattle.vast_literal.specs.FileGrammar.{no_items, more_items, empty, done, then, block_body, IsMember, unclocked, function, closed, and_member, no_header_parameters, no_ports, module_item, IsFile, file, DerivesFile, OneDeclaration, OneStatement, OneMember}
use Rattle.vast_literal.specs.NormalFile.{NormalMember, NormalMembers, NoParts, MoreParts, NormalItem, ModulePart, NormalFile}
use Rattle.vast_literal.specs.Tokens.{Token, Reserved, Word, Mark}
use Rattle.vast_literal.specs.declared.kind.AlwaysKind.TheVariants.{AlwaysComb as AlwaysCombWord}
use Rattle.vast_literal.specs.WorkedTexts.{module_of}
use Rattle.vast_literal.proofs.Longest.{lexes_scan}
use Rattle.vast_rows.specs.Numbers.{Semicolon, ModuleKey, EndModuleKey}
use Rattle.vast_rows.proofs.Bridge.{one_file}

-- A member alone in the module `m`.
pub in_module : (ts : List Token) (x : NormalMember) → IsMember ts x → IsFile ((Reserved ModuleKey ∷ (Word (codes "m") ∷ (Mark Semicolon ∷ (ts ++ (Reserved EndModuleKey ∷ []))))) ++ []) (module_of x)
in_module ts x d = file (more_items (module_item (codes "m") no_header_parameters no_ports (and_member d (closed EndModuleKey))) no_items)

abbrev members_of : List NormalItem → NormalMembers
members_of (ModulePart m ∷ items) = m.members
members_of _ = NoParts

pub one_member : OneMember
one_member = record {
  same = λ ts a b p q.
      let e : MoreParts a NoParts ≡ MoreParts b NoParts = ap (λ (f : NormalFile). members_of f.items) (one_file.same _ (module_of a) (module_of b) (in_module ts a p) (in_module ts b q)) in cc e;
}

-- A statement alone in a block, and a declaration of a function that does nothing.
pub one_statement : OneStatement
one_statement = record { same = λ ts a b p q. let e = one_member.same _ _ _ (unclocked AlwaysCombWord refl (then p done)) (unclocked AlwaysCombWord refl (then q done)) in cc e }

pub one_declaration : OneDeclaration
one_declaration = record { same = λ ts a b p q. let e = one_member.same _ _ _ (function p empty no_items (block_body done)) (function q empty no_items (block_body done)) in cc e }

pub file_once : (text : List ℕ) (a b : NormalFile) → DerivesFile text a → DerivesFile text b → a ≡ b
file_once text a b x y =
    let e : x.parts ≡ y.parts = same_Some _ _ (sym (lexes_scan text x.parts x.lexed) ∙ lexes_scan text y.parts y.lexed) in
    one_file.same y.parts a b (subst (λ (ts : List Token). IsFile ts a) e x.spelled) y.spelled
