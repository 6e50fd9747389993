use Rattle.std.proofs.Common.{◌≡◌, ◌≤◌, ◌<◌, ◌-◌, ◌+◌, ℕ, [], length, get_or, slice_index, ⊎_elim, arith, rules, sym, ◌∙◌, ap, Some}
use Rattle.std.proofs.lemmas.List.{get_or_read, get_or_past}
use Rattle.std.proofs.lemmas.Option.{slice_get-get_or}
use Rattle.std.proofs.lemmas.Bool.{true≢false}
use Rattle.std.proofs.lemmas.Bool.Decides.{Decides-eqb}
use Rattle.std.proofs.lemmas.Slice.Eq.{slice_eq-Decides}
use Rattle.vast_names.specs.Internal.Hash.{slot_among}
use Rattle.vast_names.specs.Internal.Texts.{texts_of}
use Rattle.vast_names.specs.Internal.Index.{Reaches}
use Rattle.vast_names.proofs.Filing.{reaches-case, reaches-none}
use Rattle.vast_names.proofs.index.Index.find_in_chain.Goals as goal

pub returns-then-is_empty-clause-none : goal.returns-then-is_empty-clause-none
returns-then-is_empty-clause-none c = λ n k r l e.
    let heads = c.args.self.now.heads.items in
    let none : length heads ≡ 0 = search rules in
    reaches-none c.args.self.now.links.items (slice_index heads (slot_among (length heads) c.args.name.now)) k (get_or_past heads (slot_among (length heads) c.args.name.now) 0 (omega arith)) r

pub returns-then-eq-clause-some : goal.returns-then-eq-clause-some
returns-then-eq-clause-some c =
    let texts = texts_of c.args.texts.now in
    let at : c.loop-cursor.cursor - 1 < length texts = search rules in
    let same : c.get.result.now ≡ c.args.name.now = (slice_eq-Decides Decides-eqb _ _ _ c.eq.ensures).0 c.if-eq.true in
    slice_get-get_or texts (c.loop-cursor.cursor - 1) [] at ∙ ap Some (sym c.get.ensures ∙ same)

pub loop-cursor-preserved : goal.loop-cursor-preserved
loop-cursor-preserved c =
    let texts = texts_of c.args.texts.now in
    let links = c.args.self.now.links.items in
    let at = c.loop-cursor.cursor - 1 in
    let within : at < length links = omega (arith, c.loop-cursor.invariant.within, c.loop-cursor-test.true) in
    let next : c.index-cursor-in-loop-cursor.result.now ≡ slice_index links at = get_or_read links at c.index-cursor-in-loop-cursor.result.now within c.index-cursor-in-loop-cursor.ensures 0 in
    let other : c.get.result.now ≡ c.args.name.now → ⊥ = λ same. true≢false (sym ((slice_eq-Decides Decides-eqb _ _ _ c.eq.ensures).1 same) ∙ c.if-eq.false) in
    record {
      within = omega (arith, next, c.requires.files.sound.older at within);
      ahead = λ k r l e.
          ⊎_elim
          (λ (here : c.loop-cursor.cursor ≡ k + 1).
          let there : at ≡ k = omega arith in
          absurd (other (c.get.ensures ∙ ap (λ (i : ℕ). get_or texts i []) there ∙ e)))
          (λ (further : (0 < c.loop-cursor.cursor) × (c.loop-cursor.cursor ≤ length links) × Reaches links (slice_index links at) k). rw next further.2)
          (reaches-case links c.loop-cursor.cursor k (c.loop-cursor.invariant.ahead k r l e));
    }
