use Rattle.std.proofs.Common.{◌≡◌, ◌+◌, ◌<◌, ℕ, List, [], ◌∷◌, ◌++◌, take, length, get_or}
use Rattle.std.proofs.lemmas.List.{get_or_default, take_more}
use Rattle.std.proofs.lemmas.List.Elements.{All-push}
use Rattle.vast_core.specs.Bench.{Bench}
use Rattle.xlsynth_vast.specs.declared.helpers.registers.RegisterDefinition.{RegisterDefinition}
use Rattle.xlsynth_vast.specs.Registers.{OwnsRegister}
use Rattle.vast_script.specs.declared.answer.Answer.{Answer}
use Rattle.vast_calls.specs.declared.helpers.RegisterNumbers.{RegisterNumbers}
use Rattle.vast_session.specs.Helpers.{NamesRegister, NamesRegisters}
use Rattle.vast_session.proofs.helpers.registers.definitions.Goals as goal

names-more :
    (b : Bench) (answers : List Answer) (ns : List RegisterNumbers) (n : RegisterNumbers) (rs : List RegisterDefinition) (r : RegisterDefinition) →
    NamesRegisters b answers ns rs → NamesRegister b answers n r → NamesRegisters b answers (ns ++ n ∷ []) (rs ++ r ∷ [])
names-more b answers [] n [] r h k = (k, tt)
names-more b answers [] n (q ∷ rs) r h k = absurd h
names-more b answers (m ∷ ns) n [] r h k = absurd h
names-more b answers (m ∷ ns) n (q ∷ rs) r h k = (h.0, names-more b answers ns n rs r h.1 k)

names-next :
    (b : Bench) (answers : List Answer) (ns : List RegisterNumbers) (i : ℕ) (n : RegisterNumbers) (rs : List RegisterDefinition) (r : RegisterDefinition) → i < length ns → n ≡ get_or ns i n →
    NamesRegisters b answers (take i ns) rs → NamesRegister b answers n r → NamesRegisters b answers (take (i + 1) ns) (rs ++ r ∷ [])
names-next b answers ns i n rs r l at h k = rw (take_more ns i n l, ← at) (names-more b answers (take i ns) n rs r h k)

pub loop-register-preserved : goal.loop-register-preserved
loop-register-preserved c =
    let inside = c.loop-register-test.true in
    let i = c.loop-register.register-index in
    let made = c.loop-register.made.items in
    let next = c.in_ok-register.register in
    rw c.in_ok-push.ensures.items (record {
      owned = All-push (OwnsRegister c.args.file.now) made next c.loop-register.invariant.owned c.in_ok-register.ensures.owned;
      named = names-next c.args.file.now c.args.answers.now c.args.registers.now i _ made next inside (get_or_default c.args.registers.now i _ _ inside) c.loop-register.invariant.named c.in_ok-register.ensures.named;
    })
