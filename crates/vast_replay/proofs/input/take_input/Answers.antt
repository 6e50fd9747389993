use Rattle.std.proofs.Common.{◌≡◌, ◌≤◌, ℕ, List, IfSome, length, sym, ap, subst, ◌∙◌, arith}
use Rattle.vast_list.specs.PackedLists.{IsPackedText}
use Rattle.vast_replay.specs.Input.{GivesTaken, unmarked}
use Rattle.vast_replay.specs.Internal.Input.{GivesTextOf, ReadsOn}
use Rattle.vast_replay.specs.declared.input.InputLines.{InputLines}
use Rattle.vast_replay.specs.declared.input.ReadInput.TheVariants.{List as OneList}
use Rattle.vast_replay.proofs.Inputs.{long_taken, packed_taken, short_taken}
use Rattle.vast_replay.proofs.input.take_input.Goals as goal
use Rattle.vast_replay.proofs.input.take_input.Goals.{then-len-ge-FRONT_BYTES+in_ok-take_rest, else-len-ge-FRONT_BYTES}

pub returns-clause-taken : goal.returns-clause-taken
returns-clause-taken g c =
    let before = g.R.Read.remaining c.args.input.now in
    let between = g.R.Read.remaining c.read_front.new.input in
    let front = c.in_ok-front.front.items in
    let made = c.in_ok-finish.field-0 in
    let lines : c.without_mark-lines.result.now ≡ unmarked front = c.without_mark-lines.ensures ∙ ap unmarked c.deref-2.ensures.value in
    let reads = subst (ReadsOn c.empty-list.result c.take_bytes.new.self) lines c.in_ok-take_bytes.ensures in
    elim c.if-len-ge-FRONT_BYTES.branch [
      | then-len-ge-FRONT_BYTES+in_ok-take_rest w ↦
          let six : 6 ≤ length front = omega (arith, c.in_ok-front.front.ok.0, c.len.ensures, w.if-len-ge-FRONT_BYTES.true) in
          subst (λ input. GivesTaken before (g.R.Read.remaining input) (OneList made)) (sym w.input-is)
          (long_taken before between (g.R.Read.remaining w.take_rest.new.input) front c.empty-list.result c.take_bytes.new.self w.take_rest.new.self made six c.in_ok-front.ensures.bytes c.empty-list.ensures reads
          w.in_ok-take_rest.ensures.read c.in_ok-finish.ensures.printed (subst (λ (l : InputLines). GivesTextOf l made) w.list-is c.in_ok-finish.ensures.text))
      | else-len-ge-FRONT_BYTES w ↦
          subst (λ input. GivesTaken before (g.R.Read.remaining input) (OneList made)) (sym w.input-is)
          (short_taken before between front c.empty-list.result c.take_bytes.new.self made c.in_ok-front.ensures.bytes c.empty-list.ensures reads c.in_ok-finish.ensures.printed
          (subst (λ (l : InputLines). GivesTextOf l made) w.list-is c.in_ok-finish.ensures.text))
    ]

pub returns-then-is_packed_list-clause-taken : goal.returns-then-is_packed_list-clause-taken
returns-then-is_packed_list-clause-taken g c =
    let remaining = g.R.Read.remaining in
    let made = c.in_ok-packed_output.field-0 in
    let text = subst (λ (input : List ℕ). IfSome made.output (λ text. IsPackedText input text.items)) c.deref-then-is_packed_list.ensures.value c.in_ok-packed_output.ensures.text in
    packed_taken (remaining c.args.input.now) (remaining c.read_front.new.input) (remaining c.read_to_end.new.self) c.in_ok-front.front.items c.read_to_end.new.buf.items made c.in_ok-front.ensures.bytes c.read_to_end.ensures.appends
    c.read_to_end.ensures.none_lost c.in_ok-packed_output.ensures.printed text
