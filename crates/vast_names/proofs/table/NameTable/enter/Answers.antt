use Rattle.std.proofs.Common.{rules}
use Rattle.std.proofs.lemmas.List.Elements.{All-push}
use Rattle.std.specs.Str.{IsUtf8}
use Rattle.vast_names.specs.Internal.Texts.{texts_of}
use Rattle.vast_names.proofs.table.NameTable.enter.Goals as goal

pub invariant_of-self : goal.invariant_of-self
invariant_of-self c =
    record {
      cut = c.make_room.ensures.cut;
      text = rw c.make_room.ensures.texts c.self.invariant.text;
      files = rw c.make_room.ensures.texts c.self.invariant.files;
    }

pub make_slots-requires-clause-text : goal.make_slots-requires-clause-text
make_slots-requires-clause-text c = rw c.make_room.ensures.texts c.self.invariant.text

pub invariant_of-self-in_err-make_slots : goal.invariant_of-self-in_err-make_slots
invariant_of-self-in_err-make_slots c =
    record {
      cut = c.make_room.ensures.cut;
      text = rw c.make_room.ensures.texts c.self.invariant.text;
      files = c.make_slots.ensures.files;
    }

pub invariant_of-self-in_err-file : goal.invariant_of-self-in_err-file
invariant_of-self-in_err-file c =
    record {
      cut = c.make_room.ensures.cut;
      text = rw c.make_room.ensures.texts c.self.invariant.text;
      files = c.in_err-file.ensures.err (texts_of c.make_room.new.self) c.make_slots.ensures.files;
    }

pub invariant_of-self-2 : goal.invariant_of-self-2
invariant_of-self-2 c =
    record {
      cut = c.push.ensures.cut;
      text = rw (c.push.ensures.texts, c.make_room.ensures.texts) (All-push IsUtf8 (texts_of c.self.inside.texts) c.as_bytes-name.result.now c.self.invariant.text (search rules));
      files = rw c.push.ensures.texts (c.in_ok-file.ensures.ok (texts_of c.make_room.new.self) c.make_slots.ensures.files);
    }
