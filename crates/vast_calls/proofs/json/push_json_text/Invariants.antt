use Rattle.std.proofs.Common.{◌≡◌, ◌∷◌, ◌++◌, string_bytes}
use Rattle.std.specs.Str.Iter.{chars_rest}
use Rattle.std.specs.List.{flat_map}
use Rattle.vast_calls.specs.Json.{escaped}
use Rattle.vast_calls.proofs.json.push_json_text.Given as goal

-- the text so far, with what is left escaped, is what was there, the opening quote and the whole content escaped
abbrev pub invariant-loop-character : goal.invariant-loop-character
invariant-loop-character l = string_bytes l.text ++ flat_map escaped (chars_rest l.character-iterator) ≡ string_bytes l.fn.text ++ 34 ∷ flat_map escaped l.content
