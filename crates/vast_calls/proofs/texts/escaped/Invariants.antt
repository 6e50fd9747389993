use Rattle.std.proofs.Common.{string_bytes}
use denote.Text.{Utf8}
use denote.Shadow.{shadow}
use Rattle.vast_calls.proofs.Quoted.{IsSoFar}
use Rattle.vast_calls.proofs.texts.escaped.Given as goal

abbrev pub invariant-loop : goal.invariant-loop
invariant-loop l = shadow (Utf8 l.rest) × IsSoFar l.quoted l.rest (string_bytes l.text)
