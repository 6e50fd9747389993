-- Lengths of lists that are read off others.
use Rattle.std.proofs.lemmas.List.{length-map, map-append}
use Rattle.vast_core.proofs.NodeLaws.{built-length}

pub ruleset lengths = (length-map, map-append, built-length)
