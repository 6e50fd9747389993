use Rattle.std.proofs.Common.{◌≡◌, drop, map}
use Rattle.vast_core.specs.Bench.{trees_of}
use Rattle.xlsynth_vast.specs.Conditions.{each_usable}
use Rattle.xlsynth_vast.proofs.file.VastFile.each_is_usable.Given as goal

-- Those that were passed are usable.
abbrev pub invariant-loop-size : goal.invariant-loop-size
invariant-loop-size l = each_usable (trees_of l.self (map (λ e. e.now) (drop l.size-index l.dimensions))) ≡ each_usable (trees_of l.self (map (λ e. e.now) l.dimensions))
