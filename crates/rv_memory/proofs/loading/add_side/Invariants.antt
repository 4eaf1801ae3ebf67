use Rattle.std.proofs.Common.{◌≡◌, ◌++◌, map, take}
use Rattle.rv_memory.specs.Stretches.{stretch_of}
use Rattle.rv_memory.specs.Inner.Sides.{on_side}
use Rattle.rv_memory.proofs.loading.add_side.Given as goal

abbrev pub invariant-loop-region : goal.invariant-loop-region
invariant-loop-region l = l.stretches.items ≡ l.initial.stretches.items ++ map stretch_of (on_side l.below (take l.region-index l.regions))
