use Rattle.std.proofs.Common.{take}
use Rattle.regen_path.specs.Inner.Spots.{AreSpotsBy}
use Rattle.regen_path.proofs.paths.spots_of.Given as goal

abbrev pub invariant-loop-node : goal.invariant-loop-node
invariant-loop-node l = AreSpotsBy (take l.node l.ways) l.numbers l.heights l.spots.items
