use Rattle.std.proofs.Common.{take}
use Rattle.flow_tree.specs.Inner.Farthest.{AreFarthest}
use Rattle.flow_tree.proofs.farthest.farthest_sources.Given as goal

abbrev pub invariant-loop-edge : goal.invariant-loop-edge
invariant-loop-edge l = AreFarthest l.graph (take l.edge-index l.edge-items) l.sources
