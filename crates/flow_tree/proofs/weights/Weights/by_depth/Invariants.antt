use Rattle.std.proofs.Common.{◌≡◌, map, take}
use Rattle.flow_tree.specs.Weight.{weight_by_depth}
use Rattle.flow_tree.proofs.weights.Weights.by_depth.Given as goal

abbrev pub invariant-loop-edge : goal.invariant-loop-edge
invariant-loop-edge l = l.table.items ≡ map (weight_by_depth l.graph) (take l.edge-index l.edge-items)
