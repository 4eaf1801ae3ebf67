use Rattle.std.proofs.Common.{◌≡◌, ◌⊎◌, ℕ, ◌<◌, ◌≤◌, Bool, List, length}
use Rattle.flow_tree.specs.Inner.Cells.{HaveEdges, IsSettled, Remains}
use Rattle.flow_tree.proofs.cells.settle.Given as goal

abbrev pub invariant-loop-cells : goal.invariant-loop-cells
invariant-loop-cells l = record {
  cells : HaveEdges l.edges l.cells l.count;
  within : l.at < length l.cells;
  remains : (marks : List Bool) → Remains l.edges marks l.stays l.fn.cells l.fn.left → Remains l.edges marks l.stays l.cells l.count;
  settled : ((other : ℕ) → other < l.block → IsSettled l.stays l.fn.cells other) → (other : ℕ) → other ≤ l.block → (other ≡ l.at) ⊎ IsSettled l.stays l.cells other;
}

abbrev pub decreases-loop-cells : goal.decreases-loop-cells
decreases-loop-cells l = l.count
