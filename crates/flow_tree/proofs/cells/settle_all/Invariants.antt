use Rattle.std.proofs.Common.{ℕ, ◌<◌, Bool, List}
use Rattle.flow_tree.specs.Inner.Cells.{HaveEdges, IsSettled, Remains}
use Rattle.flow_tree.proofs.cells.settle_all.Given as goal

abbrev pub invariant-loop-block : goal.invariant-loop-block
invariant-loop-block l = record {
  cells : HaveEdges l.edges l.cells l.count;
  remains : (marks : List Bool) → Remains l.edges marks l.stays l.fn.cells l.fn.left → Remains l.edges marks l.stays l.cells l.count;
  settled : (other : ℕ) → other < l.block → IsSettled l.stays l.cells other;
}
