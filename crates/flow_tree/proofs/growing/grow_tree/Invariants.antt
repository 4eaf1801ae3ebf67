use Rattle.std.proofs.Common.{◌+◌, length}
use Rattle.flow_tree.specs.Inner.Growing.{IsGrown, IsGrowing, StaysGrown, rows_left}
use Rattle.flow_tree.proofs.growing.grow_tree.Given as goal

abbrev pub invariant-loop-first : goal.invariant-loop-first
invariant-loop-first l = record {
  growing : IsGrowing l.edges l.weights l.grown l.witness l.waiting l.root;
  stays : StaysGrown l.fn.grown l.grown;
  root : IsGrown l.grown l.root;
}

abbrev pub decreases-loop-first : goal.decreases-loop-first
decreases-loop-first l = length l.waiting + rows_left l.rows l.grown
