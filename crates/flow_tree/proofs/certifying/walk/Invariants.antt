use Rattle.std.proofs.Common.{◌-◌, length}
use Rattle.flow_tree.specs.Inner.Walks.{IsWalked}
use Rattle.flow_tree.proofs.certifying.walk.Given as goal

abbrev pub invariant-loop-at : goal.invariant-loop-at
invariant-loop-at l = IsWalked l.edges l.witness l.cells l.path.items l.from l.at l.to

abbrev pub decreases-loop-at : goal.decreases-loop-at
decreases-loop-at l = length l.edges - length l.path.items
