use Rattle.flow_tree.specs.Inner.Cells.{IsFilled}
use Rattle.flow_tree.proofs.cells.fill.Given as goal

abbrev pub invariant-loop-number : goal.invariant-loop-number
invariant-loop-number l = IsFilled l.edges l.witness l.cells l.number l.left
