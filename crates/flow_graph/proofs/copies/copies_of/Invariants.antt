use Rattle.std.proofs.Common.{◌≡◌, take}
use Rattle.flow_graph.proofs.copies.copies_of.Given as goal

abbrev pub invariant-loop-range : goal.invariant-loop-range
invariant-loop-range l = l.copies.items ≡ take l.range-index l.ranges
