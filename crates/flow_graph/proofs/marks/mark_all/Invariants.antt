use Rattle.std.proofs.Common.{◌≡◌, ℕ, ◌++◌, List, take}
use Rattle.flow_graph.specs.Marks.{marks_of}
use Rattle.flow_graph.proofs.marks.mark_all.Given as goal

abbrev pub invariant-loop-address : goal.invariant-loop-address
invariant-loop-address l = (addresses : List ℕ) → l.initial.marks ≡ marks_of l.ranges addresses → l.marks ≡ marks_of l.ranges (addresses ++ take l.address-index l.more)
