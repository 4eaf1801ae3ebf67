use Rattle.std.proofs.Common.{◌++◌, map, take}
use Rattle.std.specs.List.Sorted.{IsPermutation}
use Rattle.flow_tree.specs.Inner.Growing.{ranked_of}
use Rattle.flow_tree.proofs.growing.wait_for.Given as goal

abbrev pub invariant-loop-number : goal.invariant-loop-number
invariant-loop-number l = IsPermutation (l.initial.waiting ++ map (ranked_of l.weights) (take l.number-index l.row)) l.waiting
