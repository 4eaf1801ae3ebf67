use Rattle.std.proofs.Common.{◌≡◌, ℕ, ◌++◌, List, take, map}
use Rattle.rv_code.specs.declared.image.Range.{Range}
use Rattle.flow_graph.specs.Marks.{marks_of}
use Rattle.flow_graph.proofs.marks.mark_starts.Given as goal

abbrev pub invariant-loop-range : goal.invariant-loop-range
invariant-loop-range l =
    (addresses : List ℕ) → l.initial.marks ≡ marks_of l.ranges addresses
    → l.marks ≡ marks_of l.ranges (addresses ++ map (λ (range : Range). range.start) (take l.range-index l.ranges))
