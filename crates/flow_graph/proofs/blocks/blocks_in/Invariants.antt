use Rattle.std.proofs.Common.{◌≡◌, ℕ, List}
use Rattle.flow_graph.specs.Leaders.{starts_in}
use Rattle.flow_graph.specs.Marks.{marks_of}
use Rattle.flow_graph.proofs.Turns.{Met}
use Rattle.flow_graph.proofs.blocks.blocks_in.Given as goal

abbrev pub invariant-loop-place : goal.invariant-loop-place
invariant-loop-place l =
    (entry : ℕ) (named functions : List ℕ) → l.marks ≡ marks_of l.ranges (starts_in l.ranges entry named functions)
    → Met l.ranges entry named functions l.place l.blocks.items l.leader
