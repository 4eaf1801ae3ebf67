use Rattle.std.proofs.Common.{◌≡◌, ◌≤◌, ℕ, List, length}
use Rattle.flow_graph.specs.Leaders.{starts_in}
use Rattle.flow_graph.specs.Marks.{marks_of}
use Rattle.flow_graph.proofs.Counted.{Counted}
use Rattle.flow_graph.proofs.numbers.numbers_in.Given as goal

abbrev pub invariant-loop-place : goal.invariant-loop-place
invariant-loop-place l = record {
  cells : length l.numbers.items ≡ l.place;
  below : l.number ≤ l.place;
  counted : (entry : ℕ) (named functions : List ℕ) → l.marks ≡ marks_of l.ranges (starts_in l.ranges entry named functions)
      → Counted l.ranges (starts_in l.ranges entry named functions) l.place l.numbers.items l.number;
}
