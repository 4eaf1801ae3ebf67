use Rattle.std.proofs.Common.{◌≡◌, ℕ, List, take}
use Rattle.std.specs.Prelude.{flat_map}
use Rattle.std.specs.List.{enumerate_from}
use Rattle.flow_graph.specs.Edges.{edges_from}
use Rattle.flow_graph.specs.Numbers.{AreNumbers}
use Rattle.flow_graph.proofs.edges.edges_in.Given as goal

abbrev pub invariant-loop-number : goal.invariant-loop-number
invariant-loop-number l =
    (starts : List ℕ) → AreNumbers l.ranges starts l.numbers → l.edges.items ≡ flat_map (edges_from l.ranges starts) (enumerate_from 0 (take l.number l.blocks))
