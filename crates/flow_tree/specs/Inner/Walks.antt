-- Walking along the only path that is left.
use Rattle.std.specs.Prelude.{◌≢◌, ◌<◌, ℕ, Bool, List, length}
use Rattle.flow_graph.specs.declared.edge.Edge.{Edge}
use Rattle.graph_paths.specs.Paths.{Path}
use Rattle.graph_paths.specs.Forests.{IsAmong, StandOnce, Trail}
use Rattle.flow_tree.specs.declared.cells.Cell.{Cell}
use Rattle.flow_tree.specs.WitnessEdges.{Joins, IsUnmarked}
use Rattle.flow_tree.specs.Inner.Cells.{AreCells, IsLeaf}

-- A path was walked from one block to another, and what is left of the edges that aren't marked leads on to a third. No other block is a
-- leaf.
pub record IsWalked (edges : List Edge) (marks : List Bool) (cells : List Cell) (path : List ℕ) (from at to : ℕ) : Type 0 where
  pub rest : List ℕ
  pub held : AreCells edges rest cells
  pub within : (number : ℕ) → IsAmong rest number → IsUnmarked marks number
  pub onward : Path (Joins edges) (IsAmong rest) at to
  pub settled : (block : ℕ) → block < length cells → block ≢ at → block ≢ to → IsLeaf cells block → ⊥
  pub trail : Trail (Joins edges) path from at
  pub once : StandOnce path
  pub walked : (number : ℕ) → IsAmong path number → IsUnmarked marks number
  pub apart : (number : ℕ) → IsAmong path number → IsAmong rest number → ⊥
