-- How the rows of edges come about.
use Rattle.std.specs.Prelude.{◌≡◌, ◌≢◌, ◌<◌, ◌++◌, ℕ, List, [], ◌∷◌}
use Rattle.std.specs.declared.alloc.Global.{Global}
use Rattle.std.specs.declared.vec.Vec.{Vec}
use Rattle.flow_graph.specs.declared.edge.Edge.{Edge}
use Rattle.graph_paths.specs.Forests.{IsAmong}
use Rattle.flow_tree.specs.WitnessEdges.{Joins}
use Rattle.flow_tree.specs.Inner.Growing.{row_of}

-- the block's row has one edge more, and the others are as before
pub record PutsInRow (old new : List (Vec ℕ Global)) (block number : ℕ) : Type 0 where
  pub here : row_of new block ≡ row_of old block ++ number ∷ []
  pub others : (other : ℕ) → other ≢ block → row_of new other ≡ row_of old other

-- the edges of lower numbers are in the rows of the blocks that they join, and only those
pub record HaveJoined (edges : List Edge) (rows : List (Vec ℕ Global)) (count : ℕ) : Type 0 where
  pub each : (number one other : ℕ) → number < count → Joins edges number one other → IsAmong (row_of rows one) number
  pub within : (block number : ℕ) → IsAmong (row_of rows block) number → number < count
