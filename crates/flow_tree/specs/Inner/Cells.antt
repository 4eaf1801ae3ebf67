-- One cell a block, for edges that remain: how many ends they have at the block, and the sum of the numbers of these edges.
use Rattle.std.specs.Prelude.{◌≡◌, ◌≢◌, ◌⊎◌, ◌+◌, ◌*◌, ◌<◌, ◌≤◌, ℕ, Bool, List, length, Some, slice_get, sum_by, if◌then◌else◌, ◌==◌}
use Rattle.std.specs.Option.{option_map_or}
use Rattle.flow_graph.specs.declared.edge.Edge.{Edge}
use Rattle.graph_paths.specs.Paths.{Path}
use Rattle.graph_paths.specs.Forests.{HasNoCycle, IsAmong, StandOnce}
use Rattle.flow_tree.specs.declared.cells.Cell.{Cell}
use Rattle.flow_tree.specs.WitnessEdges.{LeadsTo, Joins, IsUnmarked}

-- the ends that the edge with a number has at a block: two, where it leads from there to there
abbrev pub end_count : List Edge → (block number : ℕ) → ℕ
end_count edges block number =
    option_map_or
    (λ (edge : Edge). (if edge.source == block then 1 else 0) + option_map_or (λ (to : ℕ). if to == block then 1 else 0) edge.to 0)
    (slice_get edges number) 0

-- what a block's cell holds
abbrev pub cell_of : List Edge → (rest : List ℕ) → (block : ℕ) → Cell
cell_of edges rest block =
    record { count = sum_by (end_count edges block) rest; sum = sum_by (λ (number : ℕ). end_count edges block number * number) rest }

-- the cells hold what is to be known of these edges, none of which leaves
pub record AreCells (edges : List Edge) (rest : List ℕ) (cells : List Cell) : Type 0 where
  pub once : StandOnce rest
  pub inner : (number : ℕ) → IsAmong rest number → (from : ℕ) × (to : ℕ) × LeadsTo edges number from to
  pub each : (block : ℕ) → block < length cells → slice_get cells block ≡ Some (cell_of edges rest block)

-- the cells hold what is to be known of so many edges
pub record HaveEdges (edges : List Edge) (cells : List Cell) (left : ℕ) : Type 0 where
  pub rest : List ℕ
  pub held : AreCells edges rest cells
  pub count : left ≡ length rest

-- the cells hold what is to be known of the edges of lower numbers that aren't marked, and there are so many
pub record IsFilled (edges : List Edge) (marks : List Bool) (cells : List Cell) (number left : ℕ) : Type 0 where
  pub rest : List ℕ
  pub held : AreCells edges rest cells
  pub count : left ≡ length rest
  pub few : length rest ≤ number
  pub among : (edge : ℕ) → IsAmong rest edge → (edge < number) × IsUnmarked marks edge
  pub back : (edge : ℕ) → edge < number → IsUnmarked marks edge → IsAmong rest edge

-- one edge has an end at the block
abbrev pub IsLeaf : List Cell → (block : ℕ) → Type 0
IsLeaf cells block = (sum : ℕ) × (slice_get cells block ≡ Some (record { count = 1; sum = sum }))

-- the cells without the only edge that has an end at a block: it joins the block to another
pub record Strips (edges : List Edge) (rest : List ℕ) (cells : List Cell) (leaf far : ℕ) : Type 0 where
  pub number : ℕ
  pub is : IsAmong rest number
  pub joined : Joins edges number leaf far
  pub fewer : List ℕ
  pub within : (other : ℕ) → IsAmong fewer other → IsAmong rest other × (other ≢ number)
  pub back : (other : ℕ) → IsAmong rest other → (other ≡ number) ⊎ IsAmong fewer other
  pub count : length rest ≡ length fewer + 1
  pub held : AreCells edges fewer cells
  pub sum : (weight : ℕ → ℕ) → sum_by weight rest ≡ weight number + sum_by weight fewer
  pub differ : far ≢ leaf
  pub others : (block : ℕ) → block ≢ leaf → block ≢ far → end_count edges block number ≡ 0
  pub bare : (other one : ℕ) → IsAmong fewer other → Joins edges other leaf one → ⊥

-- What is left of the edges that aren't marked, where leaves were taken off, but no blocks that stay: it has a cycle where all have one,
-- and joins the blocks that stay where all join them.
pub record Remains (edges : List Edge) (marks : List Bool) (stays : List ℕ) (cells : List Cell) (left : ℕ) : Type 0 where
  pub rest : List ℕ
  pub held : AreCells edges rest cells
  pub count : left ≡ length rest
  pub within : (number : ℕ) → IsAmong rest number → IsUnmarked marks number
  pub acyclic : HasNoCycle (Joins edges) (IsAmong rest) → HasNoCycle (Joins edges) (IsUnmarked marks)
  pub joined : (one other : ℕ) → IsAmong stays one → IsAmong stays other → Path (Joins edges) (IsUnmarked marks) one other → Path (Joins edges) (IsAmong rest) one other

-- the block stays, or is no leaf
abbrev pub IsSettled : (stays : List ℕ) → List Cell → (block : ℕ) → Type 0
IsSettled stays cells block = IsAmong stays block ⊎ (IsLeaf cells block → ⊥)
