-- A forest that is grown block by block, and the rows of edges that it is grown by.
use Rattle.std.specs.Prelude.{◌≡◌, ◌⊎◌, ◌<◌, ℕ, Bool, true, false, List, [], length, Some, slice_get, slice_index, sum_by, if◌then◌else◌}
use Rattle.std.specs.List.{zip}
use Rattle.std.specs.Option.{option_map_or}
use Rattle.std.specs.declared.alloc.Global.{Global}
use Rattle.std.specs.declared.vec.Vec.{Vec}
use Rattle.flow_graph.specs.declared.edge.Edge.{Edge}
use Rattle.graph_paths.specs.Paths.{Path}
use Rattle.graph_paths.specs.Forests.{IsAmong}
use Rattle.flow_tree.specs.declared.waiting.Ranked.{Ranked}
use Rattle.flow_tree.specs.WitnessEdges.{Joins, IsWitness, IsUnmarked}

-- the edges of a block's row
abbrev pub row_of : List (Vec ℕ Global) → (block : ℕ) → List ℕ
row_of rows block = option_map_or (λ (row : Vec ℕ Global). row.items) (slice_get rows block) []

-- each block's row has the edges that join it
pub record AreRows (edges : List Edge) (rows : List (Vec ℕ Global)) : Type 0 where
  pub each : (number one other : ℕ) → Joins edges number one other → IsAmong (row_of rows one) number
  pub within : (block number : ℕ) → IsAmong (row_of rows block) number → number < length edges

-- the edge with its rank
abbrev pub ranked_of : (weights : List ℕ) → (number : ℕ) → Ranked
ranked_of weights number = record { weight = slice_index weights number; number = record { 0 = number } }

abbrev pub IsGrown : List Bool → (block : ℕ) → Type 0
IsGrown grown block = slice_get grown block ≡ Some true

-- the edge leads from what is grown to this block, which isn't
pub record LeadsBeyond (edges : List Edge) (grown : List Bool) (number beyond : ℕ) : Type 0 where
  pub near : ℕ
  pub joined : Joins edges number near beyond
  pub reached : IsGrown grown near
  pub unreached : slice_get grown beyond ≡ Some false

-- an edge of which one end is grown waits, and the forest joins this end to the root of the tree that grows
pub record Waits (edges : List Edge) (weights : List ℕ) (marks : List Bool) (waiting : List Ranked) (root number one : ℕ) : Type 0 where
  pub waits : IsAmong waiting (ranked_of weights number)
  pub rooted : Path (Joins edges) (IsUnmarked marks) root one

-- A tree grows: the unmarked edges are the forest.
pub record IsGrowing (edges : List Edge) (weights : List ℕ) (grown marks : List Bool) (waiting : List Ranked) (root : ℕ) : Type 0 where
  pub chosen : (number : ℕ) → IsUnmarked marks number → IsWitness edges weights number → ⊥
  pub joined : (number one other : ℕ) → Joins edges number one other → IsGrown grown one → IsGrown grown other → Path (Joins edges) (IsUnmarked marks) one other
  pub ahead : (number one other : ℕ) → Joins edges number one other → IsGrown grown one → IsGrown grown other ⊎ Waits edges weights marks waiting root number one
  pub items : (item : Ranked) → IsAmong waiting item → (number : ℕ) × (number < length edges) × (item ≡ ranked_of weights number)

-- whole trees are grown: no edge leads out of what is grown
pub record HasGrown (edges : List Edge) (weights : List ℕ) (grown marks : List Bool) : Type 0 where
  pub chosen : (number : ℕ) → IsUnmarked marks number → IsWitness edges weights number → ⊥
  pub joined : (number one other : ℕ) → Joins edges number one other → IsGrown grown one → IsGrown grown other → Path (Joins edges) (IsUnmarked marks) one other
  pub whole : (number one other : ℕ) → Joins edges number one other → IsGrown grown one → IsGrown grown other

-- the edges that aren't marked are none of the witnesses, and join whatever edges join
pub record IsSpanning (edges : List Edge) (weights : List ℕ) (marks : List Bool) : Type 0 where
  pub count : length marks ≡ length edges
  pub chosen : (number : ℕ) → IsUnmarked marks number → IsWitness edges weights number → ⊥
  pub joined : (number one other : ℕ) → Joins edges number one other → Path (Joins edges) (IsUnmarked marks) one other

-- what was grown stays so
abbrev pub StaysGrown : (old new : List Bool) → Type 0
StaysGrown old new = (block : ℕ) → IsGrown old block → IsGrown new block

-- how many edges the rows of the blocks have that aren't grown
abbrev pub rows_left : List (Vec ℕ Global) → List Bool → ℕ
rows_left rows grown = sum_by (λ (each : Vec ℕ Global × Bool). if each.1 then 0 else length each.0.items) (zip rows grown)
