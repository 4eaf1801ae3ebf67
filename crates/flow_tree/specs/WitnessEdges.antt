-- Witness edges (Ball and Larus: the edges off a maximum spanning tree). An edge is named by its number, its place in the list of the
-- edges.
use Rattle.std.specs.Prelude.{◌≡◌, ℕ, ◌<◌, ◌≤◌, Bool, true, false, List, [], length, Option, Some, None, slice_get, slice_index, sum_by, if◌then◌else◌}
use Rattle.std.specs.List.{zip}
use Rattle.std.specs.Option.{option_map}
use Rattle.flow_graph.specs.declared.edge.Edge.{Edge}
use Rattle.graph_paths.specs.Paths.{Closes}
use Rattle.graph_paths.specs.Forests.{HasNoCycle, IsAmong, StandOnce, Trail}

-- the block that the edge with a number leaves, and the one that it leads to, if there is such an edge
abbrev pub ends_of : List Edge → (number : ℕ) → Option (ℕ × Option ℕ)
ends_of edges number = option_map (λ (edge : Edge). (edge.source, edge.to)) (slice_get edges number)

-- the edge leads from one block to another, or back to the same
abbrev pub LeadsTo : List Edge → (number from to : ℕ) → Type 0
LeadsTo edges number from to = ends_of edges number ≡ Some (from, Some to)

-- the edge leads out of the code
pub record LeavesCode (edges : List Edge) (number : ℕ) : Type 0 where
  pub from : ℕ
  pub ends : ends_of edges number ≡ Some (from, None)

-- the edge joins two blocks, whichever is named first
pub data Joins (edges : List Edge) (number one other : ℕ) : Type 0 where
  joins_forth : LeadsTo edges number one other → Joins edges number one other
  joins_back : LeadsTo edges number other one → Joins edges number one other

-- greater weight first, then the lower number
pub data RanksBefore (weights : List ℕ) (one other : ℕ) : Type 0 where
  heavier : slice_index weights other < slice_index weights one → RanksBefore weights one other
  sooner : slice_index weights one ≡ slice_index weights other → one < other → RanksBefore weights one other

-- An edge is a witness where it leaves, or where an undirected path of edges that don't leave and all rank before it joins its two
-- ends. Those of a self edge are joined by the empty path.
pub data IsWitness (edges : List Edge) (weights : List ℕ) (number : ℕ) : Type 0 where
  leaves : LeavesCode edges number → IsWitness edges weights number
  closes : Closes (Joins edges) (λ other. RanksBefore weights other number) number → IsWitness edges weights number

abbrev pub IsMarked : List Bool → (number : ℕ) → Type 0
IsMarked marks number = slice_get marks number ≡ Some true

abbrev pub IsUnmarked : List Bool → (number : ℕ) → Type 0
IsUnmarked marks number = slice_get marks number ≡ Some false

-- one mark an edge, and the marked edges are exactly the witnesses
pub record AreWitnesses (edges : List Edge) (weights : List ℕ) (marks : List Bool) : Type 0 where
  pub count : length marks ≡ length edges
  pub marked : (number : ℕ) → IsMarked marks number → IsWitness edges weights number
  pub unmarked : (number : ℕ) → IsUnmarked marks number → IsWitness edges weights number → ⊥

-- each edge that leaves is marked, and the others of which none is marked have no undirected cycle
pub record CutsCycles (edges : List Edge) (marks : List Bool) : Type 0 where
  pub leaving : (number : ℕ) → LeavesCode edges number → IsMarked marks number
  pub no_cycle : HasNoCycle (Joins edges) (IsUnmarked marks)

-- the sum of the weights of the marked edges
abbrev pub marked_weight : (weights : List ℕ) (marks : List Bool) → ℕ
marked_weight weights marks = sum_by (λ (each : Bool × ℕ). if each.0 then each.1 else 0) (zip marks weights)

-- no set of edges that cuts all cycles weighs less
abbrev pub HaveLeastWeight : List Edge → (weights : List ℕ) → (marks : List Bool) → Type 0
HaveLeastWeight edges weights marks =
    (other : List Bool) → length other ≡ length edges → CutsCycles edges other → marked_weight weights marks ≤ marked_weight weights other

-- the marks that a table of weights gives, one weight an edge
pub record AreGrown (edges : List Edge) (marks : List Bool) : Type 0 where
  pub weights : List ℕ
  pub count : length weights ≡ length edges
  pub witnesses : AreWitnesses edges weights marks

-- a trail of edges that aren't marked, none twice
pub record IsTreePath (edges : List Edge) (marks : List Bool) (path : List ℕ) (from to : ℕ) : Type 0 where
  pub trail : Trail (Joins edges) path from to
  pub once : StandOnce path
  pub unmarked : (number : ℕ) → IsAmong path number → IsUnmarked marks number

-- The certificate of a marked edge that doesn't leave: the path from its source to its target over edges that aren't marked. They rank
-- before it under every table of weights that gives these marks. That of every other edge is empty.
pub record IsCertificate (edges : List Edge) (marks : List Bool) (number : ℕ) (path : List ℕ) : Type 0 where
  pub of_witness : (from to : ℕ) → IsMarked marks number → LeadsTo edges number from to → IsTreePath edges marks path from to
  pub before : (weights : List ℕ) → AreWitnesses edges weights marks → (other : ℕ) → IsAmong path other → RanksBefore weights other number
  pub of_tree_edge : IsUnmarked marks number → path ≡ []
  pub of_leaving : LeavesCode edges number → path ≡ []
