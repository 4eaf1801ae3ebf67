-- Edges between code words.
use Rattle.std.specs.Prelude.{◌≡◌, ℕ, ◌^◌, ◌<◌, Some}
use Rattle.flow_graph.specs.declared.edge.Edge.{Edge}

-- the edge doesn't leave, both ends are below a number, and its word lies low
pub record IsInner (count : ℕ) (edge : Edge) : Type 0 where
  pub target : ℕ
  pub to : edge.to ≡ Some target
  pub source : edge.source < count
  pub within : target < count
  pub low : edge.from < 2 ^ 31
