-- What paths are built of.
use Rattle.std.specs.Prelude.{◌≡◌, ℕ, ◌<◌, List}
use Rattle.graph_paths.specs.Forests.{HasNoCycle, IsAmong}
use Rattle.regen_path.specs.declared.arcs.Arc.{Arc}
use Rattle.regen_path.specs.Walks.{ArcJoins}

-- arcs between so many nodes, at most one of a kind from each, and without an undirected cycle
pub record AreForestArcs (count : ℕ) (arcs : List Arc) : Type 0 where
  pub ends : (arc : Arc) → IsAmong arcs arc → (arc.from < count) × (arc.to < count)
  pub kinds : (arc : Arc) → IsAmong arcs arc → arc.kind < 2
  pub alone : (one other : Arc) → IsAmong arcs one → IsAmong arcs other → one.from ≡ other.from → one.kind ≡ other.kind → one ≡ other
  pub forest : HasNoCycle ArcJoins (IsAmong arcs)
