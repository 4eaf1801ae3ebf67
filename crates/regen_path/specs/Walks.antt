-- Directed walks over arcs. Where the arcs have no undirected cycle, at most one leads from one node to another.
use Rattle.std.specs.Prelude.{◌≡◌, ℕ, List}
use Rattle.graph_paths.specs.Forests.{IsAmong, Trail}
use Rattle.regen_path.specs.declared.arcs.Arc.{Arc}

-- the arc leads from one node to another
abbrev pub ArcLeads : Arc → (from to : ℕ) → Type 0
ArcLeads arc from to = (arc.from ≡ from) × (arc.to ≡ to)

-- the arc joins two nodes, whichever is named first
pub data ArcJoins (arc : Arc) (one other : ℕ) : Type 0 where
  forth : ArcLeads arc one other → ArcJoins arc one other
  back : ArcLeads arc other one → ArcJoins arc one other

-- arcs of a set that lead one after another from one node to another, each the way that it points
pub record IsWalk (set : Arc → Type 0) (from to : ℕ) (walk : List Arc) : Type 0 where
  pub within : (arc : Arc) → IsAmong walk arc → set arc
  pub trail : Trail ArcLeads walk from to

-- there is no other
pub record IsOnlyWalk (set : Arc → Type 0) (from to : ℕ) (walk : List Arc) : Type 0 where
  pub is : IsWalk set from to walk
  pub only : (other : List Arc) → IsWalk set from to other → other ≡ walk
