-- What is found of the arcs out of a node. Only the clauses of private functions cite this.
use Rattle.std.specs.Prelude.{◌≡◌, ◌≢◌, ◌<◌, ℕ, List, Some}
use Rattle.graph_paths.specs.Paths.{Path}
use Rattle.regen_path.specs.declared.arcs.Ways.{Ways}
use Rattle.regen_path.specs.declared.paths.Hop.{Hop}
use Rattle.regen_path.specs.declared.paths.Hop.TheVariants.{Fall, Taken, Here, NoWay}
use Rattle.regen_path.specs.Arcs.{way_from, HasArc}
use Rattle.regen_path.specs.Walks.{ArcLeads}

-- the node is the goal, or a directed walk leads on from the end of one of its arcs, or of neither
pub data Finds (table : List Ways) (from goal : ℕ) : Hop → Type 0 where
  at_goal : from ≡ goal → Finds table from goal Here
  by_fall : from ≢ goal → (to : ℕ) → way_from table 0 from ≡ Some to → Path ArcLeads (HasArc table) to goal → Finds table from goal Fall
  by_taken : from ≢ goal → (to : ℕ) → way_from table 1 from ≡ Some to → Path ArcLeads (HasArc table) to goal → Finds table from goal Taken
  nowhere : from ≢ goal → ((kind to : ℕ) → kind < 2 → way_from table kind from ≡ Some to → Path ArcLeads (HasArc table) to goal → ⊥) → Finds table from goal NoWay
