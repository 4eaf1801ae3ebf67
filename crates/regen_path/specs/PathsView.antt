-- How contracts see paths: as the table of the arcs out of each node.
use Rattle.std.specs.Prelude.{◌≡◌, ◌≤◌, ◌↔◌, ℕ, List, Some, map, slice_get}
use Rattle.graph_paths.specs.Paths.{Path}
use Rattle.graph_paths.specs.Forests.{HasNoCycle}
use Rattle.regen_path.specs.declared.arcs.Ways.{Ways}
use Rattle.regen_path.specs.declared.heights.Span.{Span}
use Rattle.regen_path.specs.declared.paths.Spot.{Spot}
use Rattle.regen_path.specs.declared.paths.Paths.TheInside.{Inside}
use Rattle.regen_path.specs.Arcs.{HasArc}
use Rattle.regen_path.specs.Walks.{ArcLeads, ArcJoins}
use Rattle.regen_path.specs.Inner.Sources.{LeadWithin}

abbrev pub ways_in : List Spot → List Ways
ways_in spots = map (λ (spot : Spot). spot.ways) spots

abbrev pub IsInSpan : Span → (number : ℕ) → Type 0
IsInSpan span number = (span.first ≤ number) × (number ≤ span.last)

-- what is at or under the top to which one rises holds the other, and what is at or under the top from which the other is sunk to holds the one
abbrev pub RisesAndSinks : Spot → Spot → Type 0
RisesAndSinks from to = IsInSpan from.rise to.number × IsInSpan to.sink from.number

-- the arcs are those of a forest, and a comparison of spots says where directed walks lead
pub record AreSpots (spots : List Spot) : Type 0 where
  pub within : LeadWithin (ways_in spots)
  pub forest : HasNoCycle ArcJoins (HasArc (ways_in spots))
  pub reach : (from to : ℕ) (one other : Spot) → slice_get spots from ≡ Some one → slice_get spots to ≡ Some other
      → RisesAndSinks one other ↔ Path ArcLeads (HasArc (ways_in spots)) from to

abbrev pub ways_view : Inside → List Ways
ways_view paths = ways_in paths.spots

abbrev pub ArePaths : Inside → Type 0
ArePaths paths = AreSpots paths.spots
