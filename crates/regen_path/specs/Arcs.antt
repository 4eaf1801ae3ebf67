-- Arcs between nodes. A node has at most one arc of each kind out of it, so a table of where these lead says all of them.
use Rattle.std.specs.Prelude.{◌≡◌, ◌↔◌, ℕ, List, Option, Some, None, length, slice_get, if◌then◌else◌, ◌==◌}
use Rattle.std.specs.Option.{option_and_then}
use Rattle.graph_paths.specs.Forests.{IsAmong}
use Rattle.regen_path.specs.declared.arcs.Arc.{Arc}
use Rattle.regen_path.specs.declared.arcs.Ways.{Ways}

-- where the arc of a kind out of a node leads
abbrev pub way_by : Ways → (kind : ℕ) → Option ℕ
way_by ways kind = if kind == 0 then ways.fall else (if kind == 1 then ways.taken else None)

abbrev pub way_from : List Ways → (kind from : ℕ) → Option ℕ
way_from table kind from = option_and_then (λ (ways : Ways). way_by ways kind) (slice_get table from)

-- the table has the arc
abbrev pub HasArc : List Ways → Arc → Type 0
HasArc table arc = way_from table arc.kind arc.from ≡ Some arc.to

-- the table is of so many nodes, and has these arcs and no others
pub record AreWays (arcs : List Arc) (count : ℕ) (table : List Ways) : Type 0 where
  pub long : length table ≡ count
  pub has : (arc : Arc) → IsAmong arcs arc ↔ HasArc table arc
