-- The nodes from which arcs of one kind lead to a node, found from the last of them to the first. Only the clauses of private
-- functions cite this.
use Rattle.std.specs.Prelude.{◌≡◌, ◌<◌, ◌≤◌, ℕ, List, Option, Some, None, length}
use Rattle.std.specs.List.{slice_index_or}
use Rattle.regen_path.specs.declared.arcs.Ways.{Ways}
use Rattle.regen_path.specs.Arcs.{way_from}

-- no arc leads out of the table
abbrev pub LeadWithin : List Ways → Type 0
LeadWithin table = (kind from to : ℕ) → way_from table kind from ≡ Some to → to < length table

-- the last of the first nodes from which an arc of this kind leads to the goal, if one does
abbrev pub IsLastInto : List Ways → (kind goal bound : ℕ) → Option ℕ → Type 0
IsLastInto table kind goal bound None = (node : ℕ) → node < bound → way_from table kind node ≡ Some goal → ⊥
IsLastInto table kind goal bound (Some last) =
    (last < bound) × (way_from table kind last ≡ Some goal) × ((node : ℕ) → node < bound → way_from table kind node ≡ Some goal → node ≤ last)

-- for each node the last of the first `count` nodes whose arc of this kind leads to it, and for each of these the one before it
pub record IsFoundBy (table : List Ways) (kind count : ℕ) (last before : List (Option ℕ)) : Type 0 where
  pub goals : length last ≡ length table
  pub sources : length before ≡ count
  pub lasts : (goal : ℕ) → goal < length table → IsLastInto table kind goal count (slice_index_or last goal None)
  pub befores : (node goal : ℕ) → node < count → way_from table kind node ≡ Some goal → IsLastInto table kind goal node (slice_index_or before node None)
