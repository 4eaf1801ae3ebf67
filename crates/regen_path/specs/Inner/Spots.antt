-- What is kept of each node. Only the clauses of private functions cite this.
use Rattle.std.specs.Prelude.{◌≡◌, ℕ, List, Option, Some, slice_get}
use Rattle.regen_path.specs.declared.arcs.Ways.{Ways}
use Rattle.regen_path.specs.declared.heights.Heights.{Heights}
use Rattle.regen_path.specs.declared.paths.Spot.{Spot}
use Rattle.regen_path.specs.PathsView.{ways_in}
use Rattle.regen_path.specs.Inner.Heights.{heights_at}

-- each node's arcs, its number, and the heights at that number
pub record AreSpotsBy (table : List Ways) (numbers : List (Option ℕ)) (heights : List Heights) (spots : List Spot) : Type 0 where
  pub ways : ways_in spots ≡ table
  pub number : (node : ℕ) (spot : Spot) → slice_get spots node ≡ Some spot → slice_get numbers node ≡ Some (Some spot.number)
  pub rise : (node : ℕ) (spot : Spot) → slice_get spots node ≡ Some spot → spot.rise ≡ (heights_at heights spot.number).rise
  pub sink : (node : ℕ) (spot : Spot) → slice_get spots node ≡ Some spot → spot.sink ≡ (heights_at heights spot.number).sink
