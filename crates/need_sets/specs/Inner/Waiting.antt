-- Places that wait: those, and how many places there are in all. Only the clauses of private functions cite this.
use Rattle.std.specs.Prelude.{◌≡◌, ℕ, ◌<◌, Bool, true, false, List, length}
use Rattle.std.specs.List.{Contains, slice_index_or}

pub record WaitingParts : Type 0 where
  pub size : ℕ
  pub places : List ℕ

-- each place that waits has a mark, and what is marked waits
pub record AreMarked (places : List ℕ) (marks : List Bool) : Type 0 where
  pub within : (place : ℕ) → Contains places place → place < length marks
  pub marked : (place : ℕ) → slice_index_or marks place false ≡ true → Contains places place
