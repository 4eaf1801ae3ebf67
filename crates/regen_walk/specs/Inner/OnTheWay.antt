-- On the way over arcs.
use Rattle.std.specs.Prelude.{◌≡◌, ℕ, List, ◌++◌, length}
use Rattle.ae_nums.specs.declared.item.Item.{Item}
use Rattle.regen_path.specs.declared.arcs.Arc.{Arc}
use Rattle.regen_path.specs.declared.arcs.Ways.{Ways}
use Rattle.regen_path.specs.Arcs.{HasArc}
use Rattle.regen_path.specs.Walks.{IsWalk}
use Rattle.schema_form.specs.SchemaParts.{SchemaParts}
use Rattle.regen_walk.specs.declared.met.Spot.{Spot}
use Rattle.regen_walk.specs.Inner.Going.{GoesAlong}
use Rattle.regen_walk.specs.Inner.Met.{IsSpot}

-- so many arcs of a walk towards a goal were gone over, with these items, and the rest of it is left
pub record IsOnTheWay (parts : SchemaParts) (ways : List Ways) (from goal spot : Spot) (before now : List ℕ) (items : List Item) (count : ℕ) : Type 0 where
  pub front : List Arc
  pub rest : List Arc
  pub whole : IsWalk (HasArc ways) from.place goal.place (front ++ rest)
  pub left : IsWalk (HasArc ways) spot.place goal.place rest
  pub gone : GoesAlong parts front from.address spot.address before now items
  pub stands : IsSpot parts spot
  pub long : length front ≡ count
