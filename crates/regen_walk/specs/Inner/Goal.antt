-- Where a record's word is reached, and may give the record.
use Rattle.std.specs.Prelude.{◌≡◌, ℕ, true, List}
use Rattle.ae_nums.specs.declared.item.Item.{Item}
use Rattle.ev_format.specs.declared.record.Record.{Record}
use Rattle.ev_format.specs.Spelling.{address_in}
use Rattle.regen_path.specs.declared.arcs.Arc.{Arc}
use Rattle.regen_path.specs.declared.arcs.Ways.{Ways}
use Rattle.regen_path.specs.Arcs.{HasArc}
use Rattle.regen_path.specs.Walks.{IsWalk}
use Rattle.schema_form.specs.SchemaParts.{SchemaParts}
use Rattle.regen_walk.specs.declared.met.Spot.{Spot}
use Rattle.regen_walk.specs.Inner.Going.{GoesAlong}
use Rattle.regen_walk.specs.Inner.Met.{IsSpot}
use Rattle.regen_walk.specs.Inner.Telling.{may_tell}

pub record IsGoal (parts : SchemaParts) (ways : List Ways) (from : Spot) (registers : List ℕ) (rec : Record) (goal : Spot) : Type 0 where
  pub spot : IsSpot parts goal
  pub address : goal.address ≡ address_in rec
  pub walk : List Arc
  pub walks : IsWalk (HasArc ways) from.place goal.place walk
  -- whatever the walk there leaves in the registers
  pub may : (there : List ℕ) (items : List Item) → GoesAlong parts walk from.address goal.address registers there items → may_tell parts goal.address there rec ≡ true
