-- Walks over a schema, and which records are explained by one: this project's own.
use Rattle.std.specs.Prelude.{◌≡◌, ℕ, ◌≤◌, List, [], ◌∷◌, ◌++◌, length, Option, Some, IsSome}
use Rattle.std.specs.Option.{option_and_then, option_map}
use Rattle.ae_nums.specs.declared.item.Item.{Item}
use Rattle.rv_machine.specs.Start.{first_registers}
use Rattle.ev_format.specs.declared.record.Record.{Record}
use Rattle.schema_form.specs.SchemaParts.{SchemaParts}
use Rattle.regen_walk.specs.declared.position.Position.{Position}
use Rattle.regen_walk.specs.declared.position.Position.TheVariants.{Before}
use Rattle.regen_walk.specs.Labels.{Label, records_in}
use Rattle.regen_walk.specs.Moves.{Moved, move_of}

abbrev pub behind_items : List Item → Moved → Moved
behind_items items moved = record moved { items = items ++ moved.items }

-- what comes of moves with these labels, one after the other, if each can be made: all items, and where they lead
abbrev pub walk_from : SchemaParts → Position → List ℕ → List Label → Option Moved
walk_from parts position registers [] = Some (record { items = []; position = position; registers = registers })
walk_from parts position registers (label ∷ labels) =
    option_and_then
    (λ (first : Moved). option_map (behind_items first.items) (walk_from parts first.position first.registers labels))
    (move_of parts position registers label)

-- a walk begins before the entry, with the registers of a run at its start
abbrev pub walk_of : SchemaParts → List Label → Option Moved
walk_of parts labels = walk_from parts (Before parts.entry) first_registers labels

-- a walk with these labels explains the records
pub record Explains (parts : SchemaParts) (records : List Record) (labels : List Label) : Type 0 where
  pub made : IsSome (walk_of parts labels)
  pub told : records_in labels ≡ records

-- some walk does
abbrev pub IsExplained : SchemaParts → List Record → Type 0
IsExplained parts records = (labels : List Label) × Explains parts records labels

-- and none that does is shorter
pub record IsShortest (parts : SchemaParts) (records : List Record) (labels : List Label) : Type 0 where
  pub explains : Explains parts records labels
  pub least : (other : List Label) → Explains parts records other → length labels ≤ length other

-- the items of explained records are those of the shortest walk
pub record AreItemsOf (parts : SchemaParts) (records : List Record) (items : List Item) : Type 0 where
  pub labels : List Label
  pub shortest : IsShortest parts records labels
  pub moved : Moved
  pub made : walk_of parts labels ≡ Some moved
  pub items_of : items ≡ moved.items
