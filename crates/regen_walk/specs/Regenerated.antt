-- What a schema and the bytes of an event file give back: this project's own.
use Rattle.std.specs.Prelude.{ℕ, List, [], ◌∷◌, ◌++◌, map, take}
use Rattle.ae_nums.specs.declared.item.Item.{Item}
use Rattle.ev_format.specs.declared.place.Place.TheVariants.{Start}
use Rattle.ev_format.specs.declared.record.Record.{Record}
use Rattle.ev_format.specs.declared.stop.Stop.{Stop}
use Rattle.ev_format.specs.Reading.{BeginsWith, Reading}
use Rattle.schema_form.specs.LookUps.{schema_shape}
use Rattle.schema_form.specs.SchemaParts.{SchemaParts}
use Rattle.regen_walk.specs.declared.replaying.Halted.{Halted}
use Rattle.regen_walk.specs.declared.replaying.Halted.TheVariants.{Read, Astray}
use Rattle.regen_walk.specs.Walks.{AreItemsOf, IsExplained}

-- records without their offsets
abbrev pub without_offsets : List (ℕ × Record) → List Record
without_offsets placed = map (λ (one : ℕ × Record). one.1) placed

-- All records of the bytes are explained, and reading stops behind them; these are their items.
pub record AllExplained (parts : SchemaParts) (bytes : List ℕ) (stop : Stop) (items : List Item) : Type 0 where
  pub records : List (ℕ × Record)
  pub reading : Reading (schema_shape parts) Start bytes records stop
  pub items_of : AreItemsOf parts (without_offsets records) items

-- The record at an offset is the first that isn't explained with those before it; these are the items of those.
pub record GoesAstray (parts : SchemaParts) (bytes : List ℕ) (offset : ℕ) (items : List Item) : Type 0 where
  pub records : List (ℕ × Record)
  pub rec : Record
  pub begins : BeginsWith (schema_shape parts) Start bytes (records ++ (offset, rec) ∷ [])
  pub items_of : AreItemsOf parts (without_offsets records) items
  pub unexplained : (more : List Record) → IsExplained parts (without_offsets records ++ rec ∷ more) → ⊥

-- what the bytes give back, and why no more
abbrev pub IsRegenerated : SchemaParts → List ℕ → Halted → List Item → Type 0
IsRegenerated parts bytes (Read stop) items = AllExplained parts bytes stop items
IsRegenerated parts bytes (Astray offset) items = GoesAstray parts bytes offset items

-- and a taker has it
abbrev pub Regenerates : SchemaParts → List ℕ → (took : List Item → Type 0) → Halted → Type 0
Regenerates parts bytes took halted = (items : List Item) × IsRegenerated parts bytes halted items × took items

-- A taker has a front of the items of the first so many records, which are explained.
pub record BeginsItems (parts : SchemaParts) (bytes : List ℕ) (took : List Item → Type 0) : Type 0 where
  pub records : List (ℕ × Record)
  pub begins : BeginsWith (schema_shape parts) Start bytes records
  pub items : List Item
  pub items_of : AreItemsOf parts (without_offsets records) items
  pub count : ℕ
  pub front : took (take count items)
