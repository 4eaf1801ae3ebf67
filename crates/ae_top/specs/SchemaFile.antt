-- The schema that a command works on, or why there is none.
use Rattle.std.specs.Prelude.{◌≡◌, ℕ, ◌≤◌, List, length, ⊤, Option}
use Rattle.ae_ports.specs.Files.{Files, SameFiles, HasBytes}
use Rattle.schema_form.specs.declared.fault.SchemaFault.{SchemaFault}
use Rattle.schema_form.specs.declared.fault.SchemaFault.TheVariants.{NotSchema, BadEntry, NotAForest, TooLarge}
use Rattle.schema_form.specs.declared.limits.TheConstants.{SCHEMA_LIMIT}
use Rattle.schema_form.specs.SchemaParts.{SchemaParts}
use Rattle.schema_form.specs.Spells.{RefusedBy, Spells}
use Rattle.ae_top.specs.declared.schema_file.NoSchema.{NoSchema}
use Rattle.ae_top.specs.declared.status.Status.{Status}
use Rattle.ae_top.specs.Inputs.{IsAbsent}
use Rattle.ae_top.specs.World.{World}

-- a file of this name has bytes that say this schema
abbrev pub IsSchemaIn : Option Files → (name : List ℕ) → SchemaParts → Type 0
IsSchemaIn told name schema = (bytes : List ℕ) × HasBytes told name bytes × Spells bytes schema

-- why bytes give no schema, by the fault of reading them
abbrev pub no_schema_by : SchemaFault → NoSchema
no_schema_by NotSchema = NoSchema.Bad NotSchema
no_schema_by (BadEntry offset) = NoSchema.Bad (BadEntry offset)
no_schema_by (NotAForest edge) = NoSchema.Bad (NotAForest edge)
no_schema_by TooLarge = NoSchema.Bad TooLarge
no_schema_by SchemaFault.NoMemory = NoSchema.NoMemory

-- Why there is no schema in a file of this name. Memory is never wanting for a file that is too long.
abbrev pub LacksSchema : Option Files → (name : List ℕ) → NoSchema → Type 0
LacksSchema told name NoSchema.Missing = IsAbsent told name
LacksSchema told name NoSchema.StoreFault = ⊤
LacksSchema told name NoSchema.NoMemory = (bytes : List ℕ) × HasBytes told name bytes × (length bytes ≤ SCHEMA_LIMIT)
LacksSchema told name (NoSchema.Bad fault) = (bytes : List ℕ) × HasBytes told name bytes × RefusedBy bytes fault

-- the status that says why, where the file is the word at this place
abbrev pub status_without_schema : NoSchema → (word : ℕ) → Status
status_without_schema NoSchema.Missing word = Status.Missing word
status_without_schema NoSchema.StoreFault word = Status.StoreFault
status_without_schema NoSchema.NoMemory word = Status.Memory
status_without_schema (NoSchema.Bad fault) word = Status.BadSchema fault

-- The command has no schema to work on, and all is as before. Its file is the word at this place and has this name.
pub record HasNoSchema (word : ℕ) (name : List ℕ) (status : Status) (before now : World) : Type 0 where
  pub why : NoSchema
  pub lacks : LacksSchema before.store.told name why
  pub says : status ≡ status_without_schema why word
  pub streams : now.streams ≡ before.streams
  pub files : SameFiles before.store.told now.store.told
