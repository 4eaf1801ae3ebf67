-- The schema and the event file that a command works on, or why there are none.
use Rattle.std.specs.Prelude.{◌≡◌, ℕ, List, ⊤, Option}
use Rattle.ae_ports.specs.Files.{Files, HasBytes, IsThere, SameFiles}
use Rattle.ev_format.specs.declared.stop.Stop.{Stop}
use Rattle.schema_form.specs.SchemaParts.{SchemaParts}
use Rattle.ae_top.specs.declared.event_files.NoEvents.{NoEvents}
use Rattle.ae_top.specs.declared.events_refusal.EventsRefusal.{EventsRefusal}
use Rattle.ae_top.specs.declared.schema_file.NoSchema.{NoSchema}
use Rattle.ae_top.specs.declared.status.Status.{Status}
use Rattle.ae_top.specs.Inputs.{IsAbsent}
use Rattle.ae_top.specs.SchemaFile.{IsSchemaIn, LacksSchema}
use Rattle.ae_top.specs.World.{World}

-- the file of the first name says this schema, and that of the second has these bytes
pub record AreEventFiles (told : Option Files) (schema events : List ℕ) (parts : SchemaParts) (bytes : List ℕ) : Type 0 where
  pub says : IsSchemaIn told schema parts
  pub has : HasBytes told events bytes

-- Why there are no such files. Both are asked for before the first is read.
abbrev pub LacksEvents : Option Files → (schema events : List ℕ) → NoEvents → Type 0
LacksEvents told schema events NoEvents.MissingSchema = IsAbsent told schema
LacksEvents told schema events NoEvents.MissingEvents = IsThere told schema × IsAbsent told events
LacksEvents told schema events NoEvents.StoreFault = ⊤
LacksEvents told schema events (NoEvents.BadSchema fault) = IsThere told events × LacksSchema told schema (NoSchema.Bad fault)
LacksEvents told schema events NoEvents.NoMemory = IsThere told events × LacksSchema told schema NoSchema.NoMemory

-- the same reason, where there is no schema
abbrev pub no_events_by : NoSchema → NoEvents
no_events_by NoSchema.Missing = NoEvents.MissingSchema
no_events_by NoSchema.StoreFault = NoEvents.StoreFault
no_events_by NoSchema.NoMemory = NoEvents.NoMemory
no_events_by (NoSchema.Bad fault) = NoEvents.BadSchema fault

-- the status that says why, where the files are the words at these places
abbrev pub status_without_events : NoEvents → (schema_place events_place : ℕ) → Status
status_without_events NoEvents.MissingSchema schema_place events_place = Status.Missing schema_place
status_without_events NoEvents.MissingEvents schema_place events_place = Status.Missing events_place
status_without_events NoEvents.StoreFault schema_place events_place = Status.StoreFault
status_without_events (NoEvents.BadSchema fault) schema_place events_place = Status.BadSchema fault
status_without_events NoEvents.NoMemory schema_place events_place = Status.Memory

-- The command has no schema and no event file to work on, and all is as before. The files are the words at these places and have these
-- names.
pub record HasNoEvents (schema_place : ℕ) (schema : List ℕ) (events_place : ℕ) (events : List ℕ) (status : Status) (before now : World) : Type 0 where
  pub why : NoEvents
  pub lacks : LacksEvents before.store.told schema events why
  pub says : status ≡ status_without_events why schema_place events_place
  pub streams : now.streams ≡ before.streams
  pub files : SameFiles before.store.told now.store.told

-- the status that says why the reading of an event file stopped
abbrev pub status_by : Stop → Status
status_by Stop.Finished = Status.Done
status_by Stop.Cut = Status.CutShort
status_by Stop.OtherProgram = Status.BadEvents EventsRefusal.OtherProgram
status_by (Stop.BadRecord offset) = Status.BadEvents (EventsRefusal.BadRecord offset)
