-- What `regenerate SCHEMA EVENTS TRACE` promises.
use Rattle.std.specs.Prelude.{◌≡◌, ◌⊎◌, ℕ, List, Option}
use Rattle.ae_nums.specs.declared.item.Item.{Item}
use Rattle.ae_nums.specs.Trace.{trace_text}
use Rattle.ae_ports.specs.Files.{Files, SameOthers, SameFile, IsEmptyFile, HasBytes}
use Rattle.ev_format.specs.declared.place.Place.TheVariants.{Start}
use Rattle.ev_format.specs.declared.record.Record.{Record}
use Rattle.ev_format.specs.declared.stop.Stop.TheVariants.{OtherProgram}
use Rattle.ev_format.specs.Reading.{BeginsWith, HeaderStops}
use Rattle.regen_walk.specs.declared.replaying.Halted.{Halted}
use Rattle.regen_walk.specs.declared.replaying.Halted.TheVariants.{Read, Astray}
use Rattle.regen_walk.specs.Regenerated.{IsRegenerated, without_offsets}
use Rattle.regen_walk.specs.Walks.{AreItemsOf}
use Rattle.schema_form.specs.LookUps.{schema_shape}
use Rattle.schema_form.specs.SchemaParts.{SchemaParts}
use Rattle.ae_top.specs.declared.events_refusal.EventsRefusal.{EventsRefusal}
use Rattle.ae_top.specs.declared.status.Status.{Status}
use Rattle.ae_top.specs.EventFiles.{AreEventFiles, HasNoEvents, status_by}
use Rattle.ae_top.specs.Plain.{HasFront}
use Rattle.ae_top.specs.World.{World, KeepsAll}

-- the status that says why an event file gives back no more
abbrev pub status_halted : Halted → Status
status_halted (Read stop) = status_by stop
status_halted (Astray offset) = Status.BadEvents (EventsRefusal.Astray offset)

-- the bytes begin with the header of another program
abbrev pub AreForeign : SchemaParts → (bytes : List ℕ) → Type 0
AreForeign parts bytes = HeaderStops (schema_shape parts) bytes OtherProgram

-- the lines of what the bytes give back, where they give back no more for this reason
pub record IsTraceOf (parts : SchemaParts) (bytes : List ℕ) (halted : Halted) (text : List ℕ) : Type 0 where
  pub items : List Item
  pub are : IsRegenerated parts bytes halted items
  pub is : text ≡ trace_text items

-- the lines of what the first so many records give back, which are explained
pub record IsBegunTraceOf (parts : SchemaParts) (bytes : List ℕ) (text : List ℕ) : Type 0 where
  pub records : List (ℕ × Record)
  pub begins : BeginsWith (schema_shape parts) Start bytes records
  pub items : List Item
  pub are : AreItemsOf parts (without_offsets records) items
  pub is : text ≡ trace_text items

-- TRACE has the lines of all that the bytes give back, and the status says why it isn't more. Or the store failed, and TRACE has a front of
-- such lines.
abbrev pub WritesTrace : SchemaParts → (bytes trace : List ℕ) → Status → Option Files → Type 0
WritesTrace parts bytes trace status files =
    ((halted : Halted) × (status ≡ status_halted halted) × ((text : List ℕ) × IsTraceOf parts bytes halted text × HasBytes files trace text))
    ⊎ ((status ≡ Status.StoreFault) × ((text : List ℕ) × IsBegunTraceOf parts bytes text × HasFront files trace text))

-- EVENTS belongs to another program, and nothing was done.
pub record AreOfAnother (parts : SchemaParts) (bytes : List ℕ) (status : Status) (before now : World) : Type 0 where
  pub foreign : AreForeign parts bytes
  pub says : status ≡ Status.BadEvents EventsRefusal.OtherProgram
  pub all : KeepsAll before now

-- Memory was wanting before TRACE was made, and nothing was done.
pub record IsTraceUnbegun (parts : SchemaParts) (bytes : List ℕ) (status : Status) (before now : World) : Type 0 where
  pub own : AreForeign parts bytes → ⊥
  pub says : status ≡ Status.Memory
  pub all : KeepsAll before now

-- TRACE couldn't be made.
pub record IsTraceUnmade (parts : SchemaParts) (bytes trace : List ℕ) (status : Status) (before now : World) : Type 0 where
  pub own : AreForeign parts bytes → ⊥
  pub says : status ≡ Status.StoreFault
  pub streams : now.streams ≡ before.streams
  pub file : SameFile before.store.told now.store.told trace ⊎ IsEmptyFile now.store.told trace
  pub others : SameOthers before.store.told now.store.told trace

-- TRACE was made, and what the bytes give back was written to it.
pub record IsTraceMade (parts : SchemaParts) (bytes trace : List ℕ) (status : Status) (before now : World) : Type 0 where
  pub own : AreForeign parts bytes → ⊥
  pub writes : WritesTrace parts bytes trace status now.store.told
  pub streams : now.streams ≡ before.streams
  pub others : SameOthers before.store.told now.store.told trace

-- what comes of bytes that were read as an event file of this schema's program
abbrev pub RegeneratesFrom : SchemaParts → (bytes trace : List ℕ) → Status → (before now : World) → Type 0
RegeneratesFrom parts bytes trace status before now =
    AreOfAnother parts bytes status before now
    ⊎ (IsTraceUnbegun parts bytes status before now
    ⊎ (IsTraceUnmade parts bytes trace status before now ⊎ IsTraceMade parts bytes trace status before now))

-- Both files were read, and this came of them.
pub record IsRegeneratedTo (schema events trace : List ℕ) (status : Status) (before now : World) : Type 0 where
  pub parts : SchemaParts
  pub bytes : List ℕ
  pub read : AreEventFiles before.store.told schema events parts bytes
  pub comes : RegeneratesFrom parts bytes trace status before now

-- SCHEMA and EVENTS, which are the words at these places and have these names, aren't to be had, or they were read. TRACE has that name.
abbrev pub KeepsRegenerate : (schema_place : ℕ) → (schema : List ℕ) → (events_place : ℕ) → (events trace : List ℕ) → Status → (before now : World) → Type 0
KeepsRegenerate schema_place schema events_place events trace status before now =
    HasNoEvents schema_place schema events_place events status before now ⊎ IsRegeneratedTo schema events trace status before now
