-- Why there are no event files: behind a call that changed none, and by the status that says so.
use Rattle.std.proofs.Common.{◌≡◌, ℕ, List, Option, Result, Ok, Err, refl, sym, ap, ◌∙◌, subst}
use Rattle.std.specs.Prelude.{IfErr, IfOk}
use Rattle.ae_ports.specs.Files.{Files, IsThere, SameFiles}
use Rattle.schema_form.specs.SchemaParts.{SchemaParts}
use Rattle.ae_top.specs.declared.event_files.NoEvents.{NoEvents}
use Rattle.ae_top.specs.declared.event_files.EventFiles.{EventFiles}
use Rattle.ae_top.specs.declared.event_files.Unread.{Unread}
use Rattle.ae_top.specs.declared.schema_file.NoSchema.{NoSchema}
use Rattle.ae_top.specs.declared.status.Status.{Status}
use Rattle.ae_top.specs.EventFiles.{AreEventFiles, HasNoEvents, LacksEvents, no_events_by, status_without_events}
use Rattle.ae_top.specs.Inner.Command.{Carries}
use Rattle.ae_top.specs.Inner.EventFiles.{no_events_after}
use Rattle.ae_top.specs.SchemaFile.{LacksSchema}
use Rattle.ae_top.specs.World.{World, Blames}
use Rattle.ae_top.proofs.Blamed.{OfStore, blames_as, carries_of_store}
use Rattle.ae_top.proofs.KeptSchema.{lacked_before, schema_before}
use Rattle.ae_top.proofs.ToldBehind.{absent_before, bytes_before, there_before}

-- there is no schema, and the event file was asked for
lacks_schema : (told : Option Files) (schema events : List ℕ) (why : NoSchema) → IsThere told events → LacksSchema told schema why → LacksEvents told schema events (no_events_by why)
lacks_schema told schema events NoSchema.Missing there lacks = lacks
lacks_schema told schema events NoSchema.StoreFault there lacks = tt
lacks_schema told schema events NoSchema.NoMemory there lacks = (there, lacks)
lacks_schema told schema events (NoSchema.Bad fault) there lacks = (there, lacks)

pub no_schema : (told : Option Files) (schema events : List ℕ) (why : NoSchema) (is : NoEvents) → is ≡ no_events_by why → IsThere told events → LacksSchema told schema why
    → LacksEvents told schema events is
no_schema told schema events why is by there lacks = subst (LacksEvents told schema events) (sym by) (lacks_schema told schema events why there lacks)

-- the same fault of the store
by_store : (why : NoSchema) → no_events_by why ≡ NoEvents.StoreFault → why ≡ NoSchema.StoreFault
by_store NoSchema.Missing is = absurd (cc is)
by_store NoSchema.StoreFault is = refl
by_store NoSchema.NoMemory is = absurd (cc is)
by_store (NoSchema.Bad fault) is = absurd (cc is)

pub no_schema_blamed : (why : NoSchema) (is : NoEvents) (before now : ℕ) → is ≡ no_events_by why → Blames (why ≡ NoSchema.StoreFault) before now
    → Blames (is ≡ NoEvents.StoreFault) before now
no_schema_blamed why is before now by blames =
    blames_as (why ≡ NoSchema.StoreFault) (is ≡ NoEvents.StoreFault) before now (λ at. by ∙ ap no_events_by at) (λ at. by_store why (sym by ∙ at)) blames

-- the schema was read, and the event file wasn't
unread : (told : Option Files) (schema events : List ℕ) (why : Unread) → IsThere told events → LacksSchema told schema NoSchema.NoMemory → LacksEvents told schema events (no_events_after why)
unread told schema events Unread.StoreFault there short = tt
unread told schema events Unread.NoMemory there short = (there, short)

pub no_bytes : (told : Option Files) (schema events : List ℕ) (why : Unread) (is : NoEvents) → is ≡ no_events_after why → IsThere told events → LacksSchema told schema NoSchema.NoMemory
    → LacksEvents told schema events is
no_bytes told schema events why is by there short = subst (LacksEvents told schema events) (sym by) (unread told schema events why there short)

store_unread : (why : Unread) → no_events_after why ≡ NoEvents.StoreFault → why ≡ Unread.StoreFault
store_unread Unread.StoreFault is = refl
store_unread Unread.NoMemory is = absurd (cc is)

pub unread_blamed : (why : Unread) (is : NoEvents) (before now : ℕ) → is ≡ no_events_after why → Blames (why ≡ Unread.StoreFault) before now → Blames (is ≡ NoEvents.StoreFault) before now
unread_blamed why is before now by blames =
    blames_as (why ≡ Unread.StoreFault) (is ≡ NoEvents.StoreFault) before now (λ at. by ∙ ap no_events_after at) (λ at. store_unread why (sym by ∙ at)) blames

-- behind a call that changed no file
module _ (before now : Option Files) (schema events : List ℕ) (same : SameFiles before now) where
  lacks_before : (why : NoEvents) → LacksEvents now schema events why → LacksEvents before schema events why
  lacks_before NoEvents.MissingSchema lacks = absent_before before now schema same lacks
  lacks_before NoEvents.MissingEvents lacks = (there_before before now schema same lacks.0, absent_before before now events same lacks.1)
  lacks_before NoEvents.StoreFault lacks = tt
  lacks_before (NoEvents.BadSchema fault) lacks =
      (there_before before now events same lacks.0, lacked_before {T = Unit {0}} (Err (NoSchema.Bad fault)) before now schema same lacks.1)
  lacks_before NoEvents.NoMemory lacks =
      (there_before before now events same lacks.0, lacked_before {T = Unit {0}} (Err NoSchema.NoMemory) before now schema same lacks.1)

  pub lacked_events_before : {T : Type 0} (result : Result T NoEvents) → IfErr result (LacksEvents now schema events) → IfErr result (LacksEvents before schema events)
  lacked_events_before (Ok files) lacks = tt
  lacked_events_before (Err why) lacks = lacks_before why lacks

  pub files_before : (parts : SchemaParts) (bytes : List ℕ) → AreEventFiles now schema events parts bytes → AreEventFiles before schema events parts bytes
  files_before parts bytes are =
      record { says = schema_before before now schema parts same are.says; has = bytes_before before now events bytes same are.has }

  pub read_before : (result : Result EventFiles NoEvents) → IfOk result (λ files. AreEventFiles now schema events files.schema files.events.items)
      → IfOk result (λ files. AreEventFiles before schema events files.schema files.events.items)
  read_before (Ok files) are = files_before files.schema files.events.items are
  read_before (Err why) are = tt

-- the status that says why there are none
of_store : (why : NoEvents) (schema_place events_place : ℕ) → OfStore (status_without_events why schema_place events_place)
of_store NoEvents.MissingSchema schema_place events_place = tt
of_store NoEvents.MissingEvents schema_place events_place = tt
of_store NoEvents.StoreFault schema_place events_place = tt
of_store (NoEvents.BadSchema fault) schema_place events_place = tt
of_store NoEvents.NoMemory schema_place events_place = tt

is_store : (why : NoEvents) (schema_place events_place : ℕ) → status_without_events why schema_place events_place ≡ Status.StoreFault → why ≡ NoEvents.StoreFault
is_store NoEvents.MissingSchema schema_place events_place is = absurd (cc is)
is_store NoEvents.MissingEvents schema_place events_place is = absurd (cc is)
is_store NoEvents.StoreFault schema_place events_place is = refl
is_store (NoEvents.BadSchema fault) schema_place events_place is = absurd (cc is)
is_store NoEvents.NoMemory schema_place events_place is = absurd (cc is)

pub carries_no_events : (schema_place : ℕ) (schema : List ℕ) (events_place : ℕ) (events : List ℕ) (why : NoEvents) (status : Status) (before now : World)
    → status ≡ status_without_events why schema_place events_place → LacksEvents before.store.told schema events why → now.streams ≡ before.streams
    → SameFiles before.store.told now.store.told → Blames (why ≡ NoEvents.StoreFault) before.store.faults now.store.faults
    → (promise : Type 0) → (HasNoEvents schema_place schema events_place events status before now → promise) → Carries promise status before now
carries_no_events schema_place schema events_place events why status before now is lacks same files store promise keeps =
    carries_of_store promise status before now (subst OfStore (sym is) (of_store why schema_place events_place)) same
    (blames_as (why ≡ NoEvents.StoreFault) (status ≡ Status.StoreFault) before.store.faults now.store.faults
    (λ at. is ∙ ap (λ w. status_without_events w schema_place events_place) at) (λ at. is_store why schema_place events_place (sym is ∙ at)) store)
    (keeps (record { why = why; lacks = lacks; says = is; streams = same; files = files }))
