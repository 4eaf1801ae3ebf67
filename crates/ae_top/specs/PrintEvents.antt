-- What `print events SCHEMA EVENTS` promises.
use Rattle.std.specs.Prelude.{◌≡◌, ◌⊎◌, ℕ, List, Option}
use Rattle.ae_ports.specs.Files.{SameFiles}
use Rattle.ae_print.specs.EventText.{IsBegunEventText, IsEventText}
use Rattle.ae_print.specs.SomeText.{AppendsFrontOfSome, AppendsSome}
use Rattle.ev_format.specs.declared.stop.Stop.{Stop}
use Rattle.schema_form.specs.LookUps.{schema_shape}
use Rattle.schema_form.specs.SchemaParts.{SchemaParts}
use Rattle.ae_top.specs.declared.status.Status.{Status}
use Rattle.ae_top.specs.EventFiles.{AreEventFiles, HasNoEvents, status_by}
use Rattle.ae_top.specs.World.{World}

-- The output got the text of these bytes, and the status says why their reading stopped. Or the output failed, and got a front of the
-- lines.
abbrev pub GetsEvents : SchemaParts → (bytes : List ℕ) → Status → (before now : Option (List ℕ)) → Type 0
GetsEvents schema bytes status before now =
    ((stop : Stop) × (status ≡ status_by stop) × AppendsSome (IsEventText (schema_shape schema) bytes stop) before now)
    ⊎ ((status ≡ Status.OutFault) × AppendsFrontOfSome (IsBegunEventText (schema_shape schema) bytes) before now)

-- Both files were read, and the text of EVENTS as a file of SCHEMA's program went to the output, or a front of it. The other streams have no part in that.
pub record AreEventsPrinted (schema events : List ℕ) (status : Status) (before now : World) : Type 0 where
  pub parts : SchemaParts
  pub bytes : List ℕ
  pub read : AreEventFiles before.store.told schema events parts bytes
  pub gets : GetsEvents parts bytes status before.streams.out.told now.streams.out.told
  pub input : now.streams.input ≡ before.streams.input
  pub err : now.streams.err ≡ before.streams.err
  pub files : SameFiles before.store.told now.store.told

-- SCHEMA and EVENTS, which are the words at these places and have these names, aren't to be had, or they were read and EVENTS was printed.
abbrev pub KeepsPrintEvents : (schema_place : ℕ) → (schema : List ℕ) → (events_place : ℕ) → (events : List ℕ) → Status → (before now : World) → Type 0
KeepsPrintEvents schema_place schema events_place events status before now =
    HasNoEvents schema_place schema events_place events status before now ⊎ AreEventsPrinted schema events status before now
