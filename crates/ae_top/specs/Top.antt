-- What the top call promises.
use Rattle.std.specs.Prelude.{◌≡◌, ◌↔◌, ℕ, ◌≤◌, List, [], Option, None, Some, slice_index_or}
use Rattle.ae_ports.specs.Fault.{HasRisen}
use Rattle.rv_code.specs.declared.ending.Ending.{Ending}
use Rattle.ae_top.specs.declared.status.Status.{Status}
use Rattle.ae_top.specs.declared.status.Status.TheVariants.{Done, Usage, StoreFault, InputFault, OutFault, ErrFault, Faulted}
use Rattle.ae_top.specs.declared.task.Task.{Task}
use Rattle.ae_top.specs.declared.task.Task.TheVariants.{Run, Plain, Print, PrintSchema, PrintEvents, Regenerate}
use Rattle.ae_top.specs.Plain.{KeepsPlain}
use Rattle.ae_top.specs.Printing.{KeepsPrint}
use Rattle.ae_top.specs.PrintEvents.{KeepsPrintEvents}
use Rattle.ae_top.specs.PrintSchema.{KeepsPrintSchema}
use Rattle.ae_top.specs.Regenerate.{KeepsRegenerate}
use Rattle.ae_top.specs.Run.{KeepsRun}
use Rattle.ae_top.specs.Status.{exit_code_of}
use Rattle.ae_top.specs.StatusLines.{LineBehind}
use Rattle.ae_top.specs.Task.{task_in}
use Rattle.ae_top.specs.World.{Port, World, Blames, BlamesDevices, KeepsAll}

-- what is promised of what was asked for, up to the line of the status
abbrev pub Keeps : Option Task → (words : List (List ℕ)) → Status → (before now : World) → Type 0
Keeps None words status before now = KeepsAll before now
Keeps (Some (Run prog fuel)) words status before now =
    KeepsRun prog (slice_index_or words prog []) fuel status before now
Keeps (Some (Plain prog trace fuel)) words status before now =
    KeepsPlain prog (slice_index_or words prog []) (slice_index_or words trace []) fuel status before now
Keeps (Some (Print kind file)) words status before now =
    KeepsPrint kind file (slice_index_or words file []) status before now
Keeps (Some (PrintSchema file)) words status before now = KeepsPrintSchema file (slice_index_or words file []) status before now
Keeps (Some (PrintEvents schema events)) words status before now =
    KeepsPrintEvents schema (slice_index_or words schema []) events (slice_index_or words events []) status before now
Keeps (Some (Regenerate schema events trace)) words status before now =
    KeepsRegenerate schema (slice_index_or words schema []) events (slice_index_or words events []) (slice_index_or words trace []) status before now

-- What the words ask for was carried out, up to the line of the status: its promise is kept, a device's fault is the status
-- only where that device failed, and only words that ask for nothing are `Usage`.
pub record CarriesOut (words : List (List ℕ)) (status : Status) (before now : World) : Type 0 where
  pub usage : (status ≡ Usage) ↔ (task_in words ≡ None)
  pub keeps : Keeps (task_in words) words status before now
  pub blames : BlamesDevices status before now

-- the outside when the status was known: only the second output gets something behind that
abbrev pub with_err : World → (err : Port (List ℕ)) → World
with_err now err = record now { streams = record now.streams { err = err } }

-- The whole promise of the top call.
pub record Answers (words : List (List ℕ)) (status : Status) (before now : World) : Type 0 where
  -- the second output when the status was known; then it gets the line of the status
  pub err : Port (List ℕ)
  pub carries : CarriesOut words status before (with_err now err)
  pub line : LineBehind words status err now.streams.err
  -- a device's fault is the status exactly where its count rose in this call
  pub store : Blames (status ≡ StoreFault) before.store.faults now.store.faults
  pub input : Blames (status ≡ InputFault) before.streams.input.faults now.streams.input.faults
  pub out : Blames (status ≡ OutFault) before.streams.out.faults now.streams.out.faults
  -- the second output's may also rise at the line of the status, which changes nothing
  pub err_fault : status ≡ ErrFault → HasRisen before.streams.err.faults now.streams.err.faults
  pub err_later : before.streams.err.faults ≤ now.streams.err.faults
  pub done : status ≡ Done → now.streams.err.faults ≡ before.streams.err.faults
  pub faulted : (ending : Ending) → status ≡ Faulted ending → now.streams.err.faults ≡ before.streams.err.faults

-- the exit code is that of such a status
pub record AnswersCode (words : List (List ℕ)) (code : ℕ) (before now : World) : Type 0 where
  pub status : Status
  pub exits : code ≡ exit_code_of status
  pub answers : Answers words status before now
