-- From what the parts of a command did to what the command promises.
use Rattle.std.proofs.Common.{◌≡◌, ℕ, List, Option, Result, Some, inr, refl, sym, ◌∙◌, subst}
use Rattle.std.specs.Prelude.{IsErrOf}
use Rattle.ae_nums.specs.Trace.{trace_text}
use Rattle.ae_ports.specs.Files.{Files, SameFiles}
use Rattle.rv_machine.specs.declared.outcome.MachineFault.{MachineFault}
use Rattle.rv_machine.specs.declared.outcome.Outcome.{Outcome}
use Rattle.rv_machine.specs.Held.{Held}
use Rattle.rv_machine.specs.Outcomes.{run_in, items_in_run}
use Rattle.rv_machine.specs.Run.{items_of}
use Rattle.ae_top.specs.declared.no_file.NoFile.{NoFile}
use Rattle.ae_top.specs.declared.refusal.Refusal.{Refusal}
use Rattle.ae_top.specs.declared.status.Status.{Status}
use Rattle.ae_top.specs.Inner.Command.{Carries}
use Rattle.ae_top.specs.Inner.Machine.{RanMachine}
use Rattle.ae_top.specs.NoFile.{Lacks, HasNoFile, status_without}
use Rattle.ae_top.specs.Plain.{TraceHas}
use Rattle.ae_top.specs.Inner.Loading.{IsLoaded}
use Rattle.ae_top.specs.Running.{RanAs, RanFile, status_of}
use Rattle.ae_top.specs.World.{World, Blames, BlamesDevices}
use Rattle.ae_top.proofs.Blamed.{run_blames, run_unused, no_file_blames, store_blames, without_unused}

-- there is no file to work on
module _ (asks : List ℕ → Option Refusal) (word : ℕ) (name : List ℕ) (why : NoFile) (status : Status) (before now : World)
    (is : status ≡ status_without why word) (lacks : Lacks asks before.store.told name why) (same : now.streams ≡ before.streams)
    (files : SameFiles before.store.told now.store.told) (store : Blames (why ≡ NoFile.StoreFault) before.store.faults now.store.faults) where
  no_file : HasNoFile asks word name status before now
  no_file = record { why = why; lacks = lacks; says = is; streams = same; files = files }

  pub carries_no_file : (promise : Type 0) → (HasNoFile asks word name status before now → promise) → Carries promise status before now
  carries_no_file promise keeps =
      record {
        keeps = keeps no_file;
        blames = subst (λ s. BlamesDevices s before now) (sym is) (no_file_blames why word before now same store);
        used = λ usage. without_unused why word (sym is ∙ usage);
      }

-- a machine that was loaded and run
module _ (asks : List ℕ → Option Refusal) (name : List ℕ) (machine : Held) (fuel : ℕ) (answer : Result Outcome MachineFault) (before now : World)
    (loaded : IsLoaded asks before.store.told name machine) (ran : RanMachine machine fuel answer before.streams now.streams) where
  abbrev pub ran_file : RanFile asks name fuel answer before now
  ran_file =
      record {
        bytes = loaded.bytes;
        has = loaded.has;
        image = loaded.image;
        taken = loaded.taken;
        ran = λ input tells. subst (λ (m : Held). RanAs answer (run_in m input fuel) before.streams now.streams) loaded.loaded (ran.ran input tells);
        shows = ran.shows;
      }

  pub carries_run : (promise : Type 0) (status : Status) → status ≡ status_of fuel answer → Blames (IsErrOf answer MachineFault.EventFault) before.store.faults now.store.faults
      → promise → Carries promise status before now
  carries_run promise status is store keeps =
      record {
        keeps = keeps;
        blames = subst (λ s. BlamesDevices s before now) (sym is) (run_blames fuel answer before now store ran.blames);
        used = λ usage. run_unused fuel answer (sym is ∙ usage);
      }

-- the lines of its items
pub lines_of : (asks : List ℕ → Option Refusal) (name trace : List ℕ) (machine : Held) (fuel : ℕ) (answer : Result Outcome MachineFault) (told files : Option Files) (input : Option (List ℕ))
    → (loaded : IsLoaded asks told name machine)
    → ((bytes : List ℕ) → input ≡ Some bytes → TraceHas answer (trace_text (items_in_run machine bytes fuel)) files trace)
    → (bytes : List ℕ) → input ≡ Some bytes → TraceHas answer (trace_text (items_of loaded.image bytes fuel)) files trace
lines_of asks name trace machine fuel answer told files input loaded lines bytes tells =
    subst (λ (m : Held). TraceHas answer (trace_text (items_in_run m bytes fuel)) files trace) loaded.loaded (lines bytes tells)

-- TRACE couldn't be made
pub carries_unmade : (promise : Type 0) (before now : World) → now.streams ≡ before.streams → Blames (Status.StoreFault ≡ Status.StoreFault) before.store.faults now.store.faults
    → promise → Carries promise Status.StoreFault before now
carries_unmade promise before now same store keeps =
    record { keeps = keeps; blames = store_blames Status.StoreFault before now same (inr refl) store; used = λ usage. absurd (cc usage) }
