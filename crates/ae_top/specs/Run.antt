-- What `run PROG` promises.
use Rattle.std.specs.Prelude.{◌≡◌, ◌≢◌, ◌⊎◌, ℕ, List, Result, Err}
use Rattle.ae_ports.specs.Files.{SameFiles}
use Rattle.rv_machine.specs.declared.outcome.MachineFault.{MachineFault}
use Rattle.rv_machine.specs.declared.outcome.MachineFault.TheVariants.{EventFault}
use Rattle.rv_machine.specs.declared.outcome.Outcome.{Outcome}
use Rattle.ae_top.specs.declared.status.Status.{Status}
use Rattle.ae_top.specs.NoFile.{HasNoFile}
use Rattle.ae_top.specs.Refusing.{refusal_of}
use Rattle.ae_top.specs.Running.{RanFile, status_of}
use Rattle.ae_top.specs.World.{World}

-- PROG was run. The store has no part in that.
pub record IsRun (name : List ℕ) (fuel : ℕ) (status : Status) (before now : World) : Type 0 where
  pub answer : Result Outcome MachineFault
  pub says : status ≡ status_of fuel answer
  pub ran : RanFile refusal_of name fuel answer before now
  pub served : answer ≢ Err EventFault
  pub files : SameFiles before.store.told now.store.told

-- PROG, which is the word at this place and has this name, isn't to be had, or it was run.
abbrev pub KeepsRun : (prog : ℕ) → (name : List ℕ) → (fuel : ℕ) → Status → (before now : World) → Type 0
KeepsRun prog name fuel status before now =
    HasNoFile refusal_of prog name status before now ⊎ IsRun name fuel status before now
