-- What `plain PROG TRACE` promises.
use Rattle.std.specs.Prelude.{◌≡◌, ◌⊎◌, ℕ, ◌≤◌, List, length, take, Option, Some, Result, Ok, Err}
use Rattle.ae_nums.specs.Trace.{trace_text}
use Rattle.ae_ports.specs.Files.{Files, SameOthers, SameFile, IsEmptyFile, HasBytes}
use Rattle.rv_code.specs.declared.image.Image.{Image}
use Rattle.rv_machine.specs.declared.outcome.MachineFault.{MachineFault}
use Rattle.rv_machine.specs.declared.outcome.Outcome.{Outcome}
use Rattle.rv_machine.specs.Run.{items_of}
use Rattle.ae_top.specs.declared.status.Status.{Status}
use Rattle.ae_top.specs.declared.status.Status.TheVariants.{StoreFault}
use Rattle.ae_top.specs.NoFile.{HasNoFile}
use Rattle.ae_top.specs.Refusing.{traced_refusal}
use Rattle.ae_top.specs.Running.{IsUsable, RanFile, status_of}
use Rattle.ae_top.specs.World.{World}

-- the file of this name has a front of these bytes, where the files are told
abbrev pub HasFront : Option Files → List ℕ → List ℕ → Type 0
HasFront told name bytes = (count : ℕ) × (count ≤ length bytes) × HasBytes told name (take count bytes)

-- what TRACE has of a text: all of it, or after a device's fault the front of it that was handed on before
abbrev pub TraceHas : Result Outcome MachineFault → (text : List ℕ) → Option Files → (trace : List ℕ) → Type 0
TraceHas (Ok outcome) text files trace = HasBytes files trace text
TraceHas (Err fault) text files trace = HasFront files trace text

-- PROG is accepted and isn't refused, but TRACE couldn't be made, and nothing was run.
pub record IsUnmade (name trace : List ℕ) (status : Status) (before now : World) : Type 0 where
  pub says : status ≡ StoreFault
  pub bytes : List ℕ
  pub has : HasBytes before.store.told name bytes
  pub image : Image
  pub taken : IsUsable traced_refusal bytes image
  pub streams : now.streams ≡ before.streams
  pub file : SameFile before.store.told now.store.told trace ⊎ IsEmptyFile now.store.told trace
  pub others : SameOthers before.store.told now.store.told trace

-- PROG was run, and the lines of its items went to TRACE.
pub record IsTraced (name trace : List ℕ) (fuel : ℕ) (status : Status) (before now : World) : Type 0 where
  pub answer : Result Outcome MachineFault
  pub says : status ≡ status_of fuel answer
  pub ran : RanFile traced_refusal name fuel answer before now
  pub lines : (input : List ℕ) → before.streams.input.told ≡ Some input
      → TraceHas answer (trace_text (items_of ran.image input fuel)) now.store.told trace
  pub others : SameOthers before.store.told now.store.told trace

-- PROG, which is the word at this place and has this name, isn't to be had; or TRACE, which has that name, couldn't be
-- made; or PROG was run.
abbrev pub KeepsPlain : (prog : ℕ) → (name trace : List ℕ) → (fuel : ℕ) → Status → (before now : World) → Type 0
KeepsPlain prog name trace fuel status before now =
    HasNoFile traced_refusal prog name status before now
    ⊎ (IsUnmade name trace status before now ⊎ IsTraced name trace fuel status before now)
