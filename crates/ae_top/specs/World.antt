-- The outside at one moment: what each device tells, and its count of faults. And whose fault a status is.
use Rattle.std.specs.Prelude.{◌≡◌, ℕ, ◌≤◌, List, Option}
use Rattle.ae_ports.specs.Fault.{HasRisen}
use Rattle.ae_ports.specs.Files.{Files, SameFiles}
use Rattle.ae_top.specs.declared.status.Status.{Status}
use Rattle.ae_top.specs.declared.status.Status.TheVariants.{StoreFault, InputFault, OutFault, ErrFault}

-- a device: what it tells, if it tells, and how many faults there were
pub record Port (T : Type 0) : Type 0 where
  pub told : Option T
  pub faults : ℕ

-- the input tells the bytes that it has left, the outputs those that they have taken
pub record Streams : Type 0 where
  pub input : Port (List ℕ)
  pub out : Port (List ℕ)
  pub err : Port (List ℕ)

-- the store tells its files
pub record World : Type 0 where
  pub store : Port Files
  pub streams : Streams

-- each of these by its parts
abbrev pub port : {T : Type 0} → Option T → ℕ → Port T
port told faults = record { told = told; faults = faults }

abbrev pub streams : (input out err : Port (List ℕ)) → Streams
streams input out err = record { input = input; out = out; err = err }

abbrev pub world : (store : Port Files) → (input out err : Port (List ℕ)) → World
world store input out err = record { store = store; streams = streams input out err }

-- nothing was done
pub record KeepsAll (before now : World) : Type 0 where
  pub streams : now.streams ≡ before.streams
  pub files : SameFiles before.store.told now.store.told

-- A device's count of faults, before and now, beside whether its fault was answered: the count has risen where it was,
-- and is as before where it wasn't. It doesn't fall.
pub record Blames (failed : Type 0) (before now : ℕ) : Type 0 where
  pub later : before ≤ now
  pub same : (failed → ⊥) → now ≡ before
  pub risen : failed → HasRisen before now

-- so it is with all four devices by the status
pub record BlamesDevices (status : Status) (before now : World) : Type 0 where
  pub store : Blames (status ≡ StoreFault) before.store.faults now.store.faults
  pub input : Blames (status ≡ InputFault) before.streams.input.faults now.streams.input.faults
  pub out : Blames (status ≡ OutFault) before.streams.out.faults now.streams.out.faults
  pub err : Blames (status ≡ ErrFault) before.streams.err.faults now.streams.err.faults
