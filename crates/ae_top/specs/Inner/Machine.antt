-- A machine that was run, and the line of its run's ending.
use Rattle.std.specs.Prelude.{◌≡◌, ℕ, List, Option, Some, Result, Ok, Err, IsErrOf}
use Rattle.ae_ports.specs.Content.{Appends, AppendsFront}
use Rattle.rv_machine.specs.declared.outcome.MachineFault.{MachineFault}
use Rattle.rv_machine.specs.declared.outcome.MachineFault.TheVariants.{ErrFault}
use Rattle.rv_machine.specs.declared.outcome.Outcome.{Outcome}
use Rattle.rv_machine.specs.Held.{Held}
use Rattle.rv_machine.specs.Outcomes.{run_in}
use Rattle.ae_top.specs.EndingLines.{line_of_outcome}
use Rattle.ae_top.specs.Running.{RanAs, ShowsEnd}
use Rattle.ae_top.specs.World.{Streams, Blames}

-- the second output got the line of the ending, or a front of it
abbrev pub TellsEnd : Outcome → Result Outcome MachineFault → (before now : Option (List ℕ)) → Type 0
TellsEnd outcome (Ok shown) before now = (shown ≡ outcome) × Appends before now (line_of_outcome outcome)
TellsEnd outcome (Err fault) before now = (fault ≡ ErrFault) × AppendsFront before now (line_of_outcome outcome)

-- a stream's fault is answered only where that stream failed
pub record BlamesStreams (answer : Result Outcome MachineFault) (before now : Streams) : Type 0 where
  pub input : Blames (IsErrOf answer MachineFault.InputFault) before.input.faults now.input.faults
  pub out : Blames (IsErrOf answer MachineFault.OutFault) before.out.faults now.out.faults
  pub err : Blames (IsErrOf answer MachineFault.ErrFault) before.err.faults now.err.faults

-- a machine that stood before its first step was run
pub record RanMachine (machine : Held) (fuel : ℕ) (answer : Result Outcome MachineFault) (before now : Streams) : Type 0
  where
    pub ran : (input : List ℕ) → before.input.told ≡ Some input → RanAs answer (run_in machine input fuel) before now
    pub shows : ShowsEnd answer before.err.told now.err.told
    pub blames : BlamesStreams answer before now
