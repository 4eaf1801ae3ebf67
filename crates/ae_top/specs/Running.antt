-- What is said of a run of an executable, by the machine's answer, once the second output has been given the line of
-- the run's ending. `run` and `plain` have this in common.
use Rattle.std.specs.Prelude.{◌≡◌, ℕ, List, ◌++◌, Option, Some, None, Result, Ok, Err}
use Rattle.ae_ports.specs.Content.{Appends, AppendsFront}
use Rattle.ae_ports.specs.Files.{HasBytes}
use Rattle.elf_image.specs.Accepted.{IsAccepted}
use Rattle.rv_code.specs.declared.ending.Ending.TheVariants.{Exit}
use Rattle.rv_code.specs.declared.image.Image.{Image}
use Rattle.rv_machine.specs.declared.outcome.MachineFault.{MachineFault}
use Rattle.rv_machine.specs.declared.outcome.MachineFault.TheVariants.{EventFault}
use Rattle.rv_machine.specs.declared.outcome.Outcome.{Outcome}
use Rattle.rv_machine.specs.declared.outcome.Outcome.TheVariants.{Ended, Spent}
use Rattle.rv_machine.specs.Outcomes.{outcome_of}
use Rattle.rv_machine.specs.Run.{Run, run_of}
use Rattle.ae_top.specs.declared.refusal.Refusal.{Refusal}
use Rattle.ae_top.specs.declared.status.Status.{Status}
use Rattle.ae_top.specs.declared.status.Status.TheVariants.{Done, StoreFault, FuelSpent, Faulted}
use Rattle.ae_top.specs.EndingLines.{line_of_outcome}
use Rattle.ae_top.specs.World.{Streams, World}

-- the status of a run that had so much fuel; a fault of the machine's events or items is the store's
abbrev pub status_of : (fuel : ℕ) → Result Outcome MachineFault → Status
status_of fuel (Ok (Ended (Exit code))) = Done
status_of fuel (Ok (Ended ending)) = Faulted ending
status_of fuel (Ok Spent) = FuelSpent fuel
status_of fuel (Err MachineFault.InputFault) = Status.InputFault
status_of fuel (Err MachineFault.OutFault) = Status.OutFault
status_of fuel (Err MachineFault.ErrFault) = Status.ErrFault
status_of fuel (Err EventFault) = StoreFault

-- The outputs got all that the run gives, the second one also the ending's line if it has ended; and the input has what
-- the run left.
pub record GivesAll (r : Run) (before now : Streams) : Type 0 where
  pub input : now.input.told ≡ Some r.last.input
  pub out : Appends before.out.told now.out.told r.last.out
  pub err : Appends before.err.told now.err.told (r.last.err ++ line_of_outcome (outcome_of r.ending))

-- the outputs got fronts of that
pub record GivesFronts (r : Run) (before now : Streams) : Type 0 where
  pub out : AppendsFront before.out.told now.out.told r.last.out
  pub err : AppendsFront before.err.told now.err.told (r.last.err ++ line_of_outcome (outcome_of r.ending))

-- the answer says how the run stands, and the streams got as much of it
abbrev pub RanAs : Result Outcome MachineFault → Run → (before now : Streams) → Type 0
RanAs (Ok outcome) r before now = (outcome ≡ outcome_of r.ending) × GivesAll r before now
RanAs (Err fault) r before now = GivesFronts r before now

-- What is shown whatever the input tells: a run that ended gave its ending's line behind all else to the second output.
abbrev pub ShowsEnd : Result Outcome MachineFault → (before now : Option (List ℕ)) → Type 0
ShowsEnd (Ok outcome) before now = (shown : List ℕ) × Appends before now (shown ++ line_of_outcome outcome)
ShowsEnd (Err fault) before now = (shown : List ℕ) × Appends before now shown

-- the file with these bytes is accepted and not refused, and this is its image
pub record IsUsable (asks : List ℕ → Option Refusal) (bytes : List ℕ) (image : Image) : Type 0 where
  pub accepted : IsAccepted bytes image
  pub asked : asks bytes ≡ None

-- The file of this name isn't refused, and its image was run. What the run comes to is said where the input told its
-- bytes.
pub record RanFile (asks : List ℕ → Option Refusal) (name : List ℕ) (fuel : ℕ) (answer : Result Outcome MachineFault)
    (before now : World) : Type 0 where
  pub bytes : List ℕ
  pub has : HasBytes before.store.told name bytes
  pub image : Image
  pub taken : IsUsable asks bytes image
  pub ran : (input : List ℕ) → before.streams.input.told ≡ Some input
      → RanAs answer (run_of image input fuel) before.streams now.streams
  pub shows : ShowsEnd answer before.streams.err.told now.streams.err.told
