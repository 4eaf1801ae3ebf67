-- What a machine holds, and what it and the outside have to do with the state of a run.
use Rattle.std.specs.Prelude.{ℕ, List, [], Option, None, Some, Result, Ok, Err, is_some}
use Rattle.rv_code.specs.declared.ending.Ending.{Ending}
use Rattle.rv_code.specs.declared.image.Image.{Image}
use Rattle.rv_code.specs.declared.image.Note.{Note}
use Rattle.rv_code.specs.declared.extent.Extent.{Extent}
use Rattle.rv_code.specs.Code.{extents_of}
use Rattle.rv_memory.specs.Stretches.{Mapping, memory_of, mapping_of}
use Rattle.rv_machine.specs.declared.outcome.MachineFault.{MachineFault}
use Rattle.rv_machine.specs.State.{State}
use Rattle.rv_machine.specs.Step.{Program}
use Rattle.rv_machine.specs.Start.{first_registers}

-- a machine: where its code stands, its note, and of the state all but what the outside has
pub record Held : Type 0 where
  pub code : List Extent
  pub note : Option Note
  pub pc : ℕ
  pub registers : List ℕ
  -- what is mapped
  pub memory : Mapping
  -- the ending or the fault that each later call answers, none while the machine can go on
  pub kept : Option (Result Ending MachineFault)

-- what the outside has of a state
pub record Outside : Type 0 where
  pub input : List ℕ
  pub out : List ℕ
  pub err : List ℕ
  pub events : List ℕ

-- this input, and nothing given yet
abbrev pub fresh : List ℕ → Outside
fresh input = record { input = input; out = []; err = []; events = [] }

abbrev pub outside_of : State → Outside
outside_of s = record { input = s.input; out = s.out; err = s.err; events = s.events }

abbrev pub program_in : Held → Program
program_in held = record { code = held.code; has_note = is_some held.note }

-- the state of a machine and the outside together
abbrev pub state_of : Held → Outside → State
state_of held outside =
    record {
      pc = held.pc;
      registers = held.registers;
      memory = memory_of held.memory;
      input = outside.input;
      out = outside.out;
      err = outside.err;
      events = outside.events;
    }

-- the ending that a machine has come to
abbrev pub ending_by : Option (Result Ending MachineFault) → Option Ending
ending_by None = None
ending_by (Some (Ok ending)) = Some ending
ending_by (Some (Err fault)) = None

-- a machine that has taken no step yet
abbrev pub loaded_of : Image → Held
loaded_of image =
    record {
      code = extents_of image.code;
      note = image.note;
      pc = image.entry;
      registers = first_registers;
      memory = mapping_of image.regions;
      kept = None;
    }
