-- The events of a run: what is recorded of its steps, in order, so that its trace can be rebuilt. A shape says which records each address
-- may have, and which registers each target needs. This project's own.
use Rattle.std.specs.Prelude.{◌≡◌, ℕ, zero, suc, Bool, List, [], ◌∷◌, ◌++◌, map, Option, Some, None, if◌then◌else◌}
use Rattle.rv_code.specs.declared.ending.Ending.{Ending}
use Rattle.rv_code.specs.declared.ending.Ending.TheVariants.{Exit, Illegal, Breakpoint, LoadFault, StoreFault, FetchFault, JumpMisaligned}
use Rattle.rv_code.specs.declared.image.Image.{Image}
use Rattle.rv_code.specs.Endings.{kind_of, detail_of}
use Rattle.rv_code.specs.Table.{meaning_of}
use Rattle.rv_machine.specs.Events.{address_at_end}
use Rattle.rv_machine.specs.State.{State, register_of}
use Rattle.rv_machine.specs.Effect.{Effect, Passes, Sets, Stores, Jumps, Gives, Takes, Ends}
use Rattle.rv_machine.specs.Calls.{effect_of}
use Rattle.rv_machine.specs.Step.{Program, program_of, StepOutcome, Went, EndedWith, settled, fetched, step_of}
use Rattle.rv_machine.specs.Start.{start_of}
use Rattle.flow_graph.specs.CodeParts.{CodeParts}
use Rattle.ev_format.specs.declared.record.Record.{Record}
use Rattle.ev_format.specs.declared.record.Record.TheVariants.{Fall, Taken, Value, Landing, End}
use Rattle.ev_format.specs.Laws.{file_of_records}
use Rattle.ev_format.specs.Shapes.{ShapeView, registers_needed}
use Rattle.schema_form.specs.CodeShape.{IsShapeOf}

-- the record, if its address may have it
abbrev pub recorded_if : Bool → Record → List Record
recorded_if may rec = if may then rec ∷ [] else []

-- the values of the registers that a target needs
abbrev pub values_needed : (needs : Option ℕ) → (registers : List ℕ) → List ℕ
values_needed needs registers = map (register_of registers) (registers_needed needs)

abbrev pub end_event : (at : ℕ) → Ending → Record
end_event at ending = End (address_at_end at ending) (kind_of ending) (detail_of ending)

-- what is recorded of the word at an address, with these registers after the step
module _ (shape : ShapeView) (at : ℕ) (registers : List ℕ) where
  -- what a register got, of a load or of a call that returned
  abbrev pub value_events : (register : ℕ) → List Record
  value_events register = recorded_if (shape.slot at).value (Value at (register_of registers register))

  -- that the word went on to the next
  abbrev pub fall_events : List Record
  fall_events = recorded_if (shape.slot at).fall (Fall at)

  -- where an indirect jump landed; or that a direct jump, or a branch whose condition held, took its edge
  abbrev pub jump_events : (target : ℕ) → List Record
  jump_events target =
      if (shape.slot at).landing then Landing at target (values_needed (shape.needs target) registers) ∷ []
      else recorded_if (shape.slot at).taken (Taken at)

  -- a jump to a misaligned target is one, though it ends the run
  abbrev pub events_at_end : Ending → List Record
  events_at_end (JumpMisaligned target) = jump_events target
  events_at_end (Exit code) = []
  events_at_end (Illegal word) = []
  events_at_end Breakpoint = []
  events_at_end (LoadFault address) = []
  events_at_end (StoreFault address) = []
  events_at_end (FetchFault address) = []

  -- all of it, by what the word did: a value or a landing comes before the edge, and the end comes last
  abbrev pub effect_events : Effect → List Record
  effect_events Passes = fall_events
  effect_events (Sets register value access) = value_events register ++ fall_events
  effect_events (Stores addresses bytes access) = fall_events
  effect_events (Jumps link target) = jump_events target
  effect_events (Gives channel bytes) = value_events 10 ++ fall_events
  effect_events (Takes addresses) = value_events 10 ++ fall_events
  effect_events (Ends ending) = events_at_end ending ++ end_event at ending ∷ []

-- the registers after a step from this state; an ending leaves the state as it was
abbrev pub registers_after : State → StepOutcome → List ℕ
registers_after s (Went next items) = next.registers
registers_after s (EndedWith ending items) = s.registers

-- the events of a word that did this
abbrev pub word_events : ShapeView → State → Effect → List Record
word_events shape s effect = effect_events shape s.pc (registers_after s (settled s effect)) effect

-- the events of a word carried out, or of a fetch that failed
abbrev pub events_of_fetched : ShapeView → (has_note : Bool) → State → Option ℕ → List Record
events_of_fetched shape has_note s None = end_event s.pc (FetchFault s.pc) ∷ []
events_of_fetched shape has_note s (Some word) = word_events shape s (effect_of has_note (meaning_of word) s.pc s.registers s.memory)

-- the events of one step
unfoldable pub step_events : ShapeView → Program → State → List Record
step_events shape program s = events_of_fetched shape program.has_note s (fetched program s)

-- what comes behind a step, where the run goes on
abbrev pub events_behind_step : StepOutcome → (rest : State → List Record) → List Record
events_behind_step (Went next items) rest = rest next
events_behind_step (EndedWith ending items) rest = []

-- the events of at most so many steps from a state on
unfoldable pub events_from : ShapeView → Program → ℕ → State → List Record
events_from shape program zero s = []
events_from shape program (suc count) s =
    step_events shape program s ++ events_behind_step (step_of program s) (λ next. events_from shape program count next)

-- the events of the run of an image on an input, at most so many steps
abbrev pub events_of : ShapeView → Image → List ℕ → ℕ → List Record
events_of shape image input count = events_from shape (program_of image) count (start_of image input)

-- the event file of that run, once it has ended
abbrev pub event_file_of : ShapeView → Image → List ℕ → ℕ → List ℕ
event_file_of shape image input count = file_of_records shape (events_of shape image input count)

pub record HaveSameEvents (one other : ShapeView) : Type 0 where
  pub events : (program : Program) (count : ℕ) (s : State) → events_from one program count s ≡ events_from other program count s
  pub files : (image : Image) (input : List ℕ) (count : ℕ) → event_file_of one image input count ≡ event_file_of other image input count

-- under given marks of the code's edges, each run has one list of events and one event file
abbrev pub EventsAreDetermined : Type 0
EventsAreDetermined =
    (parts : CodeParts) (marks : List Bool) (one other : ShapeView) → IsShapeOf parts marks one → IsShapeOf parts marks other → HaveSameEvents one other
