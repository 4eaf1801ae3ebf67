-- What the parts of a step do, by what comes of it: `outcome` gives it at whatever the outside has.
use Rattle.std.specs.Prelude.{◌≡◌, ℕ, ◌+◌, ◌<◌, ◌≤◌, ◌&&◌, nat_le, is_none, is_some, Bool, true, false, List, [], ◌∷◌, ◌++◌, length, Option, Some, None, Result, Ok, Err}
use Rattle.std.specs.List.{list_all}
use Rattle.std.specs.Option.{option_to_list}
use Rattle.ae_nums.specs.declared.item.Item.{Item}
use Rattle.ae_nums.specs.declared.item.Item.TheVariants.{Fetch}
use Rattle.ae_ports.specs.declared.failed.Failed.{Failed}
use Rattle.ae_ports.specs.Content.{Consumes, Appends, AppendsFront, IsAtEnd}
use Rattle.rv_code.specs.Addresses.{tracer_start}
use Rattle.rv_code.specs.declared.ending.Ending.{Ending}
use Rattle.rv_code.specs.declared.instr.Instr.{Instr}
use Rattle.rv_code.specs.declared.instr.LoadOp.{LoadOp}
use Rattle.rv_code.specs.declared.instr.StoreOp.{StoreOp}
use Rattle.rv_code.specs.declared.instr.Instr.TheVariants.{Ecall}
use Rattle.rv_memory.specs.Stretches.{memory_of}
use Rattle.rv_memory.specs.Outline.{outline}
use Rattle.rv_memory.specs.Memory.{Cell, span, bytes_at, first_hole, first_shut, written}
use Rattle.rv_code.specs.Numbers.{wrap}
use Rattle.rv_machine.specs.declared.acted.Acted.{Acted}
use Rattle.rv_machine.specs.declared.acted.Alone.{Alone}
use Rattle.rv_machine.specs.declared.acted.Gone.{Gone}
use Rattle.rv_machine.specs.declared.outcome.MachineFault.{MachineFault}
use Rattle.rv_machine.specs.declared.outcome.MachineFault.TheVariants.{EventFault}
use Rattle.rv_machine.specs.declared.seen.Step.{Step}
use Rattle.rv_machine.specs.State.{State, register_of, with_register}
use Rattle.rv_machine.specs.Effect.{Effect, load_at, load_size, store_at, store_size}
use Rattle.rv_machine.specs.Calls.{read_call, write_call, effect_of}
use Rattle.rv_machine.specs.Step.{StepOutcome, Went, EndedWith, settled, step_of}
use Rattle.rv_machine.specs.Laws.{IsFrontOf}
use Rattle.rv_machine.specs.Held.{Held, Outside, program_in, state_of}
use Rattle.rv_machine.specs.Ports.{Told, Passed, HasPassed}
use Rattle.rv_machine.specs.Outcomes.{items_in, TookFront}

-- what comes of an effect at each outside
abbrev pub made_of : Effect → Held → Outside → StepOutcome
made_of effect held outside = settled (state_of held outside) effect

-- the same of an instruction
abbrev pub made_by : Instr → Held → Outside → StepOutcome
made_by instr held = made_of (effect_of (is_some held.note) instr held.pc held.registers (memory_of held.memory)) held

-- the buffer of a call
abbrev pub buffer_in : Held → List ℕ
buffer_in held = span (register_of held.registers 11) (register_of held.registers 12)

-- the effects of the calls that move bytes
abbrev pub read_in : Held → Effect
read_in held = read_call (register_of held.registers 10) (buffer_in held) (memory_of held.memory)

abbrev pub write_in : Held → Effect
write_in held = write_call (is_some held.note) (register_of held.registers 10) (register_of held.registers 12) (buffer_in held) (memory_of held.memory)

-- the effects of a load and a store at an address
abbrev pub load_in : LoadOp → (rd address : ℕ) → Held → Effect
load_in op rd address held =
    load_at op rd address (memory_of held.memory) (first_hole (memory_of held.memory) (span address (load_size op)))

abbrev pub store_in : StoreOp → (value address : ℕ) → Held → Effect
store_in op value address held = store_at op value address (first_shut (memory_of held.memory) (span address (store_size op)))

-- what a machine keeps through each step
pub record Stays (before now : Held) : Type 0 where
  pub program : program_in now ≡ program_in before
  pub note : now.note ≡ before.note
  pub outline : outline now.memory.stretches ≡ outline before.memory.stretches
  pub kept : now.kept ≡ before.kept

-- An instruction was carried out, without the ports: it went on with this access, or is to end the run.
pub record WentAlone (outcome : Outside → StepOutcome) (before : Held) (access : Option Item) (now : Held) : Type 0 where
  pub step : (outside : Outside) → outcome outside ≡ Went (state_of now outside) (option_to_list access)
  pub stays : Stays before now

pub record EndsAlone (outcome : Outside → StepOutcome) (before : Held) (ending : Ending) (now : Held) : Type 0 where
  pub step : (outside : Outside) → outcome outside ≡ EndedWith ending []
  pub same : now ≡ before

-- a machine with another pc
abbrev pub at : ℕ → Held → Held
at pc held = record held { pc = pc }

-- what an instruction at an address comes to
abbrev pub made_at : Instr → ℕ → Held → Outside → StepOutcome
made_at instr pc held = made_by instr (at pc held)

-- a machine with a register set
abbrev pub with_register_set : Held → ℕ → ℕ → Held
with_register_set held register value = record held { registers = with_register held.registers register value }

-- so it went on from an address; the machine's own pc isn't looked at
abbrev pub GoesOn : (outcome : Outside → StepOutcome) → (pc : ℕ) → (before : Held) → Gone → (now : Held) → Type 0
GoesOn outcome pc before gone now = WentAlone outcome (at pc before) gone.access (at gone.next now)

abbrev pub ActsAlone : (outcome : Outside → StepOutcome) → (pc : ℕ) → (before : Held) → Alone → (now : Held) → Type 0
ActsAlone outcome pc before (Alone.Went gone) now = GoesOn outcome pc before gone now
ActsAlone outcome pc before (Alone.Ended ending) now = EndsAlone outcome before ending now

-- the pc was put where it went on
abbrev pub Settles : Alone → (before : Held) → Acted → (now : Held) → Type 0
Settles (Alone.Went gone) before (Acted.Went access) now = (access ≡ gone.access) × (now ≡ at gone.next before)
Settles (Alone.Went gone) before (Acted.Ended ending) now = ⊥
Settles (Alone.Ended last) before (Acted.Went access) now = ⊥
Settles (Alone.Ended last) before (Acted.Ended ending) now = (ending ≡ last) × (now ≡ before)

-- the same, or it is a call and nothing was done
abbrev pub ActsUnlessCall : Instr → (pc : ℕ) → (before : Held) → Option Alone → (now : Held) → Type 0
ActsUnlessCall instr pc before None now = (instr ≡ Ecall) × (now ≡ before)
ActsUnlessCall instr pc before (Some alone) now = ActsAlone (made_at instr pc before) pc before alone now

-- a step from an address that calls no port and doesn't end
pub record StepsTo (pc : ℕ) (before : Held) (gone : Gone) (now : Held) : Type 0 where
  pub step :
      (outside : Outside)
      → step_of (program_in before) (state_of (at pc before) outside) ≡ Went (state_of (at gone.next now) outside) (Fetch pc ∷ option_to_list gone.access)
  pub stays : Stays before now

-- such a step was made, or nothing was done
abbrev pub StepsAlone : (pc : ℕ) → (before : Held) → Option Gone → (now : Held) → Type 0
StepsAlone pc before None now = now ≡ before
StepsAlone pc before (Some gone) now = StepsTo pc before gone now

-- the outputs before these bytes passed and after
pub record Follows (before next : Outside) (passed : Passed) : Type 0 where
  pub out : next.out ≡ before.out ++ passed.out
  pub err : next.err ≡ before.err ++ passed.err
  pub events : next.events ≡ before.events ++ passed.events

-- these bytes had been given on the way to a state
pub record GivenBefore (before : Outside) (passed : Passed) (next : State) : Type 0 where
  pub out : IsFrontOf (before.out ++ passed.out) next.out
  pub err : IsFrontOf (before.err ++ passed.err) next.err
  pub events : IsFrontOf (before.events ++ passed.events) next.events

-- the same with the ports: it went on
pub record WentOn (outcome : Outside → StepOutcome) (before : Held) (told : Told) (items : List Item) (now : Held) (told_now : Told) : Type 0 where
  pub passed : Passed
  pub ports : HasPassed told told_now passed
  -- whatever the outside has, the outcome goes on with these items
  pub goes : (outside : Outside) → (next : State) × (outcome outside ≡ Went next items)
  pub step :
      (outside : Outside) → told.input ≡ Some outside.input
      → (next : Outside) × Follows outside next passed × (told_now.input ≡ Some next.input) × (outcome outside ≡ Went (state_of now next) items)
  pub stays : Stays before now

-- it is to end the run
pub record Stops (outcome : Outside → StepOutcome) (before : Held) (told : Told) (ending : Ending) (items : List Item) (now : Held) (told_now : Told) : Type 0 where
  pub step : (outside : Outside) → outcome outside ≡ EndedWith ending items
  pub same : now ≡ before
  pub ports : told_now ≡ told

-- a port failed on the way to the next state
pub record Breaks (outcome : Outside → StepOutcome) (before : Held) (told : Told) (now : Held) (told_now : Told) : Type 0 where
  pub passed : Passed
  pub ports : HasPassed told told_now passed
  pub step :
      (outside : Outside) → told.input ≡ Some outside.input
      → (next : State) × (items : List Item) × (outcome outside ≡ Went next items) × GivenBefore outside passed next
  pub stays : Stays before now

-- what an instruction does
abbrev pub Acts : (outcome : Outside → StepOutcome) → (before : Held) → Told → Result Acted MachineFault → (now : Held) → Told → Type 0
Acts outcome before told (Ok (Acted.Went access)) now told_now = WentOn outcome before told (option_to_list access) now told_now
Acts outcome before told (Ok (Acted.Ended ending)) now told_now = Stops outcome before told ending [] now told_now
Acts outcome before told (Err fault) now told_now = Breaks outcome before told now told_now

-- what a step answers whose instruction did this
abbrev pub step_with : (pc : ℕ) → Result Acted MachineFault → Result Step MachineFault
step_with pc (Ok (Acted.Went access)) = Ok (Step.Went (record { fetch = Some pc; access = access }))
step_with pc (Ok (Acted.Ended ending)) = Ok (Step.Ended ending (record { fetch = Some pc; access = None }))
step_with pc (Err fault) = Err fault

-- what a step does
abbrev pub Advances : (outcome : Outside → StepOutcome) → (before : Held) → Told → Result Step MachineFault → (now : Held) → Told → Type 0
Advances outcome before told (Ok (Step.Went seen)) now told_now = WentOn outcome before told (items_in seen) now told_now
Advances outcome before told (Ok (Step.Ended ending seen)) now told_now = Stops outcome before told ending (items_in seen) now told_now
Advances outcome before told (Err fault) now told_now = Breaks outcome before told now told_now

-- the machine with an answer in x10, at the next word
abbrev pub with_answer : Held → ℕ → Held
with_answer held answer = record held { pc = wrap (held.pc + 4); registers = with_register held.registers 10 answer }

-- the bytes of the buffer may be given as events
abbrev pub may_give_events : Held → Bool
may_give_events held =
    is_some held.note && nat_le 1 (register_of held.registers 12) && is_none (first_hole (memory_of held.memory) (buffer_in held))
    && list_all (λ address. nat_le tracer_start address) (buffer_in held)

-- The bytes of the buffer were given to a sink and their number was answered, or where that isn't allowed, a refusal was.
abbrev pub Gave : (allowed : Bool) → (refusal : ℕ) → (before : Held) → (told : Option (List ℕ)) → Result Unit Failed → (now : Held) → (told_now : Option (List ℕ)) → Type 0
Gave false refusal before told (Ok done) now told_now = (now ≡ with_answer before refusal) × (told_now ≡ told)
Gave false refusal before told (Err fault) now told_now = ⊥
Gave true refusal before told (Ok done) now told_now =
    (now ≡ with_answer before (register_of before.registers 12)) × Appends told told_now (bytes_at (memory_of before.memory) (buffer_in before))
Gave true refusal before told (Err fault) now told_now =
    (now ≡ before) × AppendsFront told told_now (bytes_at (memory_of before.memory) (buffer_in before))

-- the state after an outcome; an ending leaves the state as it was
abbrev pub state_after : State → StepOutcome → State
state_after s (Went next items) = next
state_after s (EndedWith ending items) = s

abbrev pub items_in_outcome : StepOutcome → List Item
items_in_outcome (Went next items) = items
items_in_outcome (EndedWith ending items) = items

-- a step was made, and its items were taken
pub record TurnedOn (outcome : Outside → StepOutcome) (before : Held) (told : Told) (took : List Item → Type 0) (now : Held) (told_now : Told) : Type 0 where
  pub items : List Item
  pub went : WentOn outcome before told items now told_now
  pub taken : took items

pub record TurnedOff (outcome : Outside → StepOutcome) (before : Held) (told : Told) (took : List Item → Type 0) (ending : Ending) (now : Held) (told_now : Told) : Type 0 where
  pub items : List Item
  pub stops : Stops outcome before told ending items now told_now
  pub taken : took items

-- a step failed on the way to its state, or its items couldn't all be taken
pub record BreaksOff (outcome : Outside → StepOutcome) (before : Held) (told : Told) (took : List Item → Type 0) (now : Held) (told_now : Told) : Type 0 where
  pub passed : Passed
  pub ports : HasPassed told told_now passed
  pub step :
      (outside : Outside) → told.input ≡ Some outside.input
      → GivenBefore outside passed (state_after (state_of before outside) (outcome outside)) × TookFront took (items_in_outcome (outcome outside))
  pub stays : Stays before now

-- what a turn does: a step, and giving its items to a taker
abbrev pub Turns : (outcome : Outside → StepOutcome) → (before : Held) → Told → (took : List Item → Type 0) → Result (Option Ending) MachineFault → (now : Held) → Told → Type 0
Turns outcome before told took (Ok None) now told_now = TurnedOn outcome before told took now told_now
Turns outcome before told took (Ok (Some ending)) now told_now = TurnedOff outcome before told took ending now told_now
Turns outcome before told took (Err fault) now told_now = BreaksOff outcome before told took now told_now

-- Bytes of the input were put into a buffer: as many as it has room for, or all that were left.
pub record Receives (told told_now : Option (List ℕ)) (before now : List Cell) (address count got : ℕ) : Type 0 where
  pub bytes : List ℕ
  pub number : length bytes ≡ got
  pub within : got ≤ count
  pub taken : Consumes told told_now bytes
  pub put : now ≡ written before (span address count) bytes
  pub end : got < count → IsAtEnd told_now

-- what came of giving bytes to the sink of events: nothing changed, or its fault is kept
abbrev pub MayKeep : (before : Held) → Result Unit Failed → Result Unit MachineFault → (now : Held) → Type 0
MayKeep before (Ok given) (Ok done) now = now ≡ before
MayKeep before (Ok given) (Err fault) now = ⊥
MayKeep before (Err failed) (Ok done) now = ⊥
MayKeep before (Err failed) (Err fault) now = (fault ≡ EventFault) × (now ≡ record before { kept = Some (Err EventFault) })
