-- One step: fetch, meaning, effect, and what the effect makes of the state. What a word does is the manual's; which words
-- are code, how a step ends and what items it gives is this project's own.
use Rattle.std.specs.Prelude.{ℕ, ◌+◌, Bool, List, [], ◌∷◌, ◌++◌, length, take, drop, ⊤, Option, None, Some, is_some, if◌then◌else◌}
use Rattle.std.specs.Option.{option_to_list}
use Rattle.ae_nums.specs.declared.item.Item.{Item}
use Rattle.ae_nums.specs.declared.item.Item.TheVariants.{Fetch}
use Rattle.rv_code.specs.declared.ending.Ending.{Ending}
use Rattle.rv_code.specs.declared.ending.Ending.TheVariants.{FetchFault}
use Rattle.rv_code.specs.declared.image.Image.{Image}
use Rattle.rv_code.specs.Numbers.{wrap, number_of}
use Rattle.rv_code.specs.declared.extent.Extent.{Extent}
use Rattle.rv_code.specs.Code.{extents_of, is_code}
use Rattle.rv_code.specs.Table.{meaning_of}
use Rattle.rv_memory.specs.Memory.{span, bytes_at, written}
use Rattle.rv_machine.specs.State.{State, with_register}
use Rattle.rv_machine.specs.Effect.{Effect, Passes, Sets, Stores, Jumps, Gives, Takes, Ends, Channel, Out, Err, Events}
use Rattle.rv_machine.specs.Calls.{effect_of}

-- what a step asks of an image, beside the state
pub record Program : Type 0 where
  pub code : List Extent
  pub has_note : Bool

abbrev pub program_of : Image → Program
program_of image = record { code = extents_of image.code; has_note = is_some image.note }

-- what comes of a step: it went to a state or ended, with these items
pub data StepOutcome : Type 0 where
  Went : State → List Item → StepOutcome
  EndedWith : Ending → List Item → StepOutcome

-- the state with the next word's address as pc
abbrev pub at_next : State → State
at_next s = record s { pc = wrap (s.pc + 4) }

-- the state after bytes were given and their number was answered
abbrev pub given : Channel → List ℕ → State → State
given Out bytes s = record s { out = s.out ++ bytes }
given Err bytes s = record s { err = s.err ++ bytes }
given Events bytes s = record s { events = s.events ++ bytes }

-- the state with a call's answer in x10
abbrev pub answered : ℕ → State → State
answered value s = record s { registers = with_register s.registers 10 value }

-- the state after bytes of the input were taken to these addresses
abbrev pub taken : List ℕ → State → State
taken addresses s =
    record s { memory = written s.memory addresses (take (length addresses) s.input); input = drop (length addresses) s.input }

-- what an effect makes of a state
abbrev pub settled : State → Effect → StepOutcome
settled s Passes = Went (at_next s) []
settled s (Sets register value access) =
    Went (at_next (record s { registers = with_register s.registers register value })) (option_to_list access)
settled s (Stores addresses bytes access) = Went (at_next (record s { memory = written s.memory addresses bytes })) (access ∷ [])
settled s (Jumps link target) =
    Went (record s { pc = target; registers = with_register s.registers link (s.pc + 4) }) []
settled s (Gives channel bytes) = Went (at_next (answered (length bytes) (given channel bytes s))) []
settled s (Takes addresses) = Went (at_next (answered (length (take (length addresses) s.input)) (taken addresses s))) []
settled s (Ends ending) = EndedWith ending []

-- the fetch comes before the access
abbrev pub after_fetch : ℕ → StepOutcome → StepOutcome
after_fetch pc (Went s items) = Went s (Fetch pc ∷ items)
after_fetch pc (EndedWith ending items) = EndedWith ending (Fetch pc ∷ items)

-- the word that memory holds at the pc, where a code word stands there
abbrev pub fetched : Program → State → Option ℕ
fetched program s = if is_code program.code s.pc then Some (number_of (bytes_at s.memory (span s.pc 4))) else None

-- a word carried out, or a fetch that failed
abbrev pub carried_out : (has_note : Bool) → State → Option ℕ → StepOutcome
carried_out has_note s None = EndedWith (FetchFault s.pc) []
carried_out has_note s (Some word) =
    after_fetch s.pc (settled s (effect_of has_note (meaning_of word) s.pc s.registers s.memory))

-- one step
unfoldable pub step_of : Program → State → StepOutcome
step_of program s = carried_out program.has_note s (fetched program s)

-- what holds of the state that a step went to
abbrev pub AfterStep : StepOutcome → (State → Type 0) → Type 0
AfterStep (Went next items) P = P next
AfterStep (EndedWith ending items) P = ⊤
