-- Runs that the tracer's promises speak of: this project's own. A clean run stores into no code word and has nothing to
-- do with what belongs to the tracer. A good run is clean and has ended.
use Rattle.std.specs.Prelude.{ℕ, zero, suc, ◌+◌, ◌*◌, ◌/◌, ◌<◌, List, [], ◌∷◌, length, take, ⊤, Option, None, Some, IsSome, IsTrue, if◌then◌else◌, ◌==◌, ◌||◌}
use Rattle.std.specs.List.{AllByRecursion}
use Rattle.rv_code.specs.declared.image.Image.{Image}
use Rattle.rv_code.specs.declared.instr.Instr.{Instr}
use Rattle.rv_code.specs.declared.instr.Instr.TheVariants.{Lui, Auipc, Jal, Jalr, Branch, Load, Store, OpImm, Op, Fence, Ecall, Ebreak, Bad}
use Rattle.rv_code.specs.Addresses.{tracer_start}
use Rattle.rv_code.specs.declared.extent.Extent.{Extent}
use Rattle.rv_code.specs.Code.{is_code}
use Rattle.rv_code.specs.Numbers.{wrap, unsigned}
use Rattle.rv_code.specs.Results.{is_taken}
use Rattle.rv_code.specs.Table.{meaning_of}
use Rattle.rv_memory.specs.Memory.{span}
use Rattle.rv_machine.specs.State.{State, register_of}
use Rattle.rv_machine.specs.Effect.{Effect, Passes, Sets, Stores, Jumps, Gives, Takes, Ends, load_size, store_size, indirect_target}
use Rattle.rv_machine.specs.Calls.{call_read, call_write, effect_of}
use Rattle.rv_machine.specs.Step.{Program, program_of, AfterStep, fetched, step_of}
use Rattle.rv_machine.specs.Run.{run_of}
use Rattle.rv_machine.specs.Start.{start_of}

-- The addresses that an instruction has to do with, also where it fails: the bytes of a load or store, the buffer of a
-- call of read or write, the target of a jump or of a taken branch.
abbrev pub touched_by : Instr → (pc : ℕ) → (registers : List ℕ) → List ℕ
touched_by (Load op rd rs1 imm) pc registers = span (wrap (register_of registers rs1 + unsigned imm)) (load_size op)
touched_by (Store op rs1 rs2 imm) pc registers = span (wrap (register_of registers rs1 + unsigned imm)) (store_size op)
touched_by (Jal rd imm) pc registers = wrap (pc + unsigned imm) ∷ []
touched_by (Jalr rd rs1 imm) pc registers = indirect_target (register_of registers rs1 + unsigned imm) ∷ []
touched_by (Branch op rs1 rs2 imm) pc registers =
    if is_taken op (register_of registers rs1) (register_of registers rs2) then wrap (pc + unsigned imm) ∷ [] else []
touched_by Ecall pc registers =
    if register_of registers 17 == call_read || register_of registers 17 == call_write
    then span (register_of registers 11) (register_of registers 12)
    else []
touched_by (Lui rd imm) pc registers = []
touched_by (Auipc rd imm) pc registers = []
touched_by (OpImm op rd rs1 imm) pc registers = []
touched_by (Op op rd rs1 rs2) pc registers = []
touched_by (Fence word) pc registers = []
touched_by Ebreak pc registers = []
touched_by (Bad word) pc registers = []

-- the addresses at which an effect puts bytes, with this input left
abbrev pub stored_by : Effect → (input : List ℕ) → List ℕ
stored_by (Stores addresses bytes access) input = addresses
stored_by (Takes addresses) input = take (length input) addresses
stored_by Passes input = []
stored_by (Sets register value access) input = []
stored_by (Jumps link target) input = []
stored_by (Gives channel bytes) input = []
stored_by (Ends ending) input = []

-- the byte at this address is one of a code word; code words lie at multiples of 4
abbrev pub IsInCode : List Extent → ℕ → Type 0
IsInCode code address = IsTrue (is_code code (address / 4 * 4))

-- what a clean step keeps to
pub record IsCleanStep (program : Program) (s : State) (word : ℕ) : Type 0 where
  pub keeps_code : AllByRecursion (λ address. ¬ IsInCode program.code address) (stored_by (effect_of program.has_note (meaning_of word) s.pc s.registers s.memory) s.input)
  pub keeps_below : AllByRecursion (λ address. address < tracer_start) (touched_by (meaning_of word) s.pc s.registers)

-- a step whose fetch fails has to do with no address
abbrev pub StepsCleanly : Program → State → Option ℕ → Type 0
StepsCleanly program s None = ⊤
StepsCleanly program s (Some word) = IsCleanStep program s word

-- each of at most so many steps from a state on is clean
unfoldable pub RunsCleanly : Program → ℕ → State → Type 0
RunsCleanly program zero s = ⊤
RunsCleanly program (suc count) s =
    StepsCleanly program s (fetched program s) × AfterStep (step_of program s) (λ next. RunsCleanly program count next)

-- the run of an image on an input, at most so many steps, is clean
abbrev pub IsClean : Image → List ℕ → ℕ → Type 0
IsClean image input count = RunsCleanly (program_of image) count (start_of image input)

-- it is clean, and it has ended
pub record IsGood (image : Image) (input : List ℕ) (count : ℕ) : Type 0 where
  pub clean : IsClean image input count
  pub ended : IsSome (run_of image input count).ending
