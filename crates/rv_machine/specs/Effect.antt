-- What an instruction does (RISC-V unprivileged manual, sections 2.4 to 2.8 and chapter 13), in words that name no state:
-- the same effect may be had by another instruction, or at another address. `settled` (of Step) says what each effect
-- makes of a state. That a failing access and a jump to a misaligned target end the run is this project's own.
use Rattle.std.specs.Prelude.{ℕ, ◌+◌, ◌*◌, ◌/◌, ◌%◌, ◌^◌, List, Option, None, Some, if◌then◌else◌, ◌==◌}
use Rattle.ae_nums.specs.declared.item.Item.{Item}
use Rattle.ae_nums.specs.declared.item.Item.TheVariants.{Read, Write}
use Rattle.rv_code.specs.declared.ending.Ending.{Ending}
use Rattle.rv_code.specs.declared.ending.Ending.TheVariants.{Illegal, Breakpoint, LoadFault, StoreFault, JumpMisaligned}
use Rattle.rv_code.specs.declared.instr.Instr.{Instr}
use Rattle.rv_code.specs.declared.instr.Instr.TheVariants.{Lui, Auipc, Jal, Jalr, Branch, Load, Store, OpImm, Op, Fence, Ecall, Ebreak, Bad}
use Rattle.rv_code.specs.declared.instr.LoadOp.{LoadOp}
use Rattle.rv_code.specs.declared.instr.LoadOp.TheVariants.{Lb, Lh, Lw, Lbu, Lhu}
use Rattle.rv_code.specs.declared.instr.StoreOp.{StoreOp}
use Rattle.rv_code.specs.declared.instr.StoreOp.TheVariants.{Sb, Sh, Sw}
use Rattle.rv_code.specs.Numbers.{wrap, unsigned, sign_extended, bytes_of, number_of}
use Rattle.rv_code.specs.Results.{result_of, is_taken}
use Rattle.rv_memory.specs.Memory.{Cell, span, bytes_at, first_hole, first_shut}
use Rattle.rv_machine.specs.State.{register_of}

-- where a call of write leads to: the output, the second output, the event bytes
pub data Channel : Type 0 where
  Out : Channel
  Err : Channel
  Events : Channel

pub data Effect : Type 0 where
  -- goes on to the next word
  Passes : Effect
  -- sets a register and goes on to the next word, after this access of memory if there was one
  Sets : (register value : ℕ) → (access : Option Item) → Effect
  -- puts bytes at addresses and goes on to the next word
  Stores : (addresses bytes : List ℕ) → (access : Item) → Effect
  -- goes on at a target, with the next word's address in a register
  Jumps : (link target : ℕ) → Effect
  -- gives bytes to the outside, answers their number in x10 and goes on to the next word
  Gives : Channel → (bytes : List ℕ) → Effect
  -- takes bytes of the input to these addresses, as many as there are of both, answers their number in x10 and goes on
  Takes : (addresses : List ℕ) → Effect
  -- ends the run
  Ends : Ending → Effect

-- the bytes of a load (manual, section 2.6)
abbrev pub load_size : LoadOp → ℕ
load_size Lb = 1
load_size Lh = 2
load_size Lw = 4
load_size Lbu = 1
load_size Lhu = 2

-- what a load gives, of its bytes: lb and lh extend the sign
abbrev pub loaded : LoadOp → List ℕ → ℕ
loaded Lb bytes = unsigned (sign_extended (2 ^ 7) (number_of bytes))
loaded Lh bytes = unsigned (sign_extended (2 ^ 15) (number_of bytes))
loaded Lw bytes = number_of bytes
loaded Lbu bytes = number_of bytes
loaded Lhu bytes = number_of bytes

abbrev pub store_size : StoreOp → ℕ
store_size Sb = 1
store_size Sh = 2
store_size Sw = 4

-- a load of so many bytes, unless one of them isn't mapped: then it ends at the first such
abbrev pub load_at : LoadOp → ℕ → ℕ → List Cell → Option ℕ → Effect
load_at op rd address memory None =
    Sets rd (loaded op (bytes_at memory (span address (load_size op)))) (Some (Read address (load_size op)))
load_at op rd address memory (Some hole) = Ends (LoadFault hole)

-- a store of the low bytes of a value, unless one of the bytes isn't mapped writable: then it ends at the first such
abbrev pub store_at : StoreOp → ℕ → ℕ → Option ℕ → Effect
store_at op value address None =
    Stores (span address (store_size op)) (bytes_of (store_size op) value) (Write address (store_size op))
store_at op value address (Some shut) = Ends (StoreFault shut)

-- a jump, which ends where its target is no multiple of 4 (section 2.5: there are no compressed instructions)
abbrev pub jump_to : ℕ → ℕ → Effect
jump_to link target = if target % 4 == 0 then Jumps link target else Ends (JumpMisaligned target)

-- the target of an indirect jump: the sum with its lowest bit cleared
abbrev pub indirect_target : ℕ → ℕ
indirect_target sum = wrap sum / 2 * 2

-- What an instruction at this pc does with these registers and this memory. The effect of a call is handed in.
abbrev pub effect_with : (call : Effect) → Instr → (pc : ℕ) → (registers : List ℕ) → (memory : List Cell) → Effect
effect_with call (Lui rd imm) pc registers memory = Sets rd (result_of (Lui rd imm) pc 0 0) None
effect_with call (Auipc rd imm) pc registers memory = Sets rd (result_of (Auipc rd imm) pc 0 0) None
effect_with call (OpImm op rd rs1 imm) pc registers memory =
    Sets rd (result_of (OpImm op rd rs1 imm) pc (register_of registers rs1) 0) None
effect_with call (Op op rd rs1 rs2) pc registers memory =
    Sets rd (result_of (Op op rd rs1 rs2) pc (register_of registers rs1) (register_of registers rs2)) None
effect_with call (Fence word) pc registers memory = Passes
effect_with call (Jal rd imm) pc registers memory = jump_to rd (wrap (pc + unsigned imm))
effect_with call (Jalr rd rs1 imm) pc registers memory = jump_to rd (indirect_target (register_of registers rs1 + unsigned imm))
effect_with call (Branch op rs1 rs2 imm) pc registers memory =
    if is_taken op (register_of registers rs1) (register_of registers rs2) then jump_to 0 (wrap (pc + unsigned imm)) else Passes
effect_with call (Load op rd rs1 imm) pc registers memory =
    let address : ℕ = wrap (register_of registers rs1 + unsigned imm) in
    load_at op rd address memory (first_hole memory (span address (load_size op)))
effect_with call (Store op rs1 rs2 imm) pc registers memory =
    let address : ℕ = wrap (register_of registers rs1 + unsigned imm) in
    store_at op (register_of registers rs2) address (first_shut memory (span address (store_size op)))
effect_with call Ecall pc registers memory = call
effect_with call Ebreak pc registers memory = Ends Breakpoint
effect_with call (Bad word) pc registers memory = Ends (Illegal word)
