-- What an instruction is to the program round it: its class, the registers that it reads and writes, its direct target.
-- Each is a function of the instruction alone, or of it and its address.
use Rattle.std.specs.Prelude.{ℕ, zero, suc, ◌+◌, ◌^◌, ◌<◌, ⊤, List, [], ◌∷◌, Option, Some, None, bit_or}
use Rattle.rv_code.specs.declared.class.Class.{Class}
use Rattle.rv_code.specs.declared.instr.Instr.{Instr}
use Rattle.rv_code.specs.declared.instr.Instr.TheVariants.{Lui, Auipc, Jal, Jalr, Branch, Load, Store, OpImm, Op, Fence, Ecall, Ebreak, Bad}
use Rattle.rv_code.specs.Numbers.{wrap, unsigned}

abbrev pub class_of : Instr → Class
class_of (Lui rd imm) = Class.Plain
class_of (Auipc rd imm) = Class.Plain
class_of (Jal rd imm) = Class.Jump
class_of (Jalr rd rs1 imm) = Class.Indirect
class_of (Branch op rs1 rs2 imm) = Class.Branch
class_of (Load op rd rs1 imm) = Class.Load
class_of (Store op rs1 rs2 imm) = Class.Store
class_of (OpImm op rd rs1 imm) = Class.Plain
class_of (Op op rd rs1 rs2) = Class.Plain
class_of (Fence word) = Class.Plain
class_of Ecall = Class.Call
class_of Ebreak = Class.Stop
class_of (Bad word) = Class.Stop

-- an instruction's registers are x0 to x31
abbrev pub HasRegisters : Instr → Type 0
HasRegisters (Lui rd imm) = rd < 32
HasRegisters (Auipc rd imm) = rd < 32
HasRegisters (Jal rd imm) = rd < 32
HasRegisters (Jalr rd rs1 imm) = (rd < 32) × (rs1 < 32)
HasRegisters (Branch op rs1 rs2 imm) = (rs1 < 32) × (rs2 < 32)
HasRegisters (Load op rd rs1 imm) = (rd < 32) × (rs1 < 32)
HasRegisters (Store op rs1 rs2 imm) = (rs1 < 32) × (rs2 < 32)
HasRegisters (OpImm op rd rs1 imm) = (rd < 32) × (rs1 < 32)
HasRegisters (Op op rd rs1 rs2) = (rd < 32) × (rs1 < 32) × (rs2 < 32)
HasRegisters (Fence word) = ⊤
HasRegisters Ecall = ⊤
HasRegisters Ebreak = ⊤
HasRegisters (Bad word) = ⊤

-- The registers that an instruction reads. A call's arguments are no part of it: this project's own.
abbrev pub sources_of : Instr → List ℕ
sources_of (Lui rd imm) = []
sources_of (Auipc rd imm) = []
sources_of (Jal rd imm) = []
sources_of (Jalr rd rs1 imm) = rs1 ∷ []
sources_of (Branch op rs1 rs2 imm) = rs1 ∷ rs2 ∷ []
sources_of (Load op rd rs1 imm) = rs1 ∷ []
sources_of (Store op rs1 rs2 imm) = rs1 ∷ rs2 ∷ []
sources_of (OpImm op rd rs1 imm) = rs1 ∷ []
sources_of (Op op rd rs1 rs2) = rs1 ∷ rs2 ∷ []
sources_of (Fence word) = []
sources_of Ecall = []
sources_of Ebreak = []
sources_of (Bad word) = []

-- a register but x0, which always reads 0 and keeps nothing (manual, section 2.1)
abbrev pub but_zero : ℕ → Option ℕ
but_zero zero = None
but_zero (suc register) = Some (suc register)

-- The register that an instruction writes, if any. A call answers in x10: this project's own.
abbrev pub written_by : Instr → Option ℕ
written_by (Lui rd imm) = but_zero rd
written_by (Auipc rd imm) = but_zero rd
written_by (Jal rd imm) = but_zero rd
written_by (Jalr rd rs1 imm) = but_zero rd
written_by (Branch op rs1 rs2 imm) = None
written_by (Load op rd rs1 imm) = but_zero rd
written_by (Store op rs1 rs2 imm) = None
written_by (OpImm op rd rs1 imm) = but_zero rd
written_by (Op op rd rs1 rs2) = but_zero rd
written_by (Fence word) = None
written_by Ecall = Some 10
written_by Ebreak = None
written_by (Bad word) = None

-- the register that a load or store takes its address from, if it is one that can be written
abbrev pub base_of : Instr → Option ℕ
base_of (Lui rd imm) = None
base_of (Auipc rd imm) = None
base_of (Jal rd imm) = None
base_of (Jalr rd rs1 imm) = None
base_of (Branch op rs1 rs2 imm) = None
base_of (Load op rd rs1 imm) = but_zero rs1
base_of (Store op rs1 rs2 imm) = but_zero rs1
base_of (OpImm op rd rs1 imm) = None
base_of (Op op rd rs1 rs2) = None
base_of (Fence word) = None
base_of Ecall = None
base_of Ebreak = None
base_of (Bad word) = None

-- registers as bits of a mask, without x0
abbrev pub mask_of : List ℕ → ℕ
mask_of [] = 0
mask_of (zero ∷ registers) = mask_of registers
mask_of (suc register ∷ registers) = bit_or (2 ^ suc register) (mask_of registers)

-- where a direct jump or branch at this address leads (manual, section 2.5)
abbrev pub target_of : Instr → ℕ → Option ℕ
target_of (Lui rd imm) address = None
target_of (Auipc rd imm) address = None
target_of (Jal rd imm) address = Some (wrap (address + unsigned imm))
target_of (Jalr rd rs1 imm) address = None
target_of (Branch op rs1 rs2 imm) address = Some (wrap (address + unsigned imm))
target_of (Load op rd rs1 imm) address = None
target_of (Store op rs1 rs2 imm) address = None
target_of (OpImm op rd rs1 imm) address = None
target_of (Op op rd rs1 rs2) address = None
target_of (Fence word) address = None
target_of Ecall address = None
target_of Ebreak address = None
target_of (Bad word) address = None
