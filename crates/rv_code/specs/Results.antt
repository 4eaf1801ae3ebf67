-- What Plain instructions compute (RISC-V unprivileged manual, sections 2.4, 13.1 and 13.2), and when a branch is taken
-- (section 2.5.2). Operands and results are words.
use Rattle.std.specs.Prelude.{ℕ, ◌+◌, ◌-◌, ◌*◌, ◌/◌, ◌%◌, ◌^◌, Bool, not, ℤ, pos, ◌*ℤ◌, if◌then◌else◌, ◌==◌, nat_lt, bit_and, bit_or, bit_xor, int_lt, int_div, int_rem}
use Rattle.std.specs.Int.{cast_unsigned, from_bool, int_shr, w64}
use Rattle.rv_code.specs.declared.instr.Instr.{Instr}
use Rattle.rv_code.specs.declared.instr.Instr.TheVariants.{Lui, Auipc, Jal, Jalr, Branch, Load, Store, OpImm, Op, Fence, Ecall, Ebreak, Bad}
use Rattle.rv_code.specs.declared.instr.BranchOp.{BranchOp}
use Rattle.rv_code.specs.declared.instr.BranchOp.TheVariants.{Beq, Bne, Blt, Bge, Bltu, Bgeu}
use Rattle.rv_code.specs.declared.instr.ImmOp.{ImmOp}
use Rattle.rv_code.specs.declared.instr.ImmOp.TheVariants.{Addi, Slti, Sltiu, Xori, Ori, Andi, Slli, Srli, Srai}
use Rattle.rv_code.specs.declared.instr.RegOp.{RegOp}
use Rattle.rv_code.specs.declared.instr.RegOp.TheVariants.{Add, Sub, Sll, Slt, Sltu, Xor, Srl, Sra, Or, And, Mul, Mulh, Mulhsu, Mulhu, Div, Divu, Rem, Remu}
use Rattle.rv_code.specs.Numbers.{wrap, signed, unsigned}

-- bits 63..32 of a product of two signed numbers
abbrev pub upper_half : ℤ → ℕ
upper_half product = cast_unsigned w64 product / 2 ^ 32

-- An operation on the values of two registers. Shifts take the low five bits of the second. Division rounds towards
-- zero, a remainder has the dividend's sign, and by zero the quotient has all bits set and the remainder is the dividend.
abbrev pub op_result : RegOp → ℕ → ℕ → ℕ
op_result Add a b = wrap (a + b)
op_result Sub a b = wrap (a + (2 ^ 32 - b))
op_result Sll a b = wrap (a * 2 ^ (b % 32))
op_result Slt a b = from_bool (int_lt (signed a) (signed b))
op_result Sltu a b = from_bool (nat_lt a b)
op_result Xor a b = bit_xor a b
op_result Srl a b = a / 2 ^ (b % 32)
op_result Sra a b = unsigned (int_shr (signed a) (b % 32))
op_result Or a b = bit_or a b
op_result And a b = bit_and a b
op_result Mul a b = wrap (a * b)
op_result Mulh a b = upper_half (signed a *ℤ signed b)
op_result Mulhsu a b = upper_half (signed a *ℤ pos b)
op_result Mulhu a b = a * b / 2 ^ 32
op_result Div a b = if b == 0 then 2 ^ 32 - 1 else unsigned (int_div (signed a) (signed b))
op_result Divu a b = if b == 0 then 2 ^ 32 - 1 else a / b
op_result Rem a b = if b == 0 then a else unsigned (int_rem (signed a) (signed b))
op_result Remu a b = if b == 0 then a else a % b

-- the operation on two registers that an operation on an immediate is, with the immediate's bits in the second's place
abbrev pub on_registers : ImmOp → RegOp
on_registers Addi = Add
on_registers Slti = Slt
on_registers Sltiu = Sltu
on_registers Xori = Xor
on_registers Ori = Or
on_registers Andi = And
on_registers Slli = Sll
on_registers Srli = Srl
on_registers Srai = Sra

-- What an instruction of the class Plain that writes a register writes, a and b being the values of rs1 and rs2.
abbrev pub result_of : Instr → (address a b : ℕ) → ℕ
result_of (Lui rd imm) address a b = imm
result_of (Auipc rd imm) address a b = wrap (address + imm)
result_of (OpImm op rd rs1 imm) address a b = op_result (on_registers op) a (unsigned imm)
result_of (Op op rd rs1 rs2) address a b = op_result op a b
result_of (Jal rd imm) address a b = 0
result_of (Jalr rd rs1 imm) address a b = 0
result_of (Branch op rs1 rs2 imm) address a b = 0
result_of (Load op rd rs1 imm) address a b = 0
result_of (Store op rs1 rs2 imm) address a b = 0
result_of (Fence word) address a b = 0
result_of Ecall address a b = 0
result_of Ebreak address a b = 0
result_of (Bad word) address a b = 0

-- a branch on these values is taken
abbrev pub is_taken : BranchOp → ℕ → ℕ → Bool
is_taken Beq a b = a == b
is_taken Bne a b = not (a == b)
is_taken Blt a b = int_lt (signed a) (signed b)
is_taken Bge a b = not (int_lt (signed a) (signed b))
is_taken Bltu a b = nat_lt a b
is_taken Bgeu a b = not (nat_lt a b)
