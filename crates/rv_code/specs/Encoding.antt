-- Instructions as words: the encoding formats (RISC-V unprivileged manual, sections 2.2 and 2.3), the numbers of the
-- operations (chapter "RV32/64G Instruction Set Listings"), and which instructions have a word.
use Rattle.std.specs.Prelude.{◌≡◌, ℕ, ◌+◌, ◌*◌, ◌%◌, ◌^◌, ◌<◌, ℤ, pos, negsuc, ⊤}
use Rattle.rv_code.specs.declared.instr.Instr.{Instr}
use Rattle.rv_code.specs.declared.instr.Instr.TheVariants.{Lui, Auipc, Jal, Jalr, Branch, Load, Store, OpImm, Op, Fence, Ecall, Ebreak, Bad}
use Rattle.rv_code.specs.declared.instr.BranchOp.{BranchOp}
use Rattle.rv_code.specs.declared.instr.BranchOp.TheVariants.{Beq, Bne, Blt, Bge, Bltu, Bgeu}
use Rattle.rv_code.specs.declared.instr.LoadOp.{LoadOp}
use Rattle.rv_code.specs.declared.instr.LoadOp.TheVariants.{Lb, Lh, Lw, Lbu, Lhu}
use Rattle.rv_code.specs.declared.instr.StoreOp.{StoreOp}
use Rattle.rv_code.specs.declared.instr.StoreOp.TheVariants.{Sb, Sh, Sw}
use Rattle.rv_code.specs.declared.instr.ImmOp.{ImmOp}
use Rattle.rv_code.specs.declared.instr.ImmOp.TheVariants.{Addi, Slti, Sltiu, Xori, Ori, Andi, Slli, Srli, Srai}
use Rattle.rv_code.specs.declared.instr.RegOp.{RegOp}
use Rattle.rv_code.specs.declared.instr.RegOp.TheVariants.{Add, Sub, Sll, Slt, Sltu, Xor, Srl, Sra, Or, And, Mul, Mulh, Mulhsu, Mulhu, Div, Divu, Rem, Remu}
use Rattle.rv_code.specs.Fields.{field}
use Rattle.rv_code.specs.Numbers.{IsWord, unsigned}
use Rattle.rv_code.specs.Table.{meaning_of}

-- the formats

abbrev pub r_word : (opcode funct3 funct7 rd rs1 rs2 : ℕ) → ℕ
r_word opcode funct3 funct7 rd rs1 rs2 =
    opcode + rd * 2 ^ 7 + funct3 * 2 ^ 12 + rs1 * 2 ^ 15 + rs2 * 2 ^ 20 + funct7 * 2 ^ 25

-- bits 11..0 of the immediate as 31..20
abbrev pub i_word : (opcode funct3 rd rs1 imm : ℕ) → ℕ
i_word opcode funct3 rd rs1 imm = opcode + rd * 2 ^ 7 + funct3 * 2 ^ 12 + rs1 * 2 ^ 15 + field imm 0 12 * 2 ^ 20

-- bits 4..0 as 11..7, and 11..5 as 31..25
abbrev pub s_word : (opcode funct3 rs1 rs2 imm : ℕ) → ℕ
s_word opcode funct3 rs1 rs2 imm =
    opcode + field imm 0 5 * 2 ^ 7 + funct3 * 2 ^ 12 + rs1 * 2 ^ 15 + rs2 * 2 ^ 20 + field imm 5 7 * 2 ^ 25

-- bit 11 as 7, 4..1 as 11..8, 10..5 as 30..25, and 12 as 31
abbrev pub b_word : (opcode funct3 rs1 rs2 imm : ℕ) → ℕ
b_word opcode funct3 rs1 rs2 imm =
    opcode + field imm 11 1 * 2 ^ 7 + field imm 1 4 * 2 ^ 8 + funct3 * 2 ^ 12 + rs1 * 2 ^ 15 + rs2 * 2 ^ 20
    + field imm 5 6 * 2 ^ 25 + field imm 12 1 * 2 ^ 31

-- bits 31..12 as 31..12
abbrev pub u_word : (opcode rd imm : ℕ) → ℕ
u_word opcode rd imm = opcode + rd * 2 ^ 7 + field imm 12 20 * 2 ^ 12

-- bits 19..12 as 19..12, 11 as 20, 10..1 as 30..21, and 20 as 31
abbrev pub j_word : (opcode rd imm : ℕ) → ℕ
j_word opcode rd imm =
    opcode + rd * 2 ^ 7 + field imm 12 8 * 2 ^ 12 + field imm 11 1 * 2 ^ 20 + field imm 1 10 * 2 ^ 21 + field imm 20 1 * 2 ^ 31

-- the operations' funct3 and funct7

abbrev pub branch_funct3 : BranchOp → ℕ
branch_funct3 Beq = 0
branch_funct3 Bne = 1
branch_funct3 Blt = 4
branch_funct3 Bge = 5
branch_funct3 Bltu = 6
branch_funct3 Bgeu = 7

abbrev pub load_funct3 : LoadOp → ℕ
load_funct3 Lb = 0
load_funct3 Lh = 1
load_funct3 Lw = 2
load_funct3 Lbu = 4
load_funct3 Lhu = 5

abbrev pub store_funct3 : StoreOp → ℕ
store_funct3 Sb = 0
store_funct3 Sh = 1
store_funct3 Sw = 2

abbrev pub op_funct3 : RegOp → ℕ
op_funct3 Add = 0
op_funct3 Sub = 0
op_funct3 Sll = 1
op_funct3 Slt = 2
op_funct3 Sltu = 3
op_funct3 Xor = 4
op_funct3 Srl = 5
op_funct3 Sra = 5
op_funct3 Or = 6
op_funct3 And = 7
op_funct3 Mul = 0
op_funct3 Mulh = 1
op_funct3 Mulhsu = 2
op_funct3 Mulhu = 3
op_funct3 Div = 4
op_funct3 Divu = 5
op_funct3 Rem = 6
op_funct3 Remu = 7

abbrev pub op_funct7 : RegOp → ℕ
op_funct7 Add = 0x00
op_funct7 Sub = 0x20
op_funct7 Sll = 0x00
op_funct7 Slt = 0x00
op_funct7 Sltu = 0x00
op_funct7 Xor = 0x00
op_funct7 Srl = 0x00
op_funct7 Sra = 0x20
op_funct7 Or = 0x00
op_funct7 And = 0x00
op_funct7 Mul = 0x01
op_funct7 Mulh = 0x01
op_funct7 Mulhsu = 0x01
op_funct7 Mulhu = 0x01
op_funct7 Div = 0x01
op_funct7 Divu = 0x01
op_funct7 Rem = 0x01
op_funct7 Remu = 0x01

-- An operation on an immediate. A shift's amount stands in the field of rs2.
abbrev pub op_imm_word : ImmOp → (rd rs1 imm : ℕ) → ℕ
op_imm_word Addi rd rs1 imm = i_word 0x13 0 rd rs1 imm
op_imm_word Slti rd rs1 imm = i_word 0x13 2 rd rs1 imm
op_imm_word Sltiu rd rs1 imm = i_word 0x13 3 rd rs1 imm
op_imm_word Xori rd rs1 imm = i_word 0x13 4 rd rs1 imm
op_imm_word Ori rd rs1 imm = i_word 0x13 6 rd rs1 imm
op_imm_word Andi rd rs1 imm = i_word 0x13 7 rd rs1 imm
op_imm_word Slli rd rs1 imm = r_word 0x13 1 0x00 rd rs1 imm
op_imm_word Srli rd rs1 imm = r_word 0x13 5 0x00 rd rs1 imm
op_imm_word Srai rd rs1 imm = r_word 0x13 5 0x20 rd rs1 imm

-- the word of an instruction
abbrev pub word_of : Instr → ℕ
word_of (Lui rd imm) = u_word 0x37 rd imm
word_of (Auipc rd imm) = u_word 0x17 rd imm
word_of (Jal rd imm) = j_word 0x6f rd (unsigned imm)
word_of (Jalr rd rs1 imm) = i_word 0x67 0 rd rs1 (unsigned imm)
word_of (Branch op rs1 rs2 imm) = b_word 0x63 (branch_funct3 op) rs1 rs2 (unsigned imm)
word_of (Load op rd rs1 imm) = i_word 0x03 (load_funct3 op) rd rs1 (unsigned imm)
word_of (Store op rs1 rs2 imm) = s_word 0x23 (store_funct3 op) rs1 rs2 (unsigned imm)
word_of (OpImm op rd rs1 imm) = op_imm_word op rd rs1 (unsigned imm)
word_of (Op op rd rs1 rs2) = r_word 0x33 (op_funct3 op) (op_funct7 op) rd rs1 rs2
word_of (Fence word) = word
word_of Ecall = 0x0000_0073
word_of Ebreak = 0x0010_0073
word_of (Bad word) = word

-- which instructions have a word

-- a signed number from -half on and below half; `negsuc n` is -(n + 1)
abbrev pub IsBelow : ℕ → ℤ → Type 0
IsBelow half (pos n) = n < half
IsBelow half (negsuc n) = n < half

-- an even number
abbrev pub IsEven : ℤ → Type 0
IsEven imm = unsigned imm % 2 ≡ 0

-- the amount of a shift: 0 to 31
abbrev pub IsAmount : ℤ → Type 0
IsAmount (pos n) = n < 32
IsAmount (negsuc n) = ⊥

abbrev pub FitsOp : ImmOp → ℤ → Type 0
FitsOp Addi imm = IsBelow (2 ^ 11) imm
FitsOp Slti imm = IsBelow (2 ^ 11) imm
FitsOp Sltiu imm = IsBelow (2 ^ 11) imm
FitsOp Xori imm = IsBelow (2 ^ 11) imm
FitsOp Ori imm = IsBelow (2 ^ 11) imm
FitsOp Andi imm = IsBelow (2 ^ 11) imm
FitsOp Slli imm = IsAmount imm
FitsOp Srli imm = IsAmount imm
FitsOp Srai imm = IsAmount imm

-- Registers are x0 to x31, and an immediate is one that its format has. A word that is kept whole is one that means this.
abbrev pub Fits : Instr → Type 0
Fits (Lui rd imm) = (rd < 32) × IsWord imm × (imm % 2 ^ 12 ≡ 0)
Fits (Auipc rd imm) = (rd < 32) × IsWord imm × (imm % 2 ^ 12 ≡ 0)
Fits (Jal rd imm) = (rd < 32) × IsBelow (2 ^ 20) imm × IsEven imm
Fits (Jalr rd rs1 imm) = (rd < 32) × (rs1 < 32) × IsBelow (2 ^ 11) imm
Fits (Branch op rs1 rs2 imm) = (rs1 < 32) × (rs2 < 32) × IsBelow (2 ^ 12) imm × IsEven imm
Fits (Load op rd rs1 imm) = (rd < 32) × (rs1 < 32) × IsBelow (2 ^ 11) imm
Fits (Store op rs1 rs2 imm) = (rs1 < 32) × (rs2 < 32) × IsBelow (2 ^ 11) imm
Fits (OpImm op rd rs1 imm) = (rd < 32) × (rs1 < 32) × FitsOp op imm
Fits (Op op rd rs1 rs2) = (rd < 32) × (rs1 < 32) × (rs2 < 32)
Fits (Fence word) = IsWord word × (meaning_of word ≡ Fence word)
Fits Ecall = ⊤
Fits Ebreak = ⊤
Fits (Bad word) = IsWord word × (meaning_of word ≡ Bad word)
