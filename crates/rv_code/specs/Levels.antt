-- The meaning of a word found in two levels, as a decoder goes: by its opcode, and then by a small table of that opcode.
-- It is the instruction table's meaning, which is a law, and no definition that anything else rests on.
use Rattle.std.specs.Prelude.{ℕ, pos, if◌then◌else◌, ◌==◌, Option, Some, None}
use Rattle.rv_code.specs.declared.instr.Instr.{Instr}
use Rattle.rv_code.specs.declared.instr.Instr.TheVariants.{Lui, Auipc, Jal, Jalr, Branch, Load, Store, OpImm, Op, Fence, Ecall, Ebreak, Bad}
use Rattle.rv_code.specs.declared.instr.BranchOp.{BranchOp}
use Rattle.rv_code.specs.declared.instr.BranchOp.TheVariants.{Beq, Bne, Blt, Bge, Bltu, Bgeu}
use Rattle.rv_code.specs.declared.instr.LoadOp.{LoadOp}
use Rattle.rv_code.specs.declared.instr.LoadOp.TheVariants.{Lb, Lh, Lw, Lbu, Lhu}
use Rattle.rv_code.specs.declared.instr.StoreOp.{StoreOp}
use Rattle.rv_code.specs.declared.instr.StoreOp.TheVariants.{Sb, Sh, Sw}
use Rattle.rv_code.specs.declared.instr.ImmOp.{ImmOp}
use Rattle.rv_code.specs.declared.instr.ImmOp.TheVariants.{Addi, Slti, Sltiu, Xori, Ori, Andi, Slli, Srli, Srai}
use Rattle.rv_code.specs.declared.instr.RegOp.{RegOp}
use Rattle.rv_code.specs.declared.instr.RegOp.TheVariants.{Add, Sub, Sll, Slt, Sltu, Xor, Srl, Sra, Or, And, Mul, Mulh, Mulhsu, Mulhu, Div, Divu, Rem, Remu}
use Rattle.rv_code.specs.Fields.{opcode, rd, funct3, rs1, rs2, funct7, imm_i, imm_s, imm_b, imm_u, imm_j}

-- the operations of one opcode, by funct3, and where funct7 is fixed, by funct7 first

abbrev pub branch_op : ℕ → Option BranchOp
branch_op funct3 =
    if funct3 == 0 then Some Beq
    else (if funct3 == 1 then Some Bne
    else (if funct3 == 4 then Some Blt
    else (if funct3 == 5 then Some Bge
    else (if funct3 == 6 then Some Bltu
    else (if funct3 == 7 then Some Bgeu
    else None)))))

abbrev pub load_op : ℕ → Option LoadOp
load_op funct3 =
    if funct3 == 0 then Some Lb
    else (if funct3 == 1 then Some Lh
    else (if funct3 == 2 then Some Lw
    else (if funct3 == 4 then Some Lbu
    else (if funct3 == 5 then Some Lhu
    else None))))

abbrev pub store_op : ℕ → Option StoreOp
store_op funct3 =
    if funct3 == 0 then Some Sb
    else (if funct3 == 1 then Some Sh
    else (if funct3 == 2 then Some Sw
    else None))

abbrev pub imm_op : ℕ → Option ImmOp
imm_op funct3 =
    if funct3 == 0 then Some Addi
    else (if funct3 == 2 then Some Slti
    else (if funct3 == 3 then Some Sltiu
    else (if funct3 == 4 then Some Xori
    else (if funct3 == 6 then Some Ori
    else (if funct3 == 7 then Some Andi
    else None)))))

abbrev pub shift_op : (funct3 funct7 : ℕ) → Option ImmOp
shift_op funct3 funct7 =
    if funct7 == 0x00 then (if funct3 == 1 then Some Slli else (if funct3 == 5 then Some Srli else None))
    else (if funct7 == 0x20 then (if funct3 == 5 then Some Srai else None) else None)

abbrev pub base_op : ℕ → Option RegOp
base_op funct3 =
    if funct3 == 0 then Some Add
    else (if funct3 == 1 then Some Sll
    else (if funct3 == 2 then Some Slt
    else (if funct3 == 3 then Some Sltu
    else (if funct3 == 4 then Some Xor
    else (if funct3 == 5 then Some Srl
    else (if funct3 == 6 then Some Or
    else (if funct3 == 7 then Some And
    else None)))))))

abbrev pub other_op : ℕ → Option RegOp
other_op funct3 =
    if funct3 == 0 then Some Sub
    else (if funct3 == 5 then Some Sra
    else None)

abbrev pub product_op : ℕ → Option RegOp
product_op funct3 =
    if funct3 == 0 then Some Mul
    else (if funct3 == 1 then Some Mulh
    else (if funct3 == 2 then Some Mulhsu
    else (if funct3 == 3 then Some Mulhu
    else (if funct3 == 4 then Some Div
    else (if funct3 == 5 then Some Divu
    else (if funct3 == 6 then Some Rem
    else (if funct3 == 7 then Some Remu
    else None)))))))

abbrev pub reg_op : (funct3 funct7 : ℕ) → Option RegOp
reg_op funct3 funct7 =
    if funct7 == 0x00 then base_op funct3
    else (if funct7 == 0x20 then other_op funct3
    else (if funct7 == 0x01 then product_op funct3 else None))

-- what is made of an operation, where there is one
abbrev pub by_op : {Op : Type 0} → Instr → (Op → Instr) → Option Op → Instr
by_op otherwise made (Some op) = made op
by_op otherwise made None = otherwise

-- the meanings of the words of one opcode

abbrev pub jalr_meaning : ℕ → Instr
jalr_meaning word = if funct3 word == 0 then Jalr (rd word) (rs1 word) (imm_i word) else Bad word

abbrev pub branch_meaning : ℕ → Instr
branch_meaning word = by_op (Bad word) (λ op. Branch op (rs1 word) (rs2 word) (imm_b word)) (branch_op (funct3 word))

abbrev pub load_meaning : ℕ → Instr
load_meaning word = by_op (Bad word) (λ op. Load op (rd word) (rs1 word) (imm_i word)) (load_op (funct3 word))

abbrev pub store_meaning : ℕ → Instr
store_meaning word = by_op (Bad word) (λ op. Store op (rs1 word) (rs2 word) (imm_s word)) (store_op (funct3 word))

abbrev pub shift_meaning : ℕ → Instr
shift_meaning word =
    by_op (Bad word) (λ op. OpImm op (rd word) (rs1 word) (pos (rs2 word))) (shift_op (funct3 word) (funct7 word))

abbrev pub op_imm_meaning : ℕ → Instr
op_imm_meaning word =
    by_op (shift_meaning word) (λ op. OpImm op (rd word) (rs1 word) (imm_i word)) (imm_op (funct3 word))

abbrev pub op_meaning : ℕ → Instr
op_meaning word =
    by_op (Bad word) (λ op. Op op (rd word) (rs1 word) (rs2 word)) (reg_op (funct3 word) (funct7 word))

abbrev pub fence_meaning : ℕ → Instr
fence_meaning word = if funct3 word == 0 then Fence word else Bad word

-- of the system words only two whole words are instructions
abbrev pub system_meaning : ℕ → Instr
system_meaning word = if word == 0x0000_0073 then Ecall else (if word == 0x0010_0073 then Ebreak else Bad word)

-- the meaning by opcode
abbrev pub meaning_in_levels : ℕ → Instr
meaning_in_levels word =
    if opcode word == 0x37 then Lui (rd word) (imm_u word)
    else (if opcode word == 0x17 then Auipc (rd word) (imm_u word)
    else (if opcode word == 0x6f then Jal (rd word) (imm_j word)
    else (if opcode word == 0x67 then jalr_meaning word
    else (if opcode word == 0x63 then branch_meaning word
    else (if opcode word == 0x03 then load_meaning word
    else (if opcode word == 0x23 then store_meaning word
    else (if opcode word == 0x13 then op_imm_meaning word
    else (if opcode word == 0x33 then op_meaning word
    else (if opcode word == 0x0f then fence_meaning word
    else (if opcode word == 0x73 then system_meaning word else Bad word))))))))))
