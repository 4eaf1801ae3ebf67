-- The names of operations (RISC-V unprivileged manual, chapter "RV32/64G Instruction Set Listings"), in lower case.
use Rattle.std.specs.Prelude.{ℕ, List, codes}
use Rattle.rv_code.specs.declared.instr.BranchOp.{BranchOp}
use Rattle.rv_code.specs.declared.instr.BranchOp.TheVariants.{Beq, Bne, Blt, Bge, Bltu, Bgeu}
use Rattle.rv_code.specs.declared.instr.LoadOp.{LoadOp}
use Rattle.rv_code.specs.declared.instr.LoadOp.TheVariants.{Lb, Lh, Lw, Lbu, Lhu}
use Rattle.rv_code.specs.declared.instr.StoreOp.{StoreOp}
use Rattle.rv_code.specs.declared.instr.StoreOp.TheVariants.{Sb, Sh, Sw}
use Rattle.rv_code.specs.declared.instr.ImmOp.{ImmOp}
use Rattle.rv_code.specs.declared.instr.ImmOp.TheVariants.{Addi, Slti, Sltiu, Xori, Ori, Andi, Slli, Srli, Srai}
use Rattle.rv_code.specs.declared.instr.RegOp.{RegOp}
use Rattle.rv_code.specs.declared.instr.RegOp.TheVariants.{Add, Sub, Sll, Slt, Sltu, Xor, Srl, Sra, Or, And, Mul, Mulh, Mulhsu, Mulhu, Div, Divu, Rem, Remu}

abbrev pub branch_name : BranchOp → List ℕ
branch_name Beq = codes "beq"
branch_name Bne = codes "bne"
branch_name Blt = codes "blt"
branch_name Bge = codes "bge"
branch_name Bltu = codes "bltu"
branch_name Bgeu = codes "bgeu"

abbrev pub load_name : LoadOp → List ℕ
load_name Lb = codes "lb"
load_name Lh = codes "lh"
load_name Lw = codes "lw"
load_name Lbu = codes "lbu"
load_name Lhu = codes "lhu"

abbrev pub store_name : StoreOp → List ℕ
store_name Sb = codes "sb"
store_name Sh = codes "sh"
store_name Sw = codes "sw"

-- operations on a register and an immediate
abbrev pub immediate_name : ImmOp → List ℕ
immediate_name Addi = codes "addi"
immediate_name Slti = codes "slti"
immediate_name Sltiu = codes "sltiu"
immediate_name Xori = codes "xori"
immediate_name Ori = codes "ori"
immediate_name Andi = codes "andi"
immediate_name Slli = codes "slli"
immediate_name Srli = codes "srli"
immediate_name Srai = codes "srai"

-- operations on two registers
abbrev pub register_name : RegOp → List ℕ
register_name Add = codes "add"
register_name Sub = codes "sub"
register_name Sll = codes "sll"
register_name Slt = codes "slt"
register_name Sltu = codes "sltu"
register_name Xor = codes "xor"
register_name Srl = codes "srl"
register_name Sra = codes "sra"
register_name Or = codes "or"
register_name And = codes "and"
register_name Mul = codes "mul"
register_name Mulh = codes "mulh"
register_name Mulhsu = codes "mulhsu"
register_name Mulhu = codes "mulhu"
register_name Div = codes "div"
register_name Divu = codes "divu"
register_name Rem = codes "rem"
register_name Remu = codes "remu"
