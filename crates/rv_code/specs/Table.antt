-- The instruction table of RV32IM (RISC-V unprivileged manual, chapter "RV32/64G Instruction Set Listings"): a list of
-- pairs of an instruction's form and the fields that are fixed in it. A word means the form whose fixed fields it has,
-- with the other fields free, and is no instruction where it has those of none. Words with a funct3 or funct7 that the
-- table doesn't have, of CSR instructions and of FENCE.I are no instructions here.
use Rattle.std.specs.Prelude.{◌≡◌, ℕ, Bool, true, pos, List, [], ◌∷◌, if◌then◌else◌, ◌==◌, Some, slice_get}
use Rattle.std.specs.List.{list_all}
use Rattle.rv_code.specs.declared.instr.Instr.{Instr}
use Rattle.rv_code.specs.declared.instr.Instr.TheVariants.{Lui, Auipc, Jal, Jalr, Branch, Load, Store, OpImm, Op, Fence, Ecall, Ebreak, Bad}
use Rattle.rv_code.specs.declared.instr.BranchOp.{BranchOp}
use Rattle.rv_code.specs.declared.instr.BranchOp.TheVariants.{Beq, Bne, Blt, Bge, Bltu, Bgeu}
use Rattle.rv_code.specs.declared.instr.LoadOp.{LoadOp}
use Rattle.rv_code.specs.declared.instr.LoadOp.TheVariants.{Lb, Lh, Lw, Lbu, Lhu}
use Rattle.rv_code.specs.declared.instr.StoreOp.{StoreOp}
use Rattle.rv_code.specs.declared.instr.StoreOp.TheVariants.{Sb, Sh, Sw}
use Rattle.rv_code.specs.declared.instr.ImmOp.{ImmOp}
use Rattle.rv_code.specs.declared.instr.ImmOp.TheVariants.{Addi, Slti, Sltiu, Xori, Ori, Andi, Slli, Srli, Srai}
use Rattle.rv_code.specs.declared.instr.RegOp.{RegOp}
use Rattle.rv_code.specs.declared.instr.RegOp.TheVariants.{Add, Sub, Sll, Slt, Sltu, Xor, Srl, Sra, Or, And, Mul, Mulh, Mulhsu, Mulhu, Div, Divu, Rem, Remu}
use Rattle.rv_code.specs.Fields.{opcode, rd, funct3, rs1, rs2, funct7, imm_i, imm_s, imm_b, imm_u, imm_j}

-- what an instruction is, before its free fields are read
pub data Form : Type 0 where
  OfLui : Form
  OfAuipc : Form
  OfJal : Form
  OfJalr : Form
  OfBranch : BranchOp → Form
  OfLoad : LoadOp → Form
  OfStore : StoreOp → Form
  -- an operation whose immediate is that of the format I
  OfOpImm : ImmOp → Form
  -- a shift, whose amount stands in the field of rs2
  OfShift : ImmOp → Form
  OfOp : RegOp → Form
  OfFence : Form
  OfEcall : Form
  OfEbreak : Form

pub data Field : Type 0 where
  Opcode : Field
  Rd : Field
  Funct3 : Field
  Rs1 : Field
  Rs2 : Field
  Funct7 : Field

abbrev pub value_in : ℕ → Field → ℕ
value_in word Opcode = opcode word
value_in word Rd = rd word
value_in word Funct3 = funct3 word
value_in word Rs1 = rs1 word
value_in word Rs2 = rs2 word
value_in word Funct7 = funct7 word

-- a field and the value that it has in each word of a form
pub record Fixed : Type 0 where
  pub field : Field
  pub value : ℕ

pub record Entry : Type 0 where
  pub form : Form
  pub fixed : List Fixed

abbrev pub is : Field → ℕ → Fixed
is field value = record { field = field; value = value }

-- an entry that fixes the opcode alone
abbrev pub by_opcode : Form → ℕ → Entry
by_opcode form opcode = record { form = form; fixed = is Opcode opcode ∷ [] }

-- an entry that fixes opcode and funct3
abbrev pub by_funct3 : Form → ℕ → ℕ → Entry
by_funct3 form opcode funct3 = record { form = form; fixed = is Opcode opcode ∷ is Funct3 funct3 ∷ [] }

-- an entry that fixes opcode, funct3 and funct7
abbrev pub by_funct7 : Form → ℕ → ℕ → ℕ → Entry
by_funct7 form opcode funct3 funct7 = record { form = form; fixed = is Opcode opcode ∷ is Funct3 funct3 ∷ is Funct7 funct7 ∷ [] }

-- an entry that fixes the whole word, of which all but the opcode and the field of rs2 is 0
abbrev pub by_word : Form → ℕ → ℕ → Entry
by_word form opcode rs2 =
    record { form = form; fixed = is Opcode opcode ∷ is Rd 0 ∷ is Funct3 0 ∷ is Rs1 0 ∷ is Rs2 rs2 ∷ is Funct7 0 ∷ [] }

abbrev pub instruction_table : List Entry
instruction_table =
    by_opcode OfLui 0x37
    ∷ by_opcode OfAuipc 0x17
    ∷ by_opcode OfJal 0x6f
    ∷ by_funct3 OfJalr 0x67 0
    ∷ by_funct3 (OfBranch Beq) 0x63 0
    ∷ by_funct3 (OfBranch Bne) 0x63 1
    ∷ by_funct3 (OfBranch Blt) 0x63 4
    ∷ by_funct3 (OfBranch Bge) 0x63 5
    ∷ by_funct3 (OfBranch Bltu) 0x63 6
    ∷ by_funct3 (OfBranch Bgeu) 0x63 7
    ∷ by_funct3 (OfLoad Lb) 0x03 0
    ∷ by_funct3 (OfLoad Lh) 0x03 1
    ∷ by_funct3 (OfLoad Lw) 0x03 2
    ∷ by_funct3 (OfLoad Lbu) 0x03 4
    ∷ by_funct3 (OfLoad Lhu) 0x03 5
    ∷ by_funct3 (OfStore Sb) 0x23 0
    ∷ by_funct3 (OfStore Sh) 0x23 1
    ∷ by_funct3 (OfStore Sw) 0x23 2
    ∷ by_funct3 (OfOpImm Addi) 0x13 0
    ∷ by_funct3 (OfOpImm Slti) 0x13 2
    ∷ by_funct3 (OfOpImm Sltiu) 0x13 3
    ∷ by_funct3 (OfOpImm Xori) 0x13 4
    ∷ by_funct3 (OfOpImm Ori) 0x13 6
    ∷ by_funct3 (OfOpImm Andi) 0x13 7
    ∷ by_funct7 (OfShift Slli) 0x13 1 0x00
    ∷ by_funct7 (OfShift Srli) 0x13 5 0x00
    ∷ by_funct7 (OfShift Srai) 0x13 5 0x20
    ∷ by_funct7 (OfOp Add) 0x33 0 0x00
    ∷ by_funct7 (OfOp Sub) 0x33 0 0x20
    ∷ by_funct7 (OfOp Sll) 0x33 1 0x00
    ∷ by_funct7 (OfOp Slt) 0x33 2 0x00
    ∷ by_funct7 (OfOp Sltu) 0x33 3 0x00
    ∷ by_funct7 (OfOp Xor) 0x33 4 0x00
    ∷ by_funct7 (OfOp Srl) 0x33 5 0x00
    ∷ by_funct7 (OfOp Sra) 0x33 5 0x20
    ∷ by_funct7 (OfOp Or) 0x33 6 0x00
    ∷ by_funct7 (OfOp And) 0x33 7 0x00
    ∷ by_funct7 (OfOp Mul) 0x33 0 0x01
    ∷ by_funct7 (OfOp Mulh) 0x33 1 0x01
    ∷ by_funct7 (OfOp Mulhsu) 0x33 2 0x01
    ∷ by_funct7 (OfOp Mulhu) 0x33 3 0x01
    ∷ by_funct7 (OfOp Div) 0x33 4 0x01
    ∷ by_funct7 (OfOp Divu) 0x33 5 0x01
    ∷ by_funct7 (OfOp Rem) 0x33 6 0x01
    ∷ by_funct7 (OfOp Remu) 0x33 7 0x01
    ∷ by_funct3 OfFence 0x0f 0
    ∷ by_word OfEcall 0x73 0
    ∷ by_word OfEbreak 0x73 1
    ∷ []

-- the word has each field as the entry fixes it
abbrev pub agrees : ℕ → Entry → Bool
agrees word entry = list_all (λ fixed. value_in word fixed.field == fixed.value) entry.fixed

-- a word of this form, with its free fields read
abbrev pub read_as : Form → ℕ → Instr
read_as OfLui word = Lui (rd word) (imm_u word)
read_as OfAuipc word = Auipc (rd word) (imm_u word)
read_as OfJal word = Jal (rd word) (imm_j word)
read_as OfJalr word = Jalr (rd word) (rs1 word) (imm_i word)
read_as (OfBranch op) word = Branch op (rs1 word) (rs2 word) (imm_b word)
read_as (OfLoad op) word = Load op (rd word) (rs1 word) (imm_i word)
read_as (OfStore op) word = Store op (rs1 word) (rs2 word) (imm_s word)
read_as (OfOpImm op) word = OpImm op (rd word) (rs1 word) (imm_i word)
read_as (OfShift op) word = OpImm op (rd word) (rs1 word) (pos (rs2 word))
read_as (OfOp op) word = Op op (rd word) (rs1 word) (rs2 word)
read_as OfFence word = Fence word
read_as OfEcall word = Ecall
read_as OfEbreak word = Ebreak

-- what a word means by these entries
abbrev pub meaning_by : List Entry → ℕ → Instr
meaning_by [] word = Bad word
meaning_by (entry ∷ entries) word = if agrees word entry then read_as entry.form word else meaning_by entries word

-- what a word means
unfoldable pub meaning_of : ℕ → Instr
meaning_of word = meaning_by instruction_table word

-- no word agrees with the entries at two places of the table
abbrev pub AreApart : List Entry → Type 0
AreApart table =
    (word i j : ℕ) (one other : Entry) → slice_get table i ≡ Some one → slice_get table j ≡ Some other
    → agrees word one ≡ true → agrees word other ≡ true → i ≡ j
