-- The word of an instruction that fits means it.
use Rattle.std.proofs.Common.{◌≡◌, ℕ, ◌+◌, ◌*◌, ◌%◌, ◌^◌, ◌<◌, true, cond, eqb, Option, Some, None, ℤ, pos, negsuc, refl, ap, ◌∙◌, subst, arith}
use Rattle.std.specs.Prelude.{if◌then◌else◌, ◌==◌}
use Rattle.rv_code.specs.declared.instr.Instr.{Instr}
use Rattle.rv_code.specs.declared.instr.Instr.TheVariants.{Lui, Auipc, Jal, Jalr, Branch, Load, Store, OpImm, Op, Fence, Ecall, Ebreak, Bad}
use Rattle.rv_code.specs.declared.instr.BranchOp.{BranchOp}
use Rattle.rv_code.specs.declared.instr.BranchOp.TheVariants.{Beq, Bne, Blt, Bge, Bltu, Bgeu}
use Rattle.rv_code.specs.declared.instr.LoadOp.{LoadOp}
use Rattle.rv_code.specs.declared.instr.LoadOp.TheVariants.{Lb, Lh, Lw, Lbu, Lhu}
use Rattle.rv_code.specs.declared.instr.StoreOp.{StoreOp}
use Rattle.rv_code.specs.declared.instr.StoreOp.TheVariants.{Sb, Sh, Sw}
use Rattle.rv_code.specs.declared.instr.ImmOp.{ImmOp}
use Rattle.rv_code.specs.declared.instr.ImmOp.TheVariants.{Addi, Slti, Sltiu, Xori, Ori, Andi, Slli, Srli, Srai}
use Rattle.rv_code.specs.declared.instr.RegOp.{RegOp}
use Rattle.rv_code.specs.declared.instr.RegOp.TheVariants.{Add, Sub, Sll, Slt, Sltu, Xor, Srl, Sra, Or, And, Mul, Mulh, Mulhsu, Mulhu, Div, Divu, Rem, Remu}
use Rattle.rv_code.specs.Fields.{field, opcode, rd, funct3, rs1, rs2, funct7, imm_i, imm_s, imm_b, imm_u, imm_j}
use Rattle.rv_code.specs.Numbers.{IsWord, sign_extended, unsigned}
use Rattle.rv_code.specs.Table.{meaning_of}
use Rattle.rv_code.specs.Levels.{branch_op, load_op, store_op, imm_op, shift_op, reg_op, by_op, jalr_meaning, branch_meaning, load_meaning, store_meaning, shift_meaning, op_imm_meaning, op_meaning, fence_meaning, system_meaning}
use Rattle.rv_code.specs.Encoding.{r_word, i_word, s_word, b_word, u_word, j_word, branch_funct3, load_funct3, store_funct3, op_funct3, op_funct7, op_imm_word, word_of, IsBelow, Fits}
use Rattle.rv_code.proofs.Levels.{meaning_of-levels}
use Rattle.rv_code.proofs.WordFields.{r_word-HasFields, i_word-number, i_word-HasFields, s_word-HasFields, s_word-number, b_word-HasFields, b_word-number, u_word-fields, j_word-fields, turn_i, turn_b, turn_j, sign_extended-unsigned}

-- the meaning in levels, at the opcode as a variable
abbrev at_opcode : ℕ → ℕ → Instr
at_opcode o word =
    if o == 0x37 then Lui (rd word) (imm_u word)
    else (if o == 0x17 then Auipc (rd word) (imm_u word)
    else (if o == 0x6f then Jal (rd word) (imm_j word)
    else (if o == 0x67 then jalr_meaning word
    else (if o == 0x63 then branch_meaning word
    else (if o == 0x03 then load_meaning word
    else (if o == 0x23 then store_meaning word
    else (if o == 0x13 then op_imm_meaning word
    else (if o == 0x33 then op_meaning word
    else (if o == 0x0f then fence_meaning word
    else (if o == 0x73 then system_meaning word else Bad word))))))))))

-- the meaning of a word with this opcode
means : (o word : ℕ) → word < 2 ^ 32 → opcode word ≡ o → meaning_of word ≡ at_opcode o word
means o word fits is = meaning_of-levels word fits ∙ subst (λ n. at_opcode (opcode word) word ≡ at_opcode n word) is refl

is_chosen : {Op : Type 0} (otherwise : Instr) (made : Op → Instr) (found : Option Op) (op : Op) → found ≡ Some op → by_op otherwise made found ≡ made op
is_chosen otherwise made found op is = ap (by_op otherwise made) is

-- the operations by their numbers

branch_op-branch_funct3 : (op : BranchOp) → (branch_op (branch_funct3 op) ≡ Some op) × (branch_funct3 op < 8)
branch_op-branch_funct3 Beq = (refl, omega arith)
branch_op-branch_funct3 Bne = (refl, omega arith)
branch_op-branch_funct3 Blt = (refl, omega arith)
branch_op-branch_funct3 Bge = (refl, omega arith)
branch_op-branch_funct3 Bltu = (refl, omega arith)
branch_op-branch_funct3 Bgeu = (refl, omega arith)

load_op-load_funct3 : (op : LoadOp) → (load_op (load_funct3 op) ≡ Some op) × (load_funct3 op < 8)
load_op-load_funct3 Lb = (refl, omega arith)
load_op-load_funct3 Lh = (refl, omega arith)
load_op-load_funct3 Lw = (refl, omega arith)
load_op-load_funct3 Lbu = (refl, omega arith)
load_op-load_funct3 Lhu = (refl, omega arith)

store_op-store_funct3 : (op : StoreOp) → (store_op (store_funct3 op) ≡ Some op) × (store_funct3 op < 8)
store_op-store_funct3 Sb = (refl, omega arith)
store_op-store_funct3 Sh = (refl, omega arith)
store_op-store_funct3 Sw = (refl, omega arith)

abbrev HasNumbers : RegOp → Type 0
HasNumbers op = (reg_op (op_funct3 op) (op_funct7 op) ≡ Some op) × (op_funct3 op < 8) × (op_funct7 op < 128)

has_numbers : (op : RegOp) → HasNumbers op
has_numbers Add = (refl, omega arith, omega arith)
has_numbers Sub = (refl, omega arith, omega arith)
has_numbers Sll = (refl, omega arith, omega arith)
has_numbers Slt = (refl, omega arith, omega arith)
has_numbers Sltu = (refl, omega arith, omega arith)
has_numbers Xor = (refl, omega arith, omega arith)
has_numbers Srl = (refl, omega arith, omega arith)
has_numbers Sra = (refl, omega arith, omega arith)
has_numbers Or = (refl, omega arith, omega arith)
has_numbers And = (refl, omega arith, omega arith)
has_numbers Mul = (refl, omega arith, omega arith)
has_numbers Mulh = (refl, omega arith, omega arith)
has_numbers Mulhsu = (refl, omega arith, omega arith)
has_numbers Mulhu = (refl, omega arith, omega arith)
has_numbers Div = (refl, omega arith, omega arith)
has_numbers Divu = (refl, omega arith, omega arith)
has_numbers Rem = (refl, omega arith, omega arith)
has_numbers Remu = (refl, omega arith, omega arith)

-- the word of each format means its instruction

signed_i : (o f d a : ℕ) (imm : ℤ) → o < 128 → f < 8 → d < 32 → a < 32 → IsBelow (2 ^ 11) imm → imm_i (i_word o f d a (unsigned imm)) ≡ imm
signed_i o f d a imm ho hf hd ha below =
    ap (sign_extended (2 ^ 11)) (i_word-number o f d a (unsigned imm) ho hf hd ha) ∙ sign_extended-unsigned (2 ^ 11) imm turn_i below

means_lui : (d imm : ℕ) → Fits (Lui d imm) → meaning_of (word_of (Lui d imm)) ≡ Lui d imm
means_lui d imm (register, fits, whole) =
    let word = u_word 0x37 d imm in
    let (small, op, the_rd, the_imm) = u_word-fields 0x37 d imm (omega arith) register fits whole in
    let at : meaning_of word ≡ Lui (rd word) (imm_u word) = means 0x37 word small op in
    at ∙ (ap (λ n. Lui n (imm_u word)) the_rd ∙ ap (Lui d) the_imm)

means_auipc : (d imm : ℕ) → Fits (Auipc d imm) → meaning_of (word_of (Auipc d imm)) ≡ Auipc d imm
means_auipc d imm (register, fits, whole) =
    let word = u_word 0x17 d imm in
    let (small, op, the_rd, the_imm) = u_word-fields 0x17 d imm (omega arith) register fits whole in
    let at : meaning_of word ≡ Auipc (rd word) (imm_u word) = means 0x17 word small op in
    at ∙ (ap (λ n. Auipc n (imm_u word)) the_rd ∙ ap (Auipc d) the_imm)

means_jal : (d : ℕ) (imm : ℤ) → Fits (Jal d imm) → meaning_of (word_of (Jal d imm)) ≡ Jal d imm
means_jal d imm (register, below, even) =
    let word = j_word 0x6f d (unsigned imm) in
    let (small, op, the_rd, number) = j_word-fields 0x6f d (unsigned imm) (omega arith) register even in
    let at : meaning_of word ≡ Jal (rd word) (imm_j word) = means 0x6f word small op in
    let the_imm : imm_j word ≡ imm = ap (sign_extended (2 ^ 20)) number ∙ sign_extended-unsigned (2 ^ 20) imm turn_j below in
    at ∙ (ap (λ n. Jal n (imm_j word)) the_rd ∙ ap (Jal d) the_imm)

means_jalr : (d a : ℕ) (imm : ℤ) → Fits (Jalr d a imm) → meaning_of (word_of (Jalr d a imm)) ≡ Jalr d a imm
means_jalr d a imm (register, source, below) =
    let word = i_word 0x67 0 d a (unsigned imm) in
    let fields = i_word-HasFields 0x67 0 d a (unsigned imm) (omega arith) (omega arith) register source in
    let at : meaning_of word ≡ cond (eqb (funct3 word) 0) (Jalr (rd word) (rs1 word) (imm_i word)) (Bad word) = means 0x67 word fields.fits fields.the_opcode in
    let zero : eqb (funct3 word) 0 ≡ true = ap (λ n. eqb n 0) fields.the_funct3 in
    at ∙ (ap (λ b. cond b (Jalr (rd word) (rs1 word) (imm_i word)) (Bad word)) zero
    ∙ (ap (λ n. Jalr n (rs1 word) (imm_i word)) fields.the_rd
    ∙ (ap (λ n. Jalr d n (imm_i word)) fields.the_rs1 ∙ ap (Jalr d a) (signed_i 0x67 0 d a imm (omega arith) (omega arith) register source below))))

means_branch : (op : BranchOp) (a b : ℕ) (imm : ℤ) → Fits (Branch op a b imm) → meaning_of (word_of (Branch op a b imm)) ≡ Branch op a b imm
means_branch op a b imm (first, second, below, even) =
    let word = b_word 0x63 (branch_funct3 op) a b (unsigned imm) in
    let small : branch_funct3 op < 8 = (branch_op-branch_funct3 op).1 in
    let fields = b_word-HasFields 0x63 (branch_funct3 op) a b (unsigned imm) (omega arith) small first second in
    let at : meaning_of word ≡ branch_meaning word = means 0x63 word fields.fits fields.the_opcode in
    let found : branch_op (funct3 word) ≡ Some op = ap branch_op fields.the_funct3 ∙ (branch_op-branch_funct3 op).0 in
    let the_imm : imm_b word ≡ imm =
    ap (sign_extended (2 ^ 12)) (b_word-number 0x63 (branch_funct3 op) a b (unsigned imm) (omega arith) small first second even) ∙ sign_extended-unsigned (2 ^ 12) imm turn_b below
    in
    at ∙ (is_chosen (Bad word) (λ op. Branch op (rs1 word) (rs2 word) (imm_b word)) (branch_op (funct3 word)) op found
    ∙ (ap (λ n. Branch op n (rs2 word) (imm_b word)) fields.the_rs1
    ∙ (ap (λ n. Branch op a n (imm_b word)) fields.the_rs2 ∙ ap (Branch op a b) the_imm)))

means_load : (op : LoadOp) (d a : ℕ) (imm : ℤ) → Fits (Load op d a imm) → meaning_of (word_of (Load op d a imm)) ≡ Load op d a imm
means_load op d a imm (register, source, below) =
    let word = i_word 0x03 (load_funct3 op) d a (unsigned imm) in
    let small : load_funct3 op < 8 = (load_op-load_funct3 op).1 in
    let fields = i_word-HasFields 0x03 (load_funct3 op) d a (unsigned imm) (omega arith) small register source in
    let at : meaning_of word ≡ load_meaning word = means 0x03 word fields.fits fields.the_opcode in
    let found : load_op (funct3 word) ≡ Some op = ap load_op fields.the_funct3 ∙ (load_op-load_funct3 op).0 in
    at ∙ (is_chosen (Bad word) (λ op. Load op (rd word) (rs1 word) (imm_i word)) (load_op (funct3 word)) op found
    ∙ (ap (λ n. Load op n (rs1 word) (imm_i word)) fields.the_rd
    ∙ (ap (λ n. Load op d n (imm_i word)) fields.the_rs1 ∙ ap (Load op d a) (signed_i 0x03 (load_funct3 op) d a imm (omega arith) small register source below))))

means_store : (op : StoreOp) (a b : ℕ) (imm : ℤ) → Fits (Store op a b imm) → meaning_of (word_of (Store op a b imm)) ≡ Store op a b imm
means_store op a b imm (first, second, below) =
    let word = s_word 0x23 (store_funct3 op) a b (unsigned imm) in
    let small : store_funct3 op < 8 = (store_op-store_funct3 op).1 in
    let fields = s_word-HasFields 0x23 (store_funct3 op) a b (unsigned imm) (omega arith) small first second in
    let at : meaning_of word ≡ store_meaning word = means 0x23 word fields.fits fields.the_opcode in
    let found : store_op (funct3 word) ≡ Some op = ap store_op fields.the_funct3 ∙ (store_op-store_funct3 op).0 in
    let number : funct7 word * 2 ^ 5 + rd word ≡ unsigned imm % 2 ^ 12 =
    ap (λ n. n * 2 ^ 5 + rd word) fields.the_funct7 ∙ (ap (λ n. field (unsigned imm) 5 7 * 2 ^ 5 + n) fields.the_rd ∙ s_word-number (unsigned imm))
    in
    let the_imm : imm_s word ≡ imm = ap (sign_extended (2 ^ 11)) number ∙ sign_extended-unsigned (2 ^ 11) imm turn_i below in
    at ∙ (is_chosen (Bad word) (λ op. Store op (rs1 word) (rs2 word) (imm_s word)) (store_op (funct3 word)) op found
    ∙ (ap (λ n. Store op n (rs2 word) (imm_s word)) fields.the_rs1
    ∙ (ap (λ n. Store op a n (imm_s word)) fields.the_rs2 ∙ ap (Store op a b) the_imm)))

means_op_imm : (op : ImmOp) (f d a : ℕ) (imm : ℤ) → imm_op f ≡ Some op → f < 8 → d < 32 → a < 32 → IsBelow (2 ^ 11) imm
    → meaning_of (i_word 0x13 f d a (unsigned imm)) ≡ OpImm op d a imm
means_op_imm op f d a imm is small register source below =
    let word = i_word 0x13 f d a (unsigned imm) in
    let fields = i_word-HasFields 0x13 f d a (unsigned imm) (omega arith) small register source in
    let at : meaning_of word ≡ op_imm_meaning word = means 0x13 word fields.fits fields.the_opcode in
    let found : imm_op (funct3 word) ≡ Some op = ap imm_op fields.the_funct3 ∙ is in
    at ∙ (is_chosen (shift_meaning word) (λ op. OpImm op (rd word) (rs1 word) (imm_i word)) (imm_op (funct3 word)) op found
    ∙ (ap (λ n. OpImm op n (rs1 word) (imm_i word)) fields.the_rd
    ∙ (ap (λ n. OpImm op d n (imm_i word)) fields.the_rs1 ∙ ap (OpImm op d a) (signed_i 0x13 f d a imm (omega arith) small register source below))))

means_shift : (op : ImmOp) (f g d a n : ℕ) → imm_op f ≡ None → shift_op f g ≡ Some op → f < 8 → g < 128 → d < 32 → a < 32 → n < 32
    → meaning_of (r_word 0x13 f g d a n) ≡ OpImm op d a (pos n)
means_shift op f g d a n none is small narrow register source below =
    let word = r_word 0x13 f g d a n in
    let fields = r_word-HasFields 0x13 f g d a n (omega arith) small narrow register source below in
    let at : meaning_of word ≡ op_imm_meaning word = means 0x13 word fields.fits fields.the_opcode in
    let passed : imm_op (funct3 word) ≡ None = ap imm_op fields.the_funct3 ∙ none in
    let found : shift_op (funct3 word) (funct7 word) ≡ Some op = ap (λ n. shift_op n (funct7 word)) fields.the_funct3 ∙ (ap (shift_op f) fields.the_funct7 ∙ is) in
    at ∙ (ap (by_op (shift_meaning word) (λ op. OpImm op (rd word) (rs1 word) (imm_i word))) passed
    ∙ (is_chosen (Bad word) (λ op. OpImm op (rd word) (rs1 word) (pos (rs2 word))) (shift_op (funct3 word) (funct7 word)) op found
    ∙ (ap (λ n. OpImm op n (rs1 word) (pos (rs2 word))) fields.the_rd
    ∙ (ap (λ n. OpImm op d n (pos (rs2 word))) fields.the_rs1 ∙ ap (λ n. OpImm op d a (pos n)) fields.the_rs2))))

abbrev MeansOpImm : ImmOp → (d a : ℕ) → ℤ → Type 0
MeansOpImm op d a imm = Fits (OpImm op d a imm) → meaning_of (word_of (OpImm op d a imm)) ≡ OpImm op d a imm

means_any_op_imm : (op : ImmOp) (d a : ℕ) (imm : ℤ) → MeansOpImm op d a imm
means_any_op_imm Addi d a imm (register, source, below) = means_op_imm Addi 0 d a imm refl (omega arith) register source below
means_any_op_imm Slti d a imm (register, source, below) = means_op_imm Slti 2 d a imm refl (omega arith) register source below
means_any_op_imm Sltiu d a imm (register, source, below) = means_op_imm Sltiu 3 d a imm refl (omega arith) register source below
means_any_op_imm Xori d a imm (register, source, below) = means_op_imm Xori 4 d a imm refl (omega arith) register source below
means_any_op_imm Ori d a imm (register, source, below) = means_op_imm Ori 6 d a imm refl (omega arith) register source below
means_any_op_imm Andi d a imm (register, source, below) = means_op_imm Andi 7 d a imm refl (omega arith) register source below
means_any_op_imm Slli d a (pos n) (register, source, below) = means_shift Slli 1 0x00 d a n refl refl (omega arith) (omega arith) register source below
means_any_op_imm Slli d a (negsuc n) (register, source, below) = absurd below
means_any_op_imm Srli d a (pos n) (register, source, below) = means_shift Srli 5 0x00 d a n refl refl (omega arith) (omega arith) register source below
means_any_op_imm Srli d a (negsuc n) (register, source, below) = absurd below
means_any_op_imm Srai d a (pos n) (register, source, below) = means_shift Srai 5 0x20 d a n refl refl (omega arith) (omega arith) register source below
means_any_op_imm Srai d a (negsuc n) (register, source, below) = absurd below

means_op : (op : RegOp) (d a b : ℕ) → Fits (Op op d a b) → meaning_of (word_of (Op op d a b)) ≡ Op op d a b
means_op op d a b (register, first, second) =
    let word = r_word 0x33 (op_funct3 op) (op_funct7 op) d a b in
    let (is, small, narrow) = has_numbers op in
    let fields = r_word-HasFields 0x33 (op_funct3 op) (op_funct7 op) d a b (omega arith) small narrow register first second in
    let at : meaning_of word ≡ op_meaning word = means 0x33 word fields.fits fields.the_opcode in
    let found : reg_op (funct3 word) (funct7 word) ≡ Some op = ap (λ n. reg_op n (funct7 word)) fields.the_funct3 ∙ (ap (reg_op (op_funct3 op)) fields.the_funct7 ∙ is) in
    at ∙ (is_chosen (Bad word) (λ op. Op op (rd word) (rs1 word) (rs2 word)) (reg_op (funct3 word) (funct7 word)) op found
    ∙ (ap (λ n. Op op n (rs1 word) (rs2 word)) fields.the_rd
    ∙ (ap (λ n. Op op d n (rs2 word)) fields.the_rs1 ∙ ap (Op op d a) fields.the_rs2)))

-- the word of an instruction that fits means it
pub meaning_of-word_of : (instr : Instr) → Fits instr → meaning_of (word_of instr) ≡ instr
meaning_of-word_of (Lui d imm) fits = means_lui d imm fits
meaning_of-word_of (Auipc d imm) fits = means_auipc d imm fits
meaning_of-word_of (Jal d imm) fits = means_jal d imm fits
meaning_of-word_of (Jalr d a imm) fits = means_jalr d a imm fits
meaning_of-word_of (Branch op a b imm) fits = means_branch op a b imm fits
meaning_of-word_of (Load op d a imm) fits = means_load op d a imm fits
meaning_of-word_of (Store op a b imm) fits = means_store op a b imm fits
meaning_of-word_of (OpImm op d a imm) fits = means_any_op_imm op d a imm fits
meaning_of-word_of (Op op d a b) fits = means_op op d a b fits
meaning_of-word_of (Fence word) fits = fits.1
meaning_of-word_of Ecall fits = means 0x73 0x73 (omega arith) refl
meaning_of-word_of Ebreak fits = means 0x73 0x0010_0073 (omega arith) refl
meaning_of-word_of (Bad word) fits = fits.1

op_imm_word-IsWord : (op : ImmOp) (d a : ℕ) (imm : ℤ) → Fits (OpImm op d a imm) → IsWord (op_imm_word op d a (unsigned imm))
op_imm_word-IsWord Addi d a imm (register, source, below) = omega arith
op_imm_word-IsWord Slti d a imm (register, source, below) = omega arith
op_imm_word-IsWord Sltiu d a imm (register, source, below) = omega arith
op_imm_word-IsWord Xori d a imm (register, source, below) = omega arith
op_imm_word-IsWord Ori d a imm (register, source, below) = omega arith
op_imm_word-IsWord Andi d a imm (register, source, below) = omega arith
op_imm_word-IsWord Slli d a (pos n) (register, source, below) = omega arith
op_imm_word-IsWord Slli d a (negsuc n) (register, source, below) = absurd below
op_imm_word-IsWord Srli d a (pos n) (register, source, below) = omega arith
op_imm_word-IsWord Srli d a (negsuc n) (register, source, below) = absurd below
op_imm_word-IsWord Srai d a (pos n) (register, source, below) = omega arith
op_imm_word-IsWord Srai d a (negsuc n) (register, source, below) = absurd below

-- the word of an instruction that fits has 32 bits
pub word_of-IsWord : (instr : Instr) → Fits instr → IsWord (word_of instr)
word_of-IsWord (Lui d imm) (register, fits, whole) = omega arith
word_of-IsWord (Auipc d imm) (register, fits, whole) = omega arith
word_of-IsWord (Jal d imm) (register, below, even) = omega arith
word_of-IsWord (Jalr d a imm) (register, source, below) = omega arith
word_of-IsWord (Branch op a b imm) (first, second, below, even) =
    (b_word-HasFields 0x63 (branch_funct3 op) a b (unsigned imm) (omega arith) (branch_op-branch_funct3 op).1 first second).fits
word_of-IsWord (Load op d a imm) (register, source, below) =
    (i_word-HasFields 0x03 (load_funct3 op) d a (unsigned imm) (omega arith) (load_op-load_funct3 op).1 register source).fits
word_of-IsWord (Store op a b imm) (first, second, below) =
    (s_word-HasFields 0x23 (store_funct3 op) a b (unsigned imm) (omega arith) (store_op-store_funct3 op).1 first second).fits
word_of-IsWord (OpImm op d a imm) fits = op_imm_word-IsWord op d a imm fits
word_of-IsWord (Op op d a b) (register, first, second) =
    (r_word-HasFields 0x33 (op_funct3 op) (op_funct7 op) d a b (omega arith) (has_numbers op).1 (has_numbers op).2 register first second).fits
word_of-IsWord (Fence word) fits = fits.0
word_of-IsWord Ecall fits = omega arith
word_of-IsWord Ebreak fits = omega arith
word_of-IsWord (Bad word) fits = fits.0
