-- What a word means fits, and has that word and no other.
use Rattle.std.proofs.Common.{◌≡◌, ℕ, ◌+◌, ◌*◌, ◌%◌, ◌^◌, ◌<◌, Bool, true, false, cond, eqb, Option, Some, None, ℤ, pos, sym, refl, ap, ◌∙◌, subst, arith}
use Rattle.std.proofs.lemmas.Bool.{eqb-true, cond_both}
use Rattle.rv_code.specs.declared.instr.Instr.{Instr}
use Rattle.rv_code.specs.declared.instr.Instr.TheVariants.{Lui, Auipc, Jal, Jalr, Branch, Load, Store, OpImm, Op, Fence, Ecall, Ebreak, Bad}
use Rattle.rv_code.specs.declared.instr.BranchOp.{BranchOp}
use Rattle.rv_code.specs.declared.instr.BranchOp.TheVariants.{Beq, Bne, Blt, Bge, Bltu, Bgeu}
use Rattle.rv_code.specs.declared.instr.LoadOp.{LoadOp}
use Rattle.rv_code.specs.declared.instr.LoadOp.TheVariants.{Lb, Lh, Lw, Lbu, Lhu}
use Rattle.rv_code.specs.declared.instr.StoreOp.{StoreOp}
use Rattle.rv_code.specs.declared.instr.StoreOp.TheVariants.{Sb, Sh, Sw}
use Rattle.rv_code.specs.declared.instr.ImmOp.{ImmOp}
use Rattle.rv_code.specs.declared.instr.ImmOp.TheVariants.{Addi, Slti, Sltiu, Xori, Ori, Andi, Slli, Srli, Srai}
use Rattle.rv_code.specs.declared.instr.RegOp.{RegOp}
use Rattle.rv_code.specs.declared.instr.RegOp.TheVariants.{Add, Sub, Sll, Slt, Sltu, Xor, Srl, Sra, Or, And, Mul, Mulh, Mulhsu, Mulhu, Div, Divu, Rem, Remu}
use Rattle.rv_code.specs.Fields.{field, opcode, rd, funct3, rs1, rs2, funct7, imm_i, imm_s, imm_b, imm_u, imm_j}
use Rattle.rv_code.specs.Numbers.{IsWord, unsigned}
use Rattle.rv_code.specs.Table.{meaning_of}
use Rattle.rv_code.specs.Levels.{branch_op, load_op, store_op, imm_op, shift_op, base_op, other_op, product_op, reg_op, by_op, jalr_meaning, branch_meaning, load_meaning, store_meaning, shift_meaning, op_imm_meaning, op_meaning, fence_meaning, system_meaning, meaning_in_levels}
use Rattle.rv_code.specs.Encoding.{r_word, i_word, s_word, b_word, u_word, j_word, branch_funct3, load_funct3, store_funct3, op_funct3, op_funct7, op_imm_word, word_of, IsBelow, FitsOp, Fits}
use Rattle.rv_code.proofs.Levels.{meaning_of-levels}
use Rattle.rv_code.proofs.WordFields.{r_word-of, i_word-of, s_word-of, number_b, b_word-of, number_b-even, number_b-below, u_word-of, imm_u-whole, number_j, j_word-of, number_j-even, number_j-below, turn_i, turn_b, turn_j, unsigned-sign_extended, sign_extended-IsBelow}

-- an instruction that a word means has that word, and fits
record Back (word : ℕ) (instr : Instr) : Type 0 where
  again : word_of instr ≡ word
  fits : meaning_of word ≡ instr → Fits instr

-- what is found by the first of two tests, or else by the second
found_by : {Op : Type 0} (P : Op → Type 0) (test : Bool) (first : Op) (others : Option Op) (op : Op) → cond test (Some first) others ≡ Some op
    → (test ≡ true → P first) → (others ≡ Some op → P op) → P op
found_by P true first others op found here there = let same : first ≡ op = cc in subst P same (here refl)
found_by P false first others op found here there = there found

-- the same where each test leads to a table
found_in : {Op : Type 0} (P : Type 0) (test : Bool) (first others : Option Op) (op : Op) → cond test first others ≡ Some op
    → (test ≡ true → first ≡ Some op → P) → (others ≡ Some op → P) → P
found_in P true first others op found here there = here refl found
found_in P false first others op found here there = there found

branch_op_numbers : (f : ℕ) (op : BranchOp) → branch_op f ≡ Some op → f ≡ branch_funct3 op
branch_op_numbers f op found =
    let P : BranchOp → Type 0 = λ op. f ≡ branch_funct3 op in
    found_by P (eqb f 0) Beq _ op found (eqb-true f 0)
    λ found. found_by P (eqb f 1) Bne _ op found (eqb-true f 1)
    λ found. found_by P (eqb f 4) Blt _ op found (eqb-true f 4)
    λ found. found_by P (eqb f 5) Bge _ op found (eqb-true f 5)
    λ found. found_by P (eqb f 6) Bltu _ op found (eqb-true f 6)
    λ found. found_by P (eqb f 7) Bgeu None op found (eqb-true f 7)
    λ found. absurd (cc)

load_op_numbers : (f : ℕ) (op : LoadOp) → load_op f ≡ Some op → f ≡ load_funct3 op
load_op_numbers f op found =
    let P : LoadOp → Type 0 = λ op. f ≡ load_funct3 op in
    found_by P (eqb f 0) Lb _ op found (eqb-true f 0)
    λ found. found_by P (eqb f 1) Lh _ op found (eqb-true f 1)
    λ found. found_by P (eqb f 2) Lw _ op found (eqb-true f 2)
    λ found. found_by P (eqb f 4) Lbu _ op found (eqb-true f 4)
    λ found. found_by P (eqb f 5) Lhu None op found (eqb-true f 5)
    λ found. absurd (cc)

store_op_numbers : (f : ℕ) (op : StoreOp) → store_op f ≡ Some op → f ≡ store_funct3 op
store_op_numbers f op found =
    let P : StoreOp → Type 0 = λ op. f ≡ store_funct3 op in
    found_by P (eqb f 0) Sb _ op found (eqb-true f 0)
    λ found. found_by P (eqb f 1) Sh _ op found (eqb-true f 1)
    λ found. found_by P (eqb f 2) Sw None op found (eqb-true f 2)
    λ found. absurd (cc)

-- an operation with these numbers
abbrev IsNumbered : (f g : ℕ) → RegOp → Type 0
IsNumbered f g op = (f ≡ op_funct3 op) × (g ≡ op_funct7 op)

reg_op_numbers : (f g : ℕ) (op : RegOp) → reg_op f g ≡ Some op → IsNumbered f g op
reg_op_numbers f g op found =
    let P : RegOp → Type 0 = IsNumbered f g in
    found_in (P op) (eqb g 0x00) (base_op f) _ op found
    (λ test found.
    let is : g ≡ 0x00 = eqb-true g 0x00 test in
    found_by P (eqb f 0) Add _ op found (λ t. (eqb-true f 0 t, is))
    λ found. found_by P (eqb f 1) Sll _ op found (λ t. (eqb-true f 1 t, is))
    λ found. found_by P (eqb f 2) Slt _ op found (λ t. (eqb-true f 2 t, is))
    λ found. found_by P (eqb f 3) Sltu _ op found (λ t. (eqb-true f 3 t, is))
    λ found. found_by P (eqb f 4) Xor _ op found (λ t. (eqb-true f 4 t, is))
    λ found. found_by P (eqb f 5) Srl _ op found (λ t. (eqb-true f 5 t, is))
    λ found. found_by P (eqb f 6) Or _ op found (λ t. (eqb-true f 6 t, is))
    λ found. found_by P (eqb f 7) And None op found (λ t. (eqb-true f 7 t, is))
    λ found. absurd (cc))
    λ found. found_in (P op) (eqb g 0x20) (other_op f) _ op found
    (λ test found.
    let is : g ≡ 0x20 = eqb-true g 0x20 test in
    found_by P (eqb f 0) Sub _ op found (λ t. (eqb-true f 0 t, is))
    λ found. found_by P (eqb f 5) Sra None op found (λ t. (eqb-true f 5 t, is))
    λ found. absurd (cc))
    λ found. found_in (P op) (eqb g 0x01) (product_op f) None op found
    (λ test found.
    let is : g ≡ 0x01 = eqb-true g 0x01 test in
    found_by P (eqb f 0) Mul _ op found (λ t. (eqb-true f 0 t, is))
    λ found. found_by P (eqb f 1) Mulh _ op found (λ t. (eqb-true f 1 t, is))
    λ found. found_by P (eqb f 2) Mulhsu _ op found (λ t. (eqb-true f 2 t, is))
    λ found. found_by P (eqb f 3) Mulhu _ op found (λ t. (eqb-true f 3 t, is))
    λ found. found_by P (eqb f 4) Div _ op found (λ t. (eqb-true f 4 t, is))
    λ found. found_by P (eqb f 5) Divu _ op found (λ t. (eqb-true f 5 t, is))
    λ found. found_by P (eqb f 6) Rem _ op found (λ t. (eqb-true f 6 t, is))
    λ found. found_by P (eqb f 7) Remu None op found (λ t. (eqb-true f 7 t, is))
    λ found. absurd (cc))
    λ found. absurd (cc)

-- an operation on an immediate of the format I, and a shift
record IsPlainOp (f : ℕ) (op : ImmOp) : Type 0 where
  word : (d a imm : ℕ) → op_imm_word op d a imm ≡ i_word 0x13 f d a imm
  fits : (imm : ℤ) → IsBelow (2 ^ 11) imm → FitsOp op imm

record IsShiftOp (f g : ℕ) (op : ImmOp) : Type 0 where
  word : (d a imm : ℕ) → op_imm_word op d a imm ≡ r_word 0x13 f g d a imm
  fits : (n : ℕ) → n < 32 → FitsOp op (pos n)

imm_op_numbers : (f : ℕ) (op : ImmOp) → imm_op f ≡ Some op → IsPlainOp f op
imm_op_numbers f op found =
    let same : (k : ℕ) → eqb f k ≡ true → (d a imm : ℕ) → i_word 0x13 k d a imm ≡ i_word 0x13 f d a imm =
    λ k t d a imm. ap (λ n. i_word 0x13 n d a imm) (sym (eqb-true f k t))
    in
    found_by (IsPlainOp f) (eqb f 0) Addi _ op found (λ t. record { word = same 0 t; fits = λ imm below. below })
    λ found. found_by (IsPlainOp f) (eqb f 2) Slti _ op found (λ t. record { word = same 2 t; fits = λ imm below. below })
    λ found. found_by (IsPlainOp f) (eqb f 3) Sltiu _ op found (λ t. record { word = same 3 t; fits = λ imm below. below })
    λ found. found_by (IsPlainOp f) (eqb f 4) Xori _ op found (λ t. record { word = same 4 t; fits = λ imm below. below })
    λ found. found_by (IsPlainOp f) (eqb f 6) Ori _ op found (λ t. record { word = same 6 t; fits = λ imm below. below })
    λ found. found_by (IsPlainOp f) (eqb f 7) Andi None op found (λ t. record { word = same 7 t; fits = λ imm below. below })
    λ found. absurd (cc)

shift_op_numbers : (f g : ℕ) (op : ImmOp) → shift_op f g ≡ Some op → IsShiftOp f g op
shift_op_numbers f g op found =
    let same : (k m : ℕ) → eqb f k ≡ true → eqb g m ≡ true → (d a imm : ℕ) → r_word 0x13 k m d a imm ≡ r_word 0x13 f g d a imm =
    λ k m t u d a imm. ap (λ n. r_word 0x13 n m d a imm) (sym (eqb-true f k t)) ∙ ap (λ n. r_word 0x13 f n d a imm) (sym (eqb-true g m u))
    in
    found_in (IsShiftOp f g op) (eqb g 0x00) _ _ op found
    (λ u found.
    found_by (IsShiftOp f g) (eqb f 1) Slli _ op found (λ t. record { word = same 1 0x00 t u; fits = λ n below. below })
    λ found. found_by (IsShiftOp f g) (eqb f 5) Srli None op found (λ t. record { word = same 5 0x00 t u; fits = λ n below. below })
    λ found. absurd (cc))
    λ found. found_in (IsShiftOp f g op) (eqb g 0x20) _ None op found
    (λ u found.
    found_by (IsShiftOp f g) (eqb f 5) Srai None op found (λ t. record { word = same 5 0x20 t u; fits = λ n below. below })
    λ found. absurd (cc))
    λ found. absurd (cc)

chosen_cases : {Op : Type 0} (P : Instr → Type 0) (otherwise : Instr) (made : Op → Instr) (found : Option Op)
    → P otherwise → ((op : Op) → found ≡ Some op → P (made op)) → P (by_op otherwise made found)
chosen_cases P otherwise made None none some = none
chosen_cases P otherwise made (Some op) none some = some op refl

-- the immediates of a word
back_i : (word : ℕ) → unsigned (imm_i word) % 2 ^ 12 ≡ field word 20 12
back_i word = unsigned-sign_extended (2 ^ 11) (field word 20 12) turn_i (omega arith)

below_i : (word : ℕ) → IsBelow (2 ^ 11) (imm_i word)
below_i word = sign_extended-IsBelow (2 ^ 11) (field word 20 12) (omega arith)

back_s : (word : ℕ) → unsigned (imm_s word) % 2 ^ 12 ≡ field word 25 7 * 2 ^ 5 + field word 7 5
back_s word = unsigned-sign_extended (2 ^ 11) (field word 25 7 * 2 ^ 5 + field word 7 5) turn_i (omega arith)

below_s : (word : ℕ) → IsBelow (2 ^ 11) (imm_s word)
below_s word = sign_extended-IsBelow (2 ^ 11) (field word 25 7 * 2 ^ 5 + field word 7 5) (omega arith)

back_b : (word : ℕ) → unsigned (imm_b word) % 2 ^ 13 ≡ number_b word
back_b word = unsigned-sign_extended (2 ^ 12) (number_b word) turn_b (number_b-below word)

back_j : (word : ℕ) → unsigned (imm_j word) % 2 ^ 21 ≡ number_j word
back_j word = unsigned-sign_extended (2 ^ 20) (number_j word) turn_j (number_j-below word)

even_b : (n number : ℕ) → n % 2 ^ 13 ≡ number → number % 2 ≡ 0 → n % 2 ≡ 0
even_b n number same even = omega arith

even_j : (n number : ℕ) → n % 2 ^ 21 ≡ number → number % 2 ≡ 0 → n % 2 ≡ 0
even_j n number same even = omega arith

back_bad : (word : ℕ) → word < 2 ^ 32 → Back word (Bad word)
back_bad word small = record { again = refl; fits = λ is. (small, is) }

back_lui : (word : ℕ) → word < 2 ^ 32 → opcode word ≡ 0x37 → Back word (Lui (rd word) (imm_u word))
back_lui word small op =
    record {
      again = ap (λ o. u_word o (rd word) (imm_u word)) (sym op) ∙ u_word-of word small;
      fits = λ _. (omega arith, (imm_u-whole word).0, (imm_u-whole word).1);
    }

back_auipc : (word : ℕ) → word < 2 ^ 32 → opcode word ≡ 0x17 → Back word (Auipc (rd word) (imm_u word))
back_auipc word small op =
    record {
      again = ap (λ o. u_word o (rd word) (imm_u word)) (sym op) ∙ u_word-of word small;
      fits = λ _. (omega arith, (imm_u-whole word).0, (imm_u-whole word).1);
    }

back_jal : (word : ℕ) → word < 2 ^ 32 → opcode word ≡ 0x6f → Back word (Jal (rd word) (imm_j word))
back_jal word small op =
    record {
      again = ap (λ o. j_word o (rd word) (unsigned (imm_j word))) (sym op) ∙ j_word-of word (unsigned (imm_j word)) small (back_j word);
      fits = λ _. (
        omega arith,
        sign_extended-IsBelow (2 ^ 20) (number_j word) (number_j-below word),
        even_j (unsigned (imm_j word)) (number_j word) (back_j word) (number_j-even word),
      );
    }

back_jalr : (word : ℕ) → word < 2 ^ 32 → opcode word ≡ 0x67 → Back word (jalr_meaning word)
back_jalr word small op =
    cond_both (eqb (funct3 word) 0) (Jalr (rd word) (rs1 word) (imm_i word)) (Bad word) (Back word)
    (λ zero.
    record {
      again =
          ap (λ o. i_word o 0 (rd word) (rs1 word) (unsigned (imm_i word))) (sym op)
          ∙ (ap (λ f. i_word (opcode word) f (rd word) (rs1 word) (unsigned (imm_i word))) (sym (eqb-true (funct3 word) 0 zero))
          ∙ i_word-of word (unsigned (imm_i word)) small (back_i word));
      fits = λ _. (omega arith, omega arith, below_i word);
    })
    (λ _. back_bad word small)

back_branch : (word : ℕ) → word < 2 ^ 32 → opcode word ≡ 0x63 → Back word (branch_meaning word)
back_branch word small op =
    chosen_cases (Back word) (Bad word) (λ op. Branch op (rs1 word) (rs2 word) (imm_b word)) (branch_op (funct3 word)) (back_bad word small)
    (λ name found.
    record {
      again =
          ap (λ o. b_word o (branch_funct3 name) (rs1 word) (rs2 word) (unsigned (imm_b word))) (sym op)
          ∙ (ap (λ f. b_word (opcode word) f (rs1 word) (rs2 word) (unsigned (imm_b word))) (sym (branch_op_numbers (funct3 word) name found))
          ∙ b_word-of word (unsigned (imm_b word)) small (back_b word));
      fits = λ _. (
        omega arith,
        omega arith,
        sign_extended-IsBelow (2 ^ 12) (number_b word) (number_b-below word),
        even_b (unsigned (imm_b word)) (number_b word) (back_b word) (number_b-even word),
      );
    })

back_load : (word : ℕ) → word < 2 ^ 32 → opcode word ≡ 0x03 → Back word (load_meaning word)
back_load word small op =
    chosen_cases (Back word) (Bad word) (λ op. Load op (rd word) (rs1 word) (imm_i word)) (load_op (funct3 word)) (back_bad word small)
    (λ name found.
    record {
      again =
          ap (λ o. i_word o (load_funct3 name) (rd word) (rs1 word) (unsigned (imm_i word))) (sym op)
          ∙ (ap (λ f. i_word (opcode word) f (rd word) (rs1 word) (unsigned (imm_i word))) (sym (load_op_numbers (funct3 word) name found))
          ∙ i_word-of word (unsigned (imm_i word)) small (back_i word));
      fits = λ _. (omega arith, omega arith, below_i word);
    })

back_store : (word : ℕ) → word < 2 ^ 32 → opcode word ≡ 0x23 → Back word (store_meaning word)
back_store word small op =
    chosen_cases (Back word) (Bad word) (λ op. Store op (rs1 word) (rs2 word) (imm_s word)) (store_op (funct3 word)) (back_bad word small)
    (λ name found.
    record {
      again =
          ap (λ o. s_word o (store_funct3 name) (rs1 word) (rs2 word) (unsigned (imm_s word))) (sym op)
          ∙ (ap (λ f. s_word (opcode word) f (rs1 word) (rs2 word) (unsigned (imm_s word))) (sym (store_op_numbers (funct3 word) name found))
          ∙ s_word-of word (unsigned (imm_s word)) small (back_s word));
      fits = λ _. (omega arith, omega arith, below_s word);
    })

back_shift : (word : ℕ) → word < 2 ^ 32 → opcode word ≡ 0x13 → Back word (shift_meaning word)
back_shift word small op =
    chosen_cases (Back word) (Bad word) (λ op. OpImm op (rd word) (rs1 word) (pos (rs2 word))) (shift_op (funct3 word) (funct7 word)) (back_bad word small)
    (λ name found.
    let is = shift_op_numbers (funct3 word) (funct7 word) name found in
    record {
      again =
          is.word (rd word) (rs1 word) (rs2 word)
          ∙ (ap (λ o. r_word o (funct3 word) (funct7 word) (rd word) (rs1 word) (rs2 word)) (sym op) ∙ r_word-of word small);
      fits = λ _. (omega arith, omega arith, is.fits (rs2 word) (omega arith));
    })

back_op_imm : (word : ℕ) → word < 2 ^ 32 → opcode word ≡ 0x13 → Back word (op_imm_meaning word)
back_op_imm word small op =
    chosen_cases (Back word) (shift_meaning word) (λ op. OpImm op (rd word) (rs1 word) (imm_i word)) (imm_op (funct3 word)) (back_shift word small op)
    (λ name found.
    let is = imm_op_numbers (funct3 word) name found in
    record {
      again =
          is.word (rd word) (rs1 word) (unsigned (imm_i word))
          ∙ (ap (λ o. i_word o (funct3 word) (rd word) (rs1 word) (unsigned (imm_i word))) (sym op)
          ∙ i_word-of word (unsigned (imm_i word)) small (back_i word));
      fits = λ _. (omega arith, omega arith, is.fits (imm_i word) (below_i word));
    })

back_op : (word : ℕ) → word < 2 ^ 32 → opcode word ≡ 0x33 → Back word (op_meaning word)
back_op word small op =
    chosen_cases (Back word) (Bad word) (λ op. Op op (rd word) (rs1 word) (rs2 word)) (reg_op (funct3 word) (funct7 word)) (back_bad word small)
    (λ name found.
    let (f, g) = reg_op_numbers (funct3 word) (funct7 word) name found in
    record {
      again =
          ap (λ o. r_word o (op_funct3 name) (op_funct7 name) (rd word) (rs1 word) (rs2 word)) (sym op)
          ∙ (ap (λ n. r_word (opcode word) n (op_funct7 name) (rd word) (rs1 word) (rs2 word)) (sym f)
          ∙ (ap (λ n. r_word (opcode word) (funct3 word) n (rd word) (rs1 word) (rs2 word)) (sym g) ∙ r_word-of word small));
      fits = λ _. (omega arith, omega arith, omega arith);
    })

back_fence : (word : ℕ) → word < 2 ^ 32 → Back word (fence_meaning word)
back_fence word small =
    cond_both (eqb (funct3 word) 0) (Fence word) (Bad word) (Back word) (λ _. record { again = refl; fits = λ is. (small, is) }) (λ _. back_bad word small)

back_system : (word : ℕ) → word < 2 ^ 32 → Back word (system_meaning word)
back_system word small =
    cond_both (eqb word 0x0000_0073) Ecall (cond (eqb word 0x0010_0073) Ebreak (Bad word)) (Back word)
    (λ is. record { again = sym (eqb-true word 0x0000_0073 is); fits = λ _. tt })
    λ _. cond_both (eqb word 0x0010_0073) Ebreak (Bad word) (Back word)
    (λ is. record { again = sym (eqb-true word 0x0010_0073 is); fits = λ _. tt })
    (λ _. back_bad word small)

back : (word : ℕ) → word < 2 ^ 32 → Back word (meaning_in_levels word)
back word small =
    let o = opcode word in
    cond_both (eqb o 0x37) _ _ (Back word) (λ is. back_lui word small (eqb-true o 0x37 is))
    λ _. cond_both (eqb o 0x17) _ _ (Back word) (λ is. back_auipc word small (eqb-true o 0x17 is))
    λ _. cond_both (eqb o 0x6f) _ _ (Back word) (λ is. back_jal word small (eqb-true o 0x6f is))
    λ _. cond_both (eqb o 0x67) _ _ (Back word) (λ is. back_jalr word small (eqb-true o 0x67 is))
    λ _. cond_both (eqb o 0x63) _ _ (Back word) (λ is. back_branch word small (eqb-true o 0x63 is))
    λ _. cond_both (eqb o 0x03) _ _ (Back word) (λ is. back_load word small (eqb-true o 0x03 is))
    λ _. cond_both (eqb o 0x23) _ _ (Back word) (λ is. back_store word small (eqb-true o 0x23 is))
    λ _. cond_both (eqb o 0x13) _ _ (Back word) (λ is. back_op_imm word small (eqb-true o 0x13 is))
    λ _. cond_both (eqb o 0x33) _ _ (Back word) (λ is. back_op word small (eqb-true o 0x33 is))
    λ _. cond_both (eqb o 0x0f) _ _ (Back word) (λ _. back_fence word small)
    λ _. cond_both (eqb o 0x73) _ _ (Back word) (λ _. back_system word small) (λ _. back_bad word small)

-- what a word means has this word
pub word_of-meaning_of : (word : ℕ) → IsWord word → word_of (meaning_of word) ≡ word
word_of-meaning_of word small = ap word_of (meaning_of-levels word small) ∙ (back word small).again

-- what a word means fits
pub meaning_of-Fits : (word : ℕ) → IsWord word → Fits (meaning_of word)
meaning_of-Fits word small =
    let same = meaning_of-levels word small in subst Fits (sym same) ((back word small).fits same)

-- the word that `Fence` and `Bad` keep is the word itself
pub fence_keeps_its_word : (word kept : ℕ) → IsWord word → meaning_of word ≡ Fence kept → meaning_of word ≡ Fence word
fence_keeps_its_word word kept small is =
    let same : kept ≡ word = sym (ap word_of is) ∙ word_of-meaning_of word small in
    subst (λ n. meaning_of word ≡ Fence n) same is

pub bad_keeps_its_word : (word kept : ℕ) → IsWord word → meaning_of word ≡ Bad kept → meaning_of word ≡ Bad word
bad_keeps_its_word word kept small is =
    let same : kept ≡ word = sym (ap word_of is) ∙ word_of-meaning_of word small in
    subst (λ n. meaning_of word ≡ Bad n) same is

-- two words that mean one instruction are one
pub one_word : (word other : ℕ) → IsWord word → IsWord other → meaning_of word ≡ meaning_of other → word ≡ other
one_word word other small narrow same = sym (word_of-meaning_of word small) ∙ (ap word_of same ∙ word_of-meaning_of other narrow)
