-- The instruction table's meaning of a word is the one found in two levels.
use Rattle.std.proofs.Common.{◌≡◌, ℕ, ◌+◌, ◌*◌, ◌^◌, ◌<◌, Bool, true, false, cond, ◌&&◌, eqb, List, [], ◌∷◌, Option, sym, refl, ap, ◌∙◌, subst, inl, inr, arith}
use Rattle.std.proofs.lemmas.Bool.{cases_eq, ne_eqb, eqb-true, and_parts, false_from_ne_true}
use Rattle.std.specs.List.{list_all}
use Rattle.std.specs.Prelude.{◌==◌, if◌then◌else◌}
use Rattle.rv_code.specs.declared.instr.Instr.{Instr}
use Rattle.rv_code.specs.declared.instr.Instr.TheVariants.{Bad}
use Rattle.rv_code.specs.Fields.{opcode, rd, funct3, rs1, rs2, funct7}
use Rattle.rv_code.specs.Table.{Form, Field, Entry, value_in, instruction_table, agrees, read_as, meaning_by, meaning_of}
use Rattle.rv_code.specs.Table.Form.{OfLui, OfAuipc, OfJal, OfJalr, OfBranch, OfLoad, OfStore, OfOpImm, OfShift, OfOp, OfFence}
use Rattle.rv_code.specs.Table.Field.{Opcode, Rd, Funct3, Rs1, Rs2, Funct7}
use Rattle.rv_code.specs.Levels.{branch_op, load_op, store_op, imm_op, shift_op, reg_op, by_op, meaning_in_levels, system_meaning}

-- The fields of a word are variables below, so that tests of numerals compute: o is its opcode, d its rd, f its funct3,
-- a its rs1, b its rs2 and g its funct7.
abbrev fields_of : (o d f a b g : ℕ) → Field → ℕ
fields_of o d f a b g Opcode = o
fields_of o d f a b g Rd = d
fields_of o d f a b g Funct3 = f
fields_of o d f a b g Rs1 = a
fields_of o d f a b g Rs2 = b
fields_of o d f a b g Funct7 = g

-- what entries read of such fields
abbrev read_by : (Field → ℕ) → (Form → Instr) → Instr → List Entry → Instr
read_by value made otherwise [] = otherwise
read_by value made otherwise (entry ∷ entries) =
    if list_all (λ fixed. value fixed.field == fixed.value) entry.fixed then made entry.form
    else read_by value made otherwise entries

abbrev by_table : (o d f a b g : ℕ) → (Form → Instr) → Instr → Instr
by_table o d f a b g made otherwise = read_by (fields_of o d f a b g) made otherwise instruction_table

chosen-cond : {Op : Type 0} (otherwise : Instr) (made : Op → Instr) (test : Bool) (x y : Option Op)
    → by_op otherwise made (cond test x y) ≡ cond test (by_op otherwise made x) (by_op otherwise made y)
chosen-cond otherwise made true x y = refl
chosen-cond otherwise made false x y = refl

and-true : (b : Bool) → b && true ≡ b
and-true true = refl
and-true false = refl

and-false : (b : Bool) → b && false ≡ false
and-false true = refl
and-false false = refl

-- at one opcode each, the table's entries of it in two levels

at_jalr : (d f a b g : ℕ) (made : Form → Instr) (otherwise : Instr)
    → by_table 0x67 d f a b g made otherwise ≡ cond (eqb f 0) (made OfJalr) otherwise
at_jalr d f a b g made otherwise = simp and-true

at_branch : (d f a b g : ℕ) (made : Form → Instr) (otherwise : Instr)
    → by_table 0x63 d f a b g made otherwise ≡ by_op otherwise (λ op. made (OfBranch op)) (branch_op f)
at_branch d f a b g made otherwise = simp (and-true, chosen-cond)

at_load : (d f a b g : ℕ) (made : Form → Instr) (otherwise : Instr)
    → by_table 0x03 d f a b g made otherwise ≡ by_op otherwise (λ op. made (OfLoad op)) (load_op f)
at_load d f a b g made otherwise = simp (and-true, chosen-cond)

at_store : (d f a b g : ℕ) (made : Form → Instr) (otherwise : Instr)
    → by_table 0x23 d f a b g made otherwise ≡ by_op otherwise (λ op. made (OfStore op)) (store_op f)
at_store d f a b g made otherwise = simp (and-true, chosen-cond)

at_fence : (d f a b g : ℕ) (made : Form → Instr) (otherwise : Instr)
    → by_table 0x0f d f a b g made otherwise ≡ cond (eqb f 0) (made OfFence) otherwise
at_fence d f a b g made otherwise = simp and-true

-- a fact at each number, from it at one number, and at the others that differ from that one
split : (n k : ℕ) (P : ℕ → Type 0) → P k → (eqb n k ≡ false → P n) → P n
split n k P here elsewhere =
    elim (cases_eq n k) [ inl e ↦ subst P (sym e) here | inr differs ↦ elsewhere (ne_eqb n k differs) ]

abbrev OpImmLevels : (d f a b g : ℕ) (made : Form → Instr) (otherwise : Instr) → Type 0
OpImmLevels d f a b g made otherwise =
    by_table 0x13 d f a b g made otherwise
    ≡ by_op (by_op otherwise (λ op. made (OfShift op)) (shift_op f g)) (λ op. made (OfOpImm op)) (imm_op f)

at_op_imm : (d f a b g : ℕ) (made : Form → Instr) (otherwise : Instr) → OpImmLevels d f a b g made otherwise
at_op_imm d f a b g made otherwise =
    split g 0x00 (λ n. OpImmLevels d f a b n made otherwise) (simp (and-true, and-false, chosen-cond))
    λ h0. split g 0x20 (λ n. OpImmLevels d f a b n made otherwise) (simp (and-true, and-false, chosen-cond))
    λ h1. simp (h0, h1, and-true, and-false, chosen-cond)

abbrev OpLevels : (d f a b g : ℕ) (made : Form → Instr) (otherwise : Instr) → Type 0
OpLevels d f a b g made otherwise =
    by_table 0x33 d f a b g made otherwise ≡ by_op otherwise (λ op. made (OfOp op)) (reg_op f g)

at_op : (d f a b g : ℕ) (made : Form → Instr) (otherwise : Instr) → OpLevels d f a b g made otherwise
at_op d f a b g made otherwise =
    split g 0x00 (λ n. OpLevels d f a b n made otherwise) (simp (and-true, and-false, chosen-cond))
    λ h0. split g 0x20 (λ n. OpLevels d f a b n made otherwise) (simp (and-true, and-false, chosen-cond))
    λ h1. split g 0x01 (λ n. OpLevels d f a b n made otherwise) (simp (and-true, and-false, chosen-cond))
    λ h2. simp (h0, h1, h2, and-true, and-false, chosen-cond)

-- that the field of rs2 has this value, and all others but the opcode are 0
abbrev has_source : (d f a b g source : ℕ) → Bool
has_source d f a b g source = eqb d 0 && (eqb f 0 && (eqb a 0 && (eqb b source && (eqb g 0 && true))))

record Source (d f a b g source : ℕ) : Type 0 where
  zero_rd : d ≡ 0
  zero_funct3 : f ≡ 0
  zero_rs1 : a ≡ 0
  the_source : b ≡ source
  zero_funct7 : g ≡ 0

Source-has_source : (d f a b g source : ℕ) → has_source d f a b g source ≡ true → Source d f a b g source
Source-has_source d f a b g source h =
    let from_rd = and_parts (eqb d 0) (eqb f 0 && (eqb a 0 && (eqb b source && (eqb g 0 && true)))) h in
    let from_funct3 = and_parts (eqb f 0) (eqb a 0 && (eqb b source && (eqb g 0 && true))) from_rd.1 in
    let from_rs1 = and_parts (eqb a 0) (eqb b source && (eqb g 0 && true)) from_funct3.1 in
    let from_rs2 = and_parts (eqb b source) (eqb g 0 && true) from_rs1.1 in
    let from_funct7 = and_parts (eqb g 0) true from_rs2.1 in
    record {
      zero_rd = eqb-true d 0 from_rd.0;
      zero_funct3 = eqb-true f 0 from_funct3.0;
      zero_rs1 = eqb-true a 0 from_rs1.0;
      the_source = eqb-true b source from_rs2.0;
      zero_funct7 = eqb-true g 0 from_funct7.0;
    }

-- the whole word that the fields of a system instruction make
system_word : (word source : ℕ) → word < 2 ^ 32 → opcode word ≡ 0x73
    → has_source (rd word) (funct3 word) (rs1 word) (rs2 word) (funct7 word) source ≡ true → word ≡ 0x73 + source * 2 ^ 20
system_word word source small op h =
    let fields = Source-has_source (rd word) (funct3 word) (rs1 word) (rs2 word) (funct7 word) source h in
    omega arith

abbrev SystemLevels : (word : ℕ) → Type 0
SystemLevels word =
    by_table 0x73 (rd word) (funct3 word) (rs1 word) (rs2 word) (funct7 word) (λ form. read_as form word) (Bad word)
    ≡ system_meaning word

at_system : (word : ℕ) → word < 2 ^ 32 → opcode word ≡ 0x73 → SystemLevels word
at_system word small op =
    elim (cases_eq word 0x73) [
      | inl e ↦ subst SystemLevels (sym e) refl
      | inr n ↦ elim (cases_eq word 0x0010_0073) [
        | inl e ↦ subst SystemLevels (sym e) refl
        | inr m ↦
            let h0 = false_from_ne_true _ (λ t. n (system_word word 0 small op t)) in
            let h1 = false_from_ne_true _ (λ t. m (system_word word 1 small op t)) in
            simp (h0, h1, ne_eqb _ _ n, ne_eqb _ _ m)
      ]
    ]

-- both meanings at the opcode as a variable
abbrev by_levels : (o f g : ℕ) → (Form → Instr) → Instr → Instr → Instr
by_levels o f g made system otherwise =
    if o == 0x37 then made OfLui
    else (if o == 0x17 then made OfAuipc
    else (if o == 0x6f then made OfJal
    else (if o == 0x67 then cond (eqb f 0) (made OfJalr) otherwise
    else (if o == 0x63 then by_op otherwise (λ op. made (OfBranch op)) (branch_op f)
    else (if o == 0x03 then by_op otherwise (λ op. made (OfLoad op)) (load_op f)
    else (if o == 0x23 then by_op otherwise (λ op. made (OfStore op)) (store_op f)
    else (if o == 0x13
    then by_op (by_op otherwise (λ op. made (OfShift op)) (shift_op f g)) (λ op. made (OfOpImm op)) (imm_op f)
    else (if o == 0x33 then by_op otherwise (λ op. made (OfOp op)) (reg_op f g)
    else (if o == 0x0f then cond (eqb f 0) (made OfFence) otherwise
    else (if o == 0x73 then system else otherwise))))))))))

by_table-levels : (o d f a b g : ℕ) (made : Form → Instr) (system otherwise : Instr)
    → (o ≡ 0x73 → by_table 0x73 d f a b g made otherwise ≡ system)
    → by_table o d f a b g made otherwise ≡ by_levels o f g made system otherwise
by_table-levels o d f a b g made system otherwise at_system =
    let P : ℕ → Type 0 = λ n. by_table n d f a b g made otherwise ≡ by_levels n f g made system otherwise in
    elim (cases_eq o 0x73) [
      | inl e ↦ subst P (sym e) (at_system e)
      | inr n ↦
          split o 0x37 P refl λ h0. split o 0x17 P refl λ h1. split o 0x6f P refl
          λ h2. split o 0x67 P (at_jalr d f a b g made otherwise)
          λ h3. split o 0x63 P (at_branch d f a b g made otherwise)
          λ h4. split o 0x03 P (at_load d f a b g made otherwise)
          λ h5. split o 0x23 P (at_store d f a b g made otherwise)
          λ h6. split o 0x13 P (at_op_imm d f a b g made otherwise)
          λ h7. split o 0x33 P (at_op d f a b g made otherwise)
          λ h8. split o 0x0f P (at_fence d f a b g made otherwise)
          λ h9. simp (h0, h1, h2, h3, h4, h5, h6, h7, h8, h9, ne_eqb o 0x73 n)
    ]

read_by-meaning : (entries : List Entry) (word : ℕ)
    → meaning_by entries word ≡ read_by (value_in word) (λ form. read_as form word) (Bad word) entries
read_by-meaning [] word = refl
read_by-meaning (entry ∷ entries) word =
    ap (cond (agrees word entry) (read_as entry.form word)) (read_by-meaning entries word)

pub meaning_of-levels : (word : ℕ) → word < 2 ^ 32 → meaning_of word ≡ meaning_in_levels word
unfolding meaning_of
meaning_of-levels word small =
    read_by-meaning instruction_table word
    ∙ by_table-levels (opcode word) (rd word) (funct3 word) (rs1 word) (rs2 word) (funct7 word) (λ form. read_as form word)
    (system_meaning word) (Bad word) (at_system word small)

-- as the decoder cites it
pub meaning_from_levels : (word : ℕ) → word < 2 ^ 32 → (instr : Instr) → instr ≡ meaning_in_levels word → instr ≡ meaning_of word
meaning_from_levels word small instr e = e ∙ sym (meaning_of-levels word small)
